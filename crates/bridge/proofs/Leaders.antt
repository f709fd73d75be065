-- One leader a term, in every run.
use Rattle.std.proofs.Common.{◌≡◌, ℕ, ◌+◌, List, true, Option, None, Some, slice_get, refl, subst, ◌∙◌, arith}
use Rattle.craft_base.specs.Shape.{Shape}
use Rattle.entry_frames.specs.Durable.{Durable}
use Rattle.world_model.specs.Nodes.{Volatile}
use Rattle.entry_frames.specs.declared.role.Role.{Role}
use Rattle.entry_frames.specs.declared.role.Role.TheVariants.{Follower, Candidate, Preparing, Leader}
use Rattle.world_model.specs.Safety.{HasWon, LeadsTerm, EverLed, RunsWon}
use Rattle.world_model.specs.declared.line.Line.{Line}
use Rattle.world_model.specs.World as world
use Rattle.protocol.specs.History as protocol
use Rattle.protocol.specs.Moves.{Reached, None_yet}
use Rattle.protocol.proofs.Elections.{votes_reached, one_winner_reached}
use Rattle.bridge.specs.Views.{role_seen}
use Rattle.bridge.specs.Agreement.{WorldAgrees}
use Rattle.bridge.specs.Bridges.{RunBridged}
use Rattle.bridge.specs.Laws.{OneLeaderInEveryRun}
use Rattle.bridge.proofs.Runs.{history_reached, moves_between, runs_are_bridged}
use Rattle.bridge.proofs.Steps.{reached_grows}

-- who leads a term or prepares to has won it
won_as :
    (faults : ℕ) {h : protocol.History} → Reached faults h → (member : ℕ) (role : Role) → h.role member ≡ role_seen role → HasWon role →
    h.won (h.term member) member ≡ true
won_as faults reached member Follower is won = absurd won
won_as faults reached member Candidate is won = absurd won
won_as faults {h = h} reached member Preparing is won = (votes_reached faults h reached).preparing member is
won_as faults {h = h} reached member Leader is won = (votes_reached faults h reached).leading member is

running_won :
    {shape : Shape} {h : protocol.History} {w : world.World} → Reached shape.faults h → WorldAgrees shape h w →
    (term member : ℕ) (d : Durable) (running : Option Volatile) → slice_get w.members member ≡ Some (record { durable = d; running = running }) →
    RunsWon running → d.term ≡ term → h.won term member ≡ true
running_won reached a term member d None here won at = absurd won
running_won {shape = shape} {h = h} reached a term member d (Some volatile) here won at =
    let agrees = a.members member (record { durable = d; running = Some volatile }) here in
    subst (λ t. h.won t member ≡ true) (agrees.term ∙ at) (won_as shape.faults reached member volatile.role agrees.role won)

leader_won :
    {shape : Shape} {h : protocol.History} {w : world.World} → Reached shape.faults h → WorldAgrees shape h w →
    (term member : ℕ) (here : Option world.Member) → slice_get w.members member ≡ here → LeadsTerm here term → h.won term member ≡ true
leader_won reached a term member None here leads = absurd leads
leader_won reached a term member (Some m) here leads = running_won reached a term member m.durable m.running here leads.0 leads.1

module _ {shape : Shape} {events : List Line} (r : RunBridged shape protocol.start (world.start shape) events) where
  -- who ever led a term has won it in each later history
  ever_won : (term member : ℕ) (led : EverLed shape events term member) (more : ℕ) → (r.history (led.0 + more)).won term member ≡ true
  ever_won term member led more =
      let then_reached : Reached shape.faults (r.history led.0) = history_reached r None_yet led.0 in
      let grown = reached_grows then_reached (moves_between r led.0 more) in
      grown.won term member (leader_won then_reached (r.agrees led.0) term member _ refl led.1)

  one_ever_led :
      (term one other : ℕ) → EverLed shape events term one → EverLed shape events term other → one ≡ other
  one_ever_led term one other first second =
      let count = first.0 + second.0 in
      let e : second.0 + first.0 ≡ count = omega arith in
      one_winner_reached shape.faults (r.history count) (history_reached r None_yet count) term one other (ever_won term one first second.0)
      (subst (λ k. (r.history k).won term other ≡ true) e (ever_won term other second first.0))

-- what the crates above cite
pub one_leader_a_term : OneLeaderInEveryRun
one_leader_a_term shape events run = one_ever_led (runs_are_bridged shape events run)
