-- A member in range: what it hears leaves it so, and a leader in range sends from places of its log.
use Rattle.std.proofs.Common.{◌≡◌, ℕ, ◌+◌, ◌<◌, nat_lt, [], ◌∷◌, ◌++◌, length, sym, subst, arith, length-append}
use Rattle.std.specs.List.{All}
use Rattle.std.proofs.lemmas.Bool.{cond_both}
use Rattle.craft_base.specs.Knowledge.{Heard}
use Rattle.craft_base.specs.Shape.{Shape}
use Rattle.entry_frames.specs.Durable.{Durable, IsNextEntry}
use Rattle.entry_frames.specs.Limits.{last_place}
use Rattle.entry_frames.specs.Records.{Add}
use Rattle.entry_frames.specs.Stored.{DurableInRange}
use Rattle.entry_frames.specs.declared.role.Role.{Role}
use Rattle.entry_frames.specs.declared.role.Role.TheVariants.{Leader}
use Rattle.entry_frames.proofs.Stored.{term_most}
use Rattle.heard_book.specs.Kept as known
use Rattle.world_model.specs.Nodes.{Node, node_hearing}
use Rattle.world_model.specs.Ranges.{IsOfNoLog, ItemInRange, KnowsInRange, NodeInRange}
use Rattle.world_model.specs.Rules.Acts.{keeping, recording, stays}
use Rattle.world_model.specs.Rules.Prepare.{act_of_beginning, leading, noop}
use Rattle.world_model.specs.Rules.Say.{mode_of_leader}
use Rattle.world_model.proofs.Ranges.Acts.{in_volatile}
use Rattle.world_model.proofs.Ranges.Knowing.{any_logs, hears, knows_as, leader_hears}
use Rattle.world_model.proofs.Ranges.Starts.{starts_within}
use Rattle.node_core.specs.declared.member.Member.{Member}
use Rattle.node_core.specs.Acting.{IsNode, MaySay, StartsInRange}
use Rattle.node_core.proofs.Knowing.{knows_node}

-- one thing more is heard
pub heard_node :
    (m : Member) (heard : known.Kept) (item : Heard) (n : Node) → IsNode m n → heard.window.settled ≡ m.heard.window.settled → known.Hears item m.heard heard →
    IsNode (record m { heard = heard }) (node_hearing item n)
heard_node m heard item n is settled hears =
    let s = is.stands in
    knows_node m heard (item ∷ n.volatile.heard) n is (hears n.shape n.volatile.heard n.volatile.first s.of_heard) (omega (arith, settled, s.settled))

module _ {shape : Shape} {member : ℕ} {n : Node} (a : NodeInRange shape member n) where
  -- of what says nothing of a log
  pub hears_silent : (item : Heard) → IsOfNoLog item → NodeInRange shape member (node_hearing item n)
  hears_silent item silent =
      in_volatile a (node_hearing item n).volatile a.clients (hears n.volatile.role (length n.durable.log) n.volatile.first item n.volatile.heard silent a.knows) a.pages

  -- of a leader
  pub leader_hears_in_range : (item : Heard) → ItemInRange (length n.durable.log) item → n.volatile.role ≡ Leader → NodeInRange shape member (node_hearing item n)
  leader_hears_in_range item ranged leads =
      in_volatile a (node_hearing item n).volatile a.clients
      (subst (λ (role : Role). KnowsInRange role (length n.durable.log) n.volatile.first (item ∷ n.volatile.heard)) (sym leads)
      (leader_hears (length n.durable.log) n.volatile.first item n.volatile.heard ranged (knows_as a Leader leads))) a.pages

  pub leader_starts : n.volatile.role ≡ Leader → StartsInRange n
  leader_starts leads = λ receiver.
      let knows = knows_as a Leader leads in
      starts_within (mode_of_leader n) receiver n.durable.commit n.durable.log n.volatile.heard n.volatile.first knows.2 (knows.0, knows.1)

  pub may_say : (m : Member) → IsNode m n → n.volatile.role ≡ Leader → MaySay m
  may_say m is leads = record { node = n; is = is; starts = leader_starts leads }

-- a new leader sends from places of its log too
pub beginning_starts : (n : Node) → All IsOfNoLog n.volatile.heard → StartsInRange (act_of_beginning n).node
beginning_starts n none = λ receiver.
    let longer : length (n.durable.log ++ noop n.durable.term ∷ []) ≡ length n.durable.log + 1 = length-append n.durable.log (noop n.durable.term ∷ []) in
    cond_both (nat_lt (length n.durable.log) last_place) (recording (Add (noop n.durable.term)) (stays n)) (stays n) (λ act. StartsInRange (keeping (leading n) act).node)
    (λ room receiver. starts_within (mode_of_leader n) receiver n.durable.commit (n.durable.log ++ noop n.durable.term ∷ []) n.volatile.heard (length n.durable.log + 1)
    (any_logs (length (n.durable.log ++ noop n.durable.term ∷ [])) n.volatile.heard none) (omega arith, omega (arith, longer)))
    (λ full receiver. starts_within (mode_of_leader n) receiver n.durable.commit n.durable.log n.volatile.heard (length n.durable.log + 1)
    (any_logs (length n.durable.log) n.volatile.heard none) (omega arith, omega arith))
    receiver

-- an empty entry of the term is the next one, where there is room
pub next_noop : (shape : Shape) (d : Durable) → DurableInRange shape d → length d.log < last_place → IsNextEntry d (noop d.term)
next_noop shape d a room = record {
  room = room;
  no_earlier = term_most shape.need 0 d.term d.log (length d.log) a.stored.entries;
  no_later = omega arith;
}
