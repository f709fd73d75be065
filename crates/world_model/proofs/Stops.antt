-- A stop that is carried out: where its records count it is the done event with its outputs lost, and then down; else it is down alone.
-- So what each other event keeps, and what the loss of messages and replies keeps, a stop keeps too.
use Rattle.std.proofs.Common.{◌≡◌, ℕ, List, ◌++◌, Bool, true, false, Option, None, Some, slice_get, length, take, refl, ap, ◌∙◌, subst}
use Rattle.std.specs.List.{All}
use Rattle.std.proofs.Math.Seq.{take-append_seam}
use Rattle.std.proofs.lemmas.List.Elements.{All-take}
use Rattle.entry_frames.specs.Durable.{Durable}
use Rattle.entry_frames.specs.declared.message.Message.{Message}
use Rattle.world_model.specs.Nodes.{Volatile, node_with}
use Rattle.world_model.specs.Turn as turns
use Rattle.world_model.specs.World.{Aim, Member, World, after_stop, after_turn, aim_of, becoming, down_of, down_with, happening, is_applied, running_as, sent_among, stopped, tracing, turn_as, turn_at, turn_of}
use Rattle.world_model.specs.declared.line.Inner.{Inner}
use Rattle.world_model.specs.declared.line.Line.TheVariants.{Do, Stop}
use Rattle.world_model.specs.declared.verdict.Verdict.TheVariants as verdicts
use Rattle.world_model.proofs.Positions.{set_here, set_twice}

-- the later world, where what was told since the earlier one is lost
abbrev pub unsaid : World → World → World
unsaid w now = record now { sent = w.sent; replies = w.replies }

-- what holds of all that was said held of all that was said before
pub said_before : (P : Message → Type 0) (w now : World) (more : List Message) → now.sent ≡ w.sent ++ more → All P now.sent → All P w.sent
said_before P w now more is all = subst (All P) (ap (take (length w.sent)) is ∙ take-append_seam w.sent more) (All-take P (length w.sent) now.sent all)

module _
    (P : World → Type 0) (unsaid_keeps : (w now : World) (more : List Message) → now.sent ≡ w.sent ++ more → P now → P (unsaid w now))
    (down_keeps : (w : World) (me : ℕ) → P w → P (down_of w me (slice_get w.members me)).world)
  where
    goes_down :
        (w : World) (me : ℕ) (d : Durable) (volatile : Volatile) → slice_get w.members me ≡ Some (record { durable = d; running = Some volatile }) → P w →
        P (becoming w verdicts.Stop me (down_with d)).world
    goes_down w me d volatile here p = subst (λ found. P (down_of w me found).world) here (down_keeps w me p)

    -- the records count
    with_records :
        (w : World) (me : ℕ) (m : Member) (before : Durable) (t : turns.Turned) → slice_get w.members me ≡ Some m → P (after_turn w me before t).world →
        P (becoming (tracing w me before t) verdicts.Stop me (down_with t.node.durable)).world
    with_records w me m before t here p =
        let now = (after_turn w me before t).world in
        let lost = unsaid w now in
        let there : slice_get lost.members me ≡ Some (running_as t.node) = set_here w.members me m (running_as t.node) here in
        subst (λ members. P (record (tracing w me before t) { members = members })) (set_twice w.members me (running_as t.node) (down_with t.node.durable))
        (goes_down lost me t.node.durable t.node.volatile there (unsaid_keeps w now (sent_among t.outputs) refl p))

    by_test :
        (w : World) (me : ℕ) (d : Durable) (volatile : Volatile) (t : turns.Turned) → slice_get w.members me ≡ Some (record { durable = d; running = Some volatile }) →
        P w → P (after_turn w me d t).world → (test : Bool) → P (stopped test w me d t).world
    by_test w me d volatile t here p q true = with_records w me (record { durable = d; running = Some volatile }) d t here q
    by_test w me d volatile t here p q false = goes_down w me d volatile here p

    module _ (w : World) (call : ℕ) (keep : Bool) (p : P w) where
      as_stops :
          (aim : Aim) (d : Durable) (running : Option Volatile) → slice_get w.members aim.member ≡ Some (record { durable = d; running = running }) →
          P (turn_as after_turn w aim d running).world → P (turn_as (after_stop call keep) w aim d running).world
      as_stops aim d None here q = p
      as_stops aim d (Some volatile) here q =
          by_test w aim.member d volatile (turns.turn aim.event (node_with w.shape aim.member d volatile)) here p q (is_applied call keep)

      of_stops :
          (aim : Aim) (found : Option Member) → slice_get w.members aim.member ≡ found → P (turn_of after_turn w aim found).world →
          P (turn_of (after_stop call keep) w aim found).world
      of_stops aim None here q = p
      of_stops aim (Some m) here q = as_stops aim m.durable m.running here q

      at_stops : (aim : Option Aim) → P (turn_at after_turn w aim).world → P (turn_at (after_stop call keep) w aim).world
      at_stops None q = p
      at_stops (Some aim) q = of_stops aim (slice_get w.members aim.member) refl q

      pub stops_keep : (inner : Inner) → P (happening w (Do inner)).world → P (happening w (Stop call keep inner)).world
      stops_keep inner q = at_stops (aim_of w inner) q
