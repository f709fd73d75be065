-- A run goes on by one event.
use Rattle.std.proofs.Common.{◌≡◌, ℕ, suc, ◌+◌, List, [], ◌∷◌, ◌++◌, length, refl, ap, ◌∙◌, sym, arith, append_assoc, append-nil, Bool, true, false, Option, None, Some, slice_get}
use Rattle.world_model.specs.declared.line.Line.{Line}
use Rattle.world_model.specs.Lines.{event_text, lines_from}
use Rattle.world_model.specs.Tallies.{told_from}
use Rattle.entry_frames.specs.Durable.{Durable}
use Rattle.world_model.specs.Nodes.{Volatile, node_with}
use Rattle.world_model.specs.Turn as turns
use Rattle.world_model.specs.World.{Aim, Member, World, after_stop, after_turn, aim_of, counting, down_as, down_of, is_applied, run_from, sent_among, show_as, show_of, step, stopped, turn_as, turn_at, turn_of, up_as, up_of}
use Rattle.world_model.specs.declared.line.Line.TheVariants as lines

pub run_from-append : (w : World) (events more : List Line) → run_from w (events ++ more) ≡ run_from (run_from w events) more
run_from-append w [] more = refl
run_from-append w (event ∷ events) more = run_from-append (step w event).world events more

pub lines_from-append : (number : ℕ) (w : World) (events : List Line) (event : Line)
    → lines_from number w (events ++ event ∷ []) ≡ lines_from number w events ++ event_text (number + length events) (run_from w events) (step (run_from w events) event)
lines_from-append number w [] event =
    let here : number ≡ number + 0 = omega arith in
    append-nil (event_text number w (step w event)) ∙ ap (λ n. event_text n w (step w event)) here
lines_from-append number w (first ∷ events) event =
    let next : (number + 1) + length events ≡ number + suc (length events) = omega arith in
    let after = (step w first).world in
    ap (λ text. event_text number w (step w first) ++ text) (lines_from-append (number + 1) after events event)
    ∙ sym (append_assoc (event_text number w (step w first)) (lines_from (number + 1) after events) (event_text ((number + 1) + length events) (run_from after events) (step (run_from after events) event)))
    ∙ ap (λ n. (event_text number w (step w first) ++ lines_from (number + 1) after events) ++ event_text n (run_from after events) (step (run_from after events) event)) next

pub told_from-append : (w : World) (events : List Line) (event : Line)
    → told_from w (events ++ event ∷ []) ≡ told_from w events ++ (step (run_from w events) event).outputs
told_from-append w [] event = append-nil (step w event).outputs
told_from-append w (first ∷ events) event =
    let after = (step w first).world in
    ap (λ told. (step w first).outputs ++ told) (told_from-append after events event)
    ∙ sym (append_assoc (step w first).outputs (told_from after events) (step (run_from after events) event).outputs)

-- ---- what a line sends

module _ (w : World) where
  nothing_sent : w.sent ≡ w.sent ++ []
  nothing_sent = sym (append-nil w.sent)

  turn_sends : (aim : Aim) (d : Durable) (running : Option Volatile) → (turn_as after_turn w aim d running).world.sent ≡ w.sent ++ sent_among (turn_as after_turn w aim d running).outputs
  turn_sends aim d None = nothing_sent
  turn_sends aim d (Some volatile) = refl

  turn_of_sends : (aim : Aim) (found : Option Member) → (turn_of after_turn w aim found).world.sent ≡ w.sent ++ sent_among (turn_of after_turn w aim found).outputs
  turn_of_sends aim None = nothing_sent
  turn_of_sends aim (Some m) = turn_sends aim m.durable m.running

  turn_at_sends : (aim : Option Aim) → (turn_at after_turn w aim).world.sent ≡ w.sent ++ sent_among (turn_at after_turn w aim).outputs
  turn_at_sends None = nothing_sent
  turn_at_sends (Some aim) = turn_of_sends aim (slice_get w.members aim.member)

  stopped_sends : (test : Bool) (me : ℕ) (d : Durable) (t : turns.Turned) → (stopped test w me d t).world.sent ≡ w.sent ++ sent_among (stopped test w me d t).outputs
  stopped_sends true me d t = nothing_sent
  stopped_sends false me d t = nothing_sent

  module _ (call : ℕ) (keep : Bool) where
    stop_sends :
        (aim : Aim) (d : Durable) (running : Option Volatile) →
        (turn_as (after_stop call keep) w aim d running).world.sent ≡ w.sent ++ sent_among (turn_as (after_stop call keep) w aim d running).outputs
    stop_sends aim d None = nothing_sent
    stop_sends aim d (Some volatile) = stopped_sends (is_applied call keep) aim.member d (turns.turn aim.event (node_with w.shape aim.member d volatile))

    stop_of_sends :
        (aim : Aim) (found : Option Member) → (turn_of (after_stop call keep) w aim found).world.sent ≡ w.sent ++ sent_among (turn_of (after_stop call keep) w aim found).outputs
    stop_of_sends aim None = nothing_sent
    stop_of_sends aim (Some m) = stop_sends aim m.durable m.running

    stop_at_sends : (aim : Option Aim) → (turn_at (after_stop call keep) w aim).world.sent ≡ w.sent ++ sent_among (turn_at (after_stop call keep) w aim).outputs
    stop_at_sends None = nothing_sent
    stop_at_sends (Some aim) = stop_of_sends aim (slice_get w.members aim.member)

  down_sends : (me : ℕ) (d : Durable) (running : Option Volatile) → (down_as w me d running).world.sent ≡ w.sent ++ sent_among (down_as w me d running).outputs
  down_sends me d None = nothing_sent
  down_sends me d (Some volatile) = nothing_sent

  down_of_sends : (me : ℕ) (found : Option Member) → (down_of w me found).world.sent ≡ w.sent ++ sent_among (down_of w me found).outputs
  down_of_sends me None = nothing_sent
  down_of_sends me (Some m) = down_sends me m.durable m.running

  up_sends : (me : ℕ) (d : Durable) (running : Option Volatile) → (up_as w me d running).world.sent ≡ w.sent ++ sent_among (up_as w me d running).outputs
  up_sends me d None = nothing_sent
  up_sends me d (Some volatile) = nothing_sent

  up_of_sends : (me : ℕ) (found : Option Member) → (up_of w me found).world.sent ≡ w.sent ++ sent_among (up_of w me found).outputs
  up_of_sends me None = nothing_sent
  up_of_sends me (Some m) = up_sends me m.durable m.running

  show_sends : (me : ℕ) (d : Durable) (running : Option Volatile) → (show_as w me d running).world.sent ≡ w.sent ++ sent_among (show_as w me d running).outputs
  show_sends me d None = nothing_sent
  show_sends me d (Some volatile) = nothing_sent

  show_of_sends : (me : ℕ) (found : Option Member) → (show_of w me found).world.sent ≡ w.sent ++ sent_among (show_of w me found).outputs
  show_of_sends me None = nothing_sent
  show_of_sends me (Some m) = show_sends me m.durable m.running

-- the messages among what a line makes members tell are put on the network
pub step_sends : (w : World) (line : Line) → (step w line).world.sent ≡ w.sent ++ sent_among (step w line).outputs
step_sends w (lines.Do inner) = turn_at_sends (counting w) (aim_of w inner)
step_sends w (lines.Down me) = down_of_sends (counting w) me (slice_get w.members me)
step_sends w (lines.Up me) = up_of_sends (counting w) me (slice_get w.members me)
step_sends w (lines.Show me) = show_of_sends (counting w) me (slice_get w.members me)
step_sends w (lines.Stop call keep inner) = stop_at_sends (counting w) call keep (aim_of w inner)
