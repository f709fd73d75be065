use Rattle.std.proofs.Common.{Some, refl, subst, sym}
use Rattle.world_model.specs.Nodes.{fresh}
use Rattle.world_model.specs.World as model
use Rattle.world_model.specs.declared.verdict.Verdict.TheVariants as verdicts
use Rattle.schedule_replay.specs.Actions.{IsDone, act_of}
use Rattle.schedule_replay.specs.declared.seat.Seat.TheVariants.{Running, Down}
use Rattle.schedule_replay.proofs.Doing.{becomes_done, skipped_done, skips_down}
use Rattle.schedule_replay.proofs.lines.act_down.Goals as goal

pub returns-in_ok-shell-in-Up : goal.returns-in_ok-shell-in-Up
returns-in_ok-shell-in-Up c = λ w d of_shape here rests.
    let shape = c.args.shape.now in
    let me = c.args.me in
    let shell = c.in_ok-shell-in-Up.shell in
    let at = c.at.ensures in
    subst (λ a. IsDone shape me (Running shell) c.at.result w (act_of a w me (Some (model.down_with d)))) (sym c.in-Up.is)
    (becomes_done shape me (Running shell) c.at.result w verdicts.Done (record { durable = d; running = Some fresh }) (fresh, refl, c.in_ok-shell-in-Up.ensures d rests.has)
    (record { verdict_is = at.verdict; member_is = at.member; no_outputs = at.outputs; none_shown = at.shown }))

pub returns-in_default : goal.returns-in_default
returns-in_default c = λ w d of_shape here rests.
    let shape = c.args.shape.now in
    let me = c.args.me in
    let none = c.nothing.ensures in
    subst (IsDone shape me (Down c.args.resting) c.nothing.result w) (sym (skips_down c.args.action.now w me d c.in_default.not-Up))
    (skipped_done shape me (Down c.args.resting) c.nothing.result w (model.down_with d) here (refl, rests)
    (record { verdict_is = none.verdict; member_is = none.member; no_outputs = none.outputs; none_shown = none.shown }))
