use Rattle.std.proofs.Common.{Some, refl, subst, sym}
use Rattle.world_model.specs.World as model
use Rattle.world_model.specs.declared.verdict.Verdict.TheVariants as verdicts
use Rattle.schedule_replay.specs.Actions.{IsDone, act_of}
use Rattle.schedule_replay.specs.Seats.{running_with}
use Rattle.schedule_replay.specs.declared.seat.Seat.TheVariants.{Running, Down}
use Rattle.schedule_replay.proofs.Doing.{becomes_done, shown_done, skipped_done}
use Rattle.schedule_replay.proofs.lines.act_running.Goals as goal

pub returns-in_ok-resting-in-Down : goal.returns-in_ok-resting-in-Down
returns-in_ok-resting-in-Down c = λ w d v of_shape here runs.
    let shape = c.args.shape.now in
    let me = c.args.me in
    let resting = c.in_ok-resting-in-Down.resting in
    let at = c.at.ensures in
    subst (λ a. IsDone shape me (Down resting) c.at.result w (act_of a w me (Some (running_with d v)))) (sym c.in-Down.is)
    (becomes_done shape me (Down resting) c.at.result w verdicts.Done (model.down_with d) (refl, c.in_ok-resting-in-Down.ensures shape me d v runs)
    (record { verdict_is = at.verdict; member_is = at.member; no_outputs = at.outputs; none_shown = at.shown }))

pub returns-in-Up : goal.returns-in-Up
returns-in-Up c = λ w d v of_shape here runs.
    let shape = c.args.shape.now in
    let me = c.args.me in
    let none = c.nothing.ensures in
    subst (λ a. IsDone shape me (Running c.args.shell) c.nothing.result w (act_of a w me (Some (running_with d v)))) (sym c.in-Up.is)
    (skipped_done shape me (Running c.args.shell) c.nothing.result w (running_with d v) here (v, refl, runs)
    (record { verdict_is = none.verdict; member_is = none.member; no_outputs = none.outputs; none_shown = none.shown }))

pub returns-in_ok-happened-in-Show : goal.returns-in_ok-happened-in-Show
returns-in_ok-happened-in-Show c = λ w d v of_shape here runs.
    let shape = c.args.shape.now in
    let me = c.args.me in
    let at = c.at-happened.ensures in
    let told = record c.at-happened.result { shown = c.in_ok-happened-in-Show.field-0 } in
    subst (λ a. IsDone shape me (Running c.args.shell) told w (act_of a w me (Some (running_with d v)))) (sym c.in-Show.is)
    (shown_done shape me (Running c.args.shell) told w d v here (v, refl, runs) at.verdict at.member at.outputs (c.in_ok-happened-in-Show.ensures shape d v runs))
