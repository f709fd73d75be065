use Rattle.std.proofs.Common.{refl, subst, sym}
use Rattle.node_core.specs.Turns.{event_of}
use Rattle.world_model.specs.World.{is_applied}
use Rattle.schedule_replay.specs.Actions.{IsDone, ending_of}
use Rattle.schedule_replay.specs.Seats.{turn_of}
use Rattle.schedule_replay.specs.declared.seat.Seat.TheVariants.{Running, Down}
use Rattle.schedule_replay.proofs.Doing.{stopped_done, turned_done}
use Rattle.schedule_replay.proofs.lines.end_turn.Goals as goal

pub returns-in_ok-shell-in-Done : goal.returns-in_ok-shell-in-Done
returns-in_ok-shell-in-Done c = λ w d v of_shape here runs.
    let shape = c.args.shape.now in
    let me = c.args.me in
    let event = event_of c.args.event.now in
    let t = turn_of shape me d v event in
    let at = c.at-happened.ensures in
    let turned = c.in_ok-shell-in-Done.ensures in
    let told = record c.at-happened.result { outputs = c.in_ok-shell-in-Done.outputs } in
    let seat = Running c.in_ok-shell-in-Done.shell in
    subst (λ e. IsDone shape me seat told w (ending_of e w me d t)) (sym c.in-Done.is)
    (turned_done shape me seat told w d t (t.node.volatile, refl, turned.runs shape me d v runs) at.verdict at.member (turned.told shape me d v runs) at.shown)

pub returns-in_ok-resting-in-Stop : goal.returns-in_ok-resting-in-Stop
returns-in_ok-resting-in-Stop c = λ w d v of_shape here runs.
    let shape = c.args.shape.now in
    let me = c.args.me in
    let event = event_of c.args.event.now in
    let t = turn_of shape me d v event in
    let at = c.at.ensures in
    let resting = c.in_ok-resting-in-Stop.resting in
    subst (λ e. IsDone shape me (Down resting) c.at.result w (ending_of e w me d t)) (sym c.in-Stop.is)
    (stopped_done shape me resting c.at.result w d t (is_applied c.in-Stop.call c.in-Stop.keep) (c.in_ok-resting-in-Stop.ensures d v runs)
    (record { verdict_is = at.verdict; member_is = at.member; no_outputs = at.outputs; none_shown = at.shown }))
