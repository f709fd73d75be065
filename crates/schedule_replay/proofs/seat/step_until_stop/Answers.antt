use Rattle.std.proofs.Common.{refl}
use Rattle.node_core.specs.Turns.{event_of}
use Rattle.world_model.specs.Nodes.{node_with}
use Rattle.schedule_replay.proofs.Shells.{failed_left, made_left, stopped_stands}
use Rattle.schedule_replay.proofs.seat.step_until_stop.Goals as goal

pub returns-in-Ok : goal.returns-in-Ok
returns-in-Ok c = λ shape me d v runs.
    let s = c.stop.ensures in
    let e = c.in-Ok.ensures in
    let stopped = c.stop.new.self in
    let event = event_of c.args.event.now in
    let stands = stopped_stands shape me d v event c.args.call c.args.keep c.args.shell stopped runs s.core s.gate s.seen s.history in
    let n = node_with shape me d v in
    made_left shape me d v event c.args.call c.args.keep c.args.shell stopped runs s.core s.gate s.seen s.history c.in-Ok.stepped.0 c.give_back.result c.give_back.ensures.disk
    (e.stepped n stands).node (e.durable refl) (e.calls n stands)

pub returns-in-DiskFault : goal.returns-in-DiskFault
returns-in-DiskFault c = λ shape me d v runs.
    let s = c.stop.ensures in
    let e = c.in-Err.ensures in
    let stopped = c.stop.new.self in
    let event = event_of c.args.event.now in
    let stands = stopped_stands shape me d v event c.args.call c.args.keep c.args.shell stopped runs s.core s.gate s.seen s.history in
    let stops = e.calls_err c.in-DiskFault.is (node_with shape me d v) stands in
    failed_left shape me d v event c.args.call c.args.keep c.args.shell stopped runs s.core s.gate s.seen s.history c.in-Err.left.1 stops.group stops.stops
