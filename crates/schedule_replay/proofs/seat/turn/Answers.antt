use Rattle.world_model.specs.Nodes.{node_with}
use Rattle.world_model.specs.Turn as turns
use Rattle.node_core.specs.Turns.{event_of}
use Rattle.synced_log.proofs.Histories.{made_keeps_orders}
use Rattle.node_shell.specs.Stepping.{body_of_turn, step_calls}
use Rattle.schedule_replay.proofs.Shells.{turned_runs}
use Rattle.schedule_replay.proofs.seat.turn.Goals as goal

pub returns-in-Ok-clause-runs : goal.returns-in-Ok-clause-runs
returns-in-Ok-clause-runs c = λ shape me d v runs.
    let e = c.in-Ok.ensures in
    let n = node_with shape me d v in
    let event = event_of c.args.event.now in
    let new = c.in-Ok.stepped.0 in
    turned_runs shape me c.args.shell new d v (turns.turn event n).node runs (e.stepped n runs.core).node e.same.0 e.same.1
    (made_keeps_orders c.args.shell.disk.told.history new.disk.told.history (step_calls c.args.shell.gate (body_of_turn c.args.shell.core event n)) (e.calls n runs.core)) e.kept

pub returns-in-Ok-clause-told : goal.returns-in-Ok-clause-told
returns-in-Ok-clause-told c = λ shape me d v runs. (c.in-Ok.ensures.stepped (node_with shape me d v) runs.core).outputs
