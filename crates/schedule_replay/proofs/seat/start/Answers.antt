use Rattle.synced_log.proofs.Histories.{made_keeps_orders}
use Rattle.schedule_replay.proofs.Shells.{started_runs}
use Rattle.schedule_replay.proofs.seat.start.Goals as goal

pub returns-in-Ok : goal.returns-in-Ok
returns-in-Ok c = λ d has.
    let e = c.in-Ok.ensures in
    let shell = c.in-Ok.shell in
    started_runs c.args.shape.now c.args.me c.args.disk shell d has e.started (e.only d has.opens) e.kept
    (made_keeps_orders c.args.disk.told.history shell.disk.told.history e.calls.works e.calls.is)
