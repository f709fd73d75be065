use Rattle.std.proofs.Common.{refl}
use Rattle.net_node.specs.Serving.{CanLeave}
use Rattle.craft.specs.Serves.{Files}
use Rattle.craft.proofs.Serving.{served}
use Rattle.craft.proofs.node.run_node.Goals as goal

pub returns-clause-serves : goal.returns-clause-serves
returns-clause-serves g c =
    let e = c.in-Ok.ensures in
    let s = c.serve-end.ensures in
    let left = c.serve-end.result.1 in
    let files : Files = record {
      before = g.D.Disk.seen c.args.disk;
      after = g.D.Disk.seen left;
      might_leave = CanLeave (g.D.Disk.tells_crash c.args.disk) (g.D.Disk.seen c.args.disk) (g.D.Disk.may_leave c.args.disk);
      leaves = CanLeave (g.D.Disk.tells_crash left) (g.D.Disk.seen left) (g.D.Disk.may_leave left);
    } in
    served c.args.node.now files _ _ _ _ _ c.serve-end.result.0 c.in-Ok.shell.core.durable c.as_slice-places.result.now c.as_slice-places.ensures e.opened
    (λ is. s.ran is _ e.started) (λ not. s.stopped not _ e.started) (refl, e.later, refl) s.cause
    c.from-2.result c.from-2.ensures
