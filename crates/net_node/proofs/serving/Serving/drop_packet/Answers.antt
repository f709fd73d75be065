use Rattle.std.proofs.Common.{◌+◌, ℕ, List, ap, arith, refl}
use Rattle.net_node.specs.Serving.{CanLeave, Moment}
use Rattle.net_node.proofs.Leaving.{given_back}
use Rattle.net_node.proofs.Makings.{drop_halts, drop_makes}
use Rattle.net_node.proofs.serving.Serving.drop_packet.Goals as goal

pub returns-in-Ok-clause-made : goal.returns-in-Ok-clause-made
returns-in-Ok-clause-made g c = λ readings coming sent link.
    let t = c.in-Ok.ensures in
    let self = c.args.self in
    let old : Moment = record {
      core = self.shell.core;
      counts = self.counts;
      edges = record { readings = readings; coming = coming; sent = sent; taken = g.O.Sink.taken c.args.out.now };
      faults = record { sink = g.O.Sink.faults c.args.out.now; disk = g.D.Disk.faults self.shell.disk; link = link };
    } in
    let new : Moment = record {
      core = self.shell.core;
      counts = record { words = self.counts.words; shown = self.counts.shown; events = self.counts.events + 1; frame = self.counts.frame };
      edges = record { readings = readings; coming = coming; sent = sent; taken = g.O.Sink.taken c.tell_drop.new.out };
      faults = record { sink = g.O.Sink.faults c.tell_drop.new.out; disk = g.D.Disk.faults self.shell.disk; link = link };
    } in
    drop_makes c.args.cluster.now.shape.now c.args.cluster.now.me old new c.requires.member refl refl refl refl refl refl refl refl t.text t.taken
    (record { sink = t.later_sink; disk = omega arith; link = omega arith })

pub returns-in-Err-clause-halted : goal.returns-in-Err-clause-halted
returns-in-Err-clause-halted g c = λ readings coming sent link.
    let t = c.in-Err.ensures in
    let self = c.args.self in
    let old : Moment = record {
      core = self.shell.core;
      counts = self.counts;
      edges = record { readings = readings; coming = coming; sent = sent; taken = g.O.Sink.taken c.args.out.now };
      faults = record { sink = g.O.Sink.faults c.args.out.now; disk = g.D.Disk.faults self.shell.disk; link = link };
    } in
    let back = ap g.D.Disk.faults c.give_back.ensures.disk in
    let disk = g.D.Disk in
    let leaves : List ℕ → Type 0 = CanLeave (disk.tells_crash c.give_back.result) (disk.seen c.give_back.result) (disk.may_leave c.give_back.result) in
    drop_halts c.args.cluster.now.shape.now c.args.cluster.now.me old (record { readings = readings; coming = coming; sent = sent; taken = g.O.Sink.taken c.tell_drop.new.out })
    (record { sink = g.O.Sink.faults c.tell_drop.new.out; disk = g.D.Disk.faults c.give_back.result; link = link })
    leaves c.in-Err.end refl refl refl t.part
    (given_back disk.seen disk.tells_crash disk.may_leave self.shell.disk c.give_back.result c.args.cluster.now.shape.now c.args.cluster.now.me self.shell.core
    c.give_back.ensures.disk c.requires.member c.give_back.ensures.durable) t.taken
    (record { sink = t.later_sink; disk = omega (arith, back); link = omega arith }) (t.cause (g.D.Disk.faults self.shell.disk) link)
