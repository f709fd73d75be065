use Rattle.std.proofs.Common.{◌+◌, ◌∙◌, ℕ, List, ap, arith, refl}
use Rattle.node_core.specs.Turns.{event_of}
use Rattle.net_node.specs.Serving.{CanLeave, IsOf, Moment}
use Rattle.net_node.specs.declared.serve_end.ServeEnd.TheVariants.{DiskFault, NoMemory}
use Rattle.net_node.proofs.CanSend.{can_step}
use Rattle.net_node.proofs.Leaving.{given_back, stepped_back}
use Rattle.net_node.proofs.Makings.{step_fails, step_halts, step_makes}
use Rattle.net_node.proofs.serving.Serving.step.Goals as goal

pub tell-requires : goal.tell-requires
tell-requires g c =
    let e = c.in-Ok.ensures in
    let stepped = c.in-Ok.stepped in
    can_step c.args.cluster.now.shape.now c.args.cluster.now.me c.args.self.shell.core stepped.0.core e.stands.0 (event_of c.args.event.now) stepped.1
    c.requires.member.0 c.requires.member.1 (e.stepped e.stands.0 e.stands.1)

pub returns-in-Ok-tell-clause-made : goal.returns-in-Ok-tell-clause-made
returns-in-Ok-tell-clause-made g c = λ readings.
    let e = c.in-Ok.ensures in
    let t = c.in-Ok-tell.ensures in
    let stepped = c.in-Ok.stepped in
    let self = c.args.self in
    let old : Moment = record {
      core = self.shell.core;
      counts = self.counts;
      edges = record { readings = readings; coming = g.L.Link.coming c.args.link.now; sent = g.L.Link.sent c.args.link.now; taken = g.O.Sink.taken c.args.out.now };
      faults = record { sink = g.O.Sink.faults c.args.out.now; disk = g.D.Disk.faults self.shell.disk; link = g.L.Link.faults c.args.link.now };
    } in
    let new : Moment = record {
      core = stepped.0.core;
      counts = record { words = self.counts.words; shown = self.counts.shown; events = self.counts.events + 1; frame = c.in-Ok-tell.frame };
      edges = record { readings = readings; coming = g.L.Link.coming c.tell.new.link; sent = g.L.Link.sent c.tell.new.link; taken = g.O.Sink.taken c.tell.new.out };
      faults = record { sink = g.O.Sink.faults c.tell.new.out; disk = g.D.Disk.faults stepped.0.disk; link = g.L.Link.faults c.tell.new.link };
    } in
    step_makes c.args.cluster.now.places.now (event_of c.args.event.now) c.args.cluster.now.shape.now c.args.cluster.now.me old new stepped.1 c.requires.member
    e.stepped e.same refl refl refl t.next refl t.coming t.sent t.text t.taken (record { sink = t.later_sink; disk = e.later; link = t.later_link })

pub returns-in-Err-clause-halted : goal.returns-in-Err-clause-halted
returns-in-Err-clause-halted g c = λ readings.
    let e = c.in-Ok.ensures in
    let t = c.in-Err.ensures in
    let stepped = c.in-Ok.stepped in
    let self = c.args.self in
    let old : Moment = record {
      core = self.shell.core;
      counts = self.counts;
      edges = record { readings = readings; coming = g.L.Link.coming c.args.link.now; sent = g.L.Link.sent c.args.link.now; taken = g.O.Sink.taken c.args.out.now };
      faults = record { sink = g.O.Sink.faults c.args.out.now; disk = g.D.Disk.faults self.shell.disk; link = g.L.Link.faults c.args.link.now };
    } in
    let back = ap g.D.Disk.faults c.give_back.ensures.disk in
    let disk = g.D.Disk in
    let leaves : List ℕ → Type 0 = CanLeave (disk.tells_crash c.give_back.result) (disk.seen c.give_back.result) (disk.may_leave c.give_back.result) in
    let member : IsOf c.args.cluster.now.shape.now c.args.cluster.now.me stepped.0.core = (e.same.0 ∙ c.requires.member.0, e.same.1 ∙ c.requires.member.1) in
    step_halts c.args.cluster.now.places.now (event_of c.args.event.now) c.args.cluster.now.shape.now c.args.cluster.now.me old
    (record { readings = readings; coming = g.L.Link.coming c.tell.new.link; sent = g.L.Link.sent c.tell.new.link; taken = g.O.Sink.taken c.tell.new.out })
    (record { sink = g.O.Sink.faults c.tell.new.out; disk = g.D.Disk.faults c.give_back.result; link = g.L.Link.faults c.tell.new.link })
    leaves c.in-Err.end stepped.0.core stepped.1 c.requires.member e.stepped refl t.coming t.front t.part t.order
    (given_back disk.seen disk.tells_crash disk.may_leave stepped.0.disk c.give_back.result c.args.cluster.now.shape.now c.args.cluster.now.me stepped.0.core
    c.give_back.ensures.disk member c.give_back.ensures.durable) t.taken
    (record { sink = t.later_sink; disk = omega (arith, back, e.later); link = t.later_link }) (t.cause (g.D.Disk.faults self.shell.disk))

pub returns-in-Err-DiskFault-default-clause-halted : goal.returns-in-Err-DiskFault-default-clause-halted
returns-in-Err-DiskFault-default-clause-halted g c = λ readings.
    let e = c.in-Err-DiskFault-default.ensures in
    let back = c.in-Err-DiskFault-default.disk in
    let self = c.args.self in
    let old : Moment = record {
      core = self.shell.core;
      counts = self.counts;
      edges = record { readings = readings; coming = g.L.Link.coming c.args.link.now; sent = g.L.Link.sent c.args.link.now; taken = g.O.Sink.taken c.args.out.now };
      faults = record { sink = g.O.Sink.faults c.args.out.now; disk = g.D.Disk.faults self.shell.disk; link = g.L.Link.faults c.args.link.now };
    } in
    let disk = g.D.Disk in
    step_fails c.args.cluster.now.places.now (event_of c.args.event.now) c.args.cluster.now.shape.now c.args.cluster.now.me old old.edges
    (record { sink = g.O.Sink.faults c.args.out.now; disk = g.D.Disk.faults back; link = g.L.Link.faults c.args.link.now })
    (CanLeave (disk.tells_crash back) (disk.seen back) (disk.may_leave back)) DiskFault refl
    (stepped_back disk.seen disk.tells_crash disk.may_leave self.shell.disk back c.args.cluster.now.shape.now c.args.cluster.now.me self.shell.core (event_of c.args.event.now)
    e.told_err.same_seen c.requires.member e.either)
    (record { sink = omega arith; disk = e.later_err; link = omega arith }) (e.cause c.in-Err-DiskFault-default.field-0-0-is)

pub returns-in-Err-OutOfMemory-default-clause-halted : goal.returns-in-Err-OutOfMemory-default-clause-halted
returns-in-Err-OutOfMemory-default-clause-halted g c = λ readings.
    let e = c.in-Err-OutOfMemory-default.ensures in
    let back = c.in-Err-OutOfMemory-default.disk in
    let self = c.args.self in
    let old : Moment = record {
      core = self.shell.core;
      counts = self.counts;
      edges = record { readings = readings; coming = g.L.Link.coming c.args.link.now; sent = g.L.Link.sent c.args.link.now; taken = g.O.Sink.taken c.args.out.now };
      faults = record { sink = g.O.Sink.faults c.args.out.now; disk = g.D.Disk.faults self.shell.disk; link = g.L.Link.faults c.args.link.now };
    } in
    let disk = g.D.Disk in
    step_fails c.args.cluster.now.places.now (event_of c.args.event.now) c.args.cluster.now.shape.now c.args.cluster.now.me old old.edges
    (record { sink = g.O.Sink.faults c.args.out.now; disk = g.D.Disk.faults back; link = g.L.Link.faults c.args.link.now })
    (CanLeave (disk.tells_crash back) (disk.seen back) (disk.may_leave back)) NoMemory refl
    (stepped_back disk.seen disk.tells_crash disk.may_leave self.shell.disk back c.args.cluster.now.shape.now c.args.cluster.now.me self.shell.core (event_of c.args.event.now)
    e.told_err.same_seen c.requires.member e.either)
    (record { sink = omega arith; disk = e.later_err; link = omega arith }) tt
