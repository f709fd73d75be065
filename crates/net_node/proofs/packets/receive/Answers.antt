use Rattle.std.proofs.Common.{Ok, ap, arith, refl, subst, take}
use Rattle.std.proofs.lemmas.Result.{IfErr-weaker, IfOk-weaker}
use Rattle.craft_edge.specs.Link.{Gives}
use Rattle.craft_edge.specs.Packets.{Packet}
use Rattle.net_node.specs.NodeRun.{event_of_packet, receiving, taking}
use Rattle.net_node.specs.Serving.{CanLeave, Moment}
use Rattle.net_node.specs.declared.serve_end.ServeEnd.TheVariants.{LinkFault}
use Rattle.net_node.proofs.Leaving.{given_back}
use Rattle.net_node.proofs.Makings.{halts_before}
use Rattle.net_node.proofs.Stopping.{receiving_adds}
use Rattle.net_node.proofs.Taking.{gives_first, packet_prepares, with_link}
use Rattle.net_node.proofs.Turning.{halts_by, makes_by}
use Rattle.net_node.proofs.packets.receive.Goals as goal

pub returns-in-Ok-Packet-clause-made : goal.returns-in-Ok-Packet-clause-made
returns-in-Ok-Packet-clause-made g c =
    let places = c.args.cluster.now.places.now in
    let shape = c.args.cluster.now.shape.now in
    let me = c.args.cluster.now.me in
    let e = c.in-Ok-Packet.ensures in
    let coming = g.L.Link.coming c.next.new.self in
    let sent = g.L.Link.sent c.next.new.self in
    let faults = g.L.Link.faults c.next.new.self in
    let packet : Packet = record { place = c.in-Ok-Packet.from; bytes = take c.in-Ok-Packet.len c.next.new.buf } in
    let gives = subst (λ came. Gives (g.L.Link.coming c.args.link.now) coming c.next.new.buf (Ok came)) c.in-Ok-Packet.field-0-is e.gives in
    IfOk-weaker c.take.result _ _ (λ x is readings.
    let old : Moment = record {
      core = c.args.serving.shell.core;
      counts = c.args.serving.counts;
      edges = record { readings = readings; coming = g.L.Link.coming c.args.link.now; sent = g.L.Link.sent c.args.link.now; taken = g.O.Sink.taken c.args.out.now };
      faults = record { sink = g.O.Sink.faults c.args.out.now; disk = g.D.Disk.faults c.args.serving.shell.disk; link = g.L.Link.faults c.args.link.now };
    } in
    makes_by (λ s. receiving places s.packets s) (taking places (event_of_packet shape me packet)) shape me 1 old (with_link coming sent faults old) _
    (packet_prepares places shape me packet coming sent faults old c.requires.member
    (gives_first (g.L.Link.coming c.args.link.now) coming c.next.new.buf c.in-Ok-Packet.from c.in-Ok-Packet.len gives) e.told e.sent e.cause.later) (is readings)) c.take.ensures.made

pub returns-in-Ok-Packet-clause-halted : goal.returns-in-Ok-Packet-clause-halted
returns-in-Ok-Packet-clause-halted g c =
    let places = c.args.cluster.now.places.now in
    let shape = c.args.cluster.now.shape.now in
    let me = c.args.cluster.now.me in
    let e = c.in-Ok-Packet.ensures in
    let coming = g.L.Link.coming c.next.new.self in
    let sent = g.L.Link.sent c.next.new.self in
    let faults = g.L.Link.faults c.next.new.self in
    let packet : Packet = record { place = c.in-Ok-Packet.from; bytes = take c.in-Ok-Packet.len c.next.new.buf } in
    let gives = subst (λ came. Gives (g.L.Link.coming c.args.link.now) coming c.next.new.buf (Ok came)) c.in-Ok-Packet.field-0-is e.gives in
    IfErr-weaker c.take.result _ _ (λ x is readings.
    let old : Moment = record {
      core = c.args.serving.shell.core;
      counts = c.args.serving.counts;
      edges = record { readings = readings; coming = g.L.Link.coming c.args.link.now; sent = g.L.Link.sent c.args.link.now; taken = g.O.Sink.taken c.args.out.now };
      faults = record { sink = g.O.Sink.faults c.args.out.now; disk = g.D.Disk.faults c.args.serving.shell.disk; link = g.L.Link.faults c.args.link.now };
    } in
    halts_by (λ s. receiving places s.packets s) (taking places (event_of_packet shape me packet)) shape me old (with_link coming sent faults old) _ _ _ _
    (packet_prepares places shape me packet coming sent faults old c.requires.member
    (gives_first (g.L.Link.coming c.args.link.now) coming c.next.new.buf c.in-Ok-Packet.from c.in-Ok-Packet.len gives) e.told e.sent e.cause.later) (is readings)) c.take.ensures.halted

pub returns-in-Err-clause-halted : goal.returns-in-Err-clause-halted
returns-in-Err-clause-halted g c = λ readings.
    let places = c.args.cluster.now.places.now in
    let shape = c.args.cluster.now.shape.now in
    let me = c.args.cluster.now.me in
    let e = c.in-Err.ensures in
    let disk = g.D.Disk in
    let back = c.give_back.result in
    let same = ap disk.faults c.give_back.ensures.disk in
    let old : Moment = record {
      core = c.args.serving.shell.core;
      counts = c.args.serving.counts;
      edges = record { readings = readings; coming = g.L.Link.coming c.args.link.now; sent = g.L.Link.sent c.args.link.now; taken = g.O.Sink.taken c.args.out.now };
      faults = record { sink = g.O.Sink.faults c.args.out.now; disk = g.D.Disk.faults c.args.serving.shell.disk; link = g.L.Link.faults c.args.link.now };
    } in
    halts_before (λ s. receiving places s.packets s) shape me old
    (record { readings = readings; coming = g.L.Link.coming c.next.new.self; sent = g.L.Link.sent c.next.new.self; taken = g.O.Sink.taken c.args.out.now })
    (record { sink = g.O.Sink.faults c.args.out.now; disk = disk.faults back; link = g.L.Link.faults c.next.new.self })
    (CanLeave (disk.tells_crash back) (disk.seen back) (disk.may_leave back)) LinkFault (λ s. receiving_adds places s.packets s) refl e.told e.sent refl
    (given_back disk.seen disk.tells_crash disk.may_leave c.args.serving.shell.disk back shape me c.args.serving.shell.core
    c.give_back.ensures.disk c.requires.member c.give_back.ensures.durable)
    (record { sink = omega arith; disk = omega (arith, same); link = e.cause.later }) e.cause.failed
