use Rattle.std.proofs.Common.{None, refl}
use Rattle.craft_client.specs.Telling.{LinkNow}
use Rattle.craft_edge.specs.Streams.{Streams}
use Rattle.net_node.specs.Ends.{FaultCounts}
use Rattle.net_node.specs.Serving.{CanLeave, Edges}
use Rattle.craft.specs.Program.{Devices}
use Rattle.craft.specs.Serves.{Files}
use Rattle.craft.proofs.Asking.{asks_for, knows_words}
use Rattle.craft.proofs.Serving.{same_node, serves_for}
use Rattle.craft.proofs.top.run.Goals as goal

pub returns-in-Node-clause-serves : goal.returns-in-Node-clause-serves
returns-in-Node-clause-serves g c = λ node disk is items.
    let s = c.run_on_disk.ensures.serves disk items in
    let left = s.0 in
    let files : Files = record {
      before = g.D.Disk.seen disk;
      after = g.D.Disk.seen left;
      might_leave = CanLeave (g.D.Disk.tells_crash disk) (g.D.Disk.seen disk) (g.D.Disk.may_leave disk);
      leaves = CanLeave (g.D.Disk.tells_crash left) (g.D.Disk.seen left) (g.D.Disk.may_leave left);
    } in
    let before : Edges = record {
      readings = g.C.Clock.readings c.args.clock.now;
      coming = g.L.Link.coming c.args.link.now;
      sent = g.L.Link.sent c.args.link.now;
      taken = g.O.Sink.taken c.args.out.now;
    } in
    let after : Edges = record {
      readings = g.C.Clock.readings c.run_on_disk.new.clock;
      coming = g.L.Link.coming c.run_on_disk.new.link;
      sent = g.L.Link.sent c.run_on_disk.new.link;
      taken = g.O.Sink.taken c.run_on_disk.new.out;
    } in
    let old : FaultCounts = record { sink = g.O.Sink.faults c.args.out.now; disk = g.D.Disk.faults disk; link = g.L.Link.faults c.args.link.now } in
    let new : FaultCounts = record { sink = g.O.Sink.faults c.run_on_disk.new.out; disk = g.D.Disk.faults left; link = g.L.Link.faults c.run_on_disk.new.link } in
    (left, s.1, s.2, serves_for c.in-Node.node node files before after old new c.run_on_disk.result.0 (same_node c.in-Node.is is) s.3)

pub returns-in-Ask-clause-answers : goal.returns-in-Ask-clause-answers
returns-in-Ask-clause-answers g c =
    let before : Devices = record {
      streams = record { left = g.S.Source.left c.args.src.now; taken = g.O.Sink.taken c.args.out.now; source_faults = g.S.Source.faults c.args.src.now; sink_faults = g.O.Sink.faults c.args.out.now };
      link = record { coming = g.L.Link.coming c.args.link.now; sent = g.L.Link.sent c.args.link.now; faults = g.L.Link.faults c.args.link.now };
      readings = g.C.Clock.readings c.args.clock.now;
    } in
    let after : Devices = record {
      streams = record { left = g.S.Source.left c.args.src.now; taken = g.O.Sink.taken c.run_ask.new.out; source_faults = g.S.Source.faults c.args.src.now; sink_faults = g.O.Sink.faults c.run_ask.new.out };
      link = record { coming = g.L.Link.coming c.run_ask.new.link; sent = g.L.Link.sent c.run_ask.new.link; faults = g.L.Link.faults c.run_ask.new.link };
      readings = g.C.Clock.readings c.args.clock.now;
    } in
    asks_for c.args.command.now c.in-Ask.ask before after c.run_ask.result c.in-Ask.is
    (c.run_ask.ensures (g.S.Source.left c.args.src.now) (g.S.Source.faults c.args.src.now)) (refl, refl)

pub returns-in-Ask-clause-known : goal.returns-in-Ask-clause-known
returns-in-Ask-clause-known g c =
    let before : Streams = record { left = None; taken = g.O.Sink.taken c.args.out.now; source_faults = 0; sink_faults = g.O.Sink.faults c.args.out.now } in
    let after : Streams = record { left = None; taken = g.O.Sink.taken c.run_ask.new.out; source_faults = 0; sink_faults = g.O.Sink.faults c.run_ask.new.out } in
    let link : LinkNow = record { coming = g.L.Link.coming c.args.link.now; sent = g.L.Link.sent c.args.link.now; faults = g.L.Link.faults c.args.link.now } in
    let later : LinkNow = record { coming = g.L.Link.coming c.run_ask.new.link; sent = g.L.Link.sent c.run_ask.new.link; faults = g.L.Link.faults c.run_ask.new.link } in
    knows_words c.in-Ask.ask before after link later c.run_ask.result (c.run_ask.ensures None 0)
