use Rattle.std.proofs.Common.{true, false, le-ltb, lt-ltb}
use Rattle.std.proofs.lemmas.Result.{IfErr-weaker, IfOk-weaker}
use Rattle.net_node.specs.NodeRun.{receiving, ticking, turn_of_node}
use Rattle.net_node.specs.Serving.{Moment}
use Rattle.net_node.proofs.Turning.{halts_by, makes_by, turn_prepares, with_reading}
use Rattle.net_node.proofs.turns.turn.Goals as goal

pub returns-then-rose-clause-made : goal.returns-then-rose-clause-made
returns-then-rose-clause-made g c =
    let places = c.args.cluster.now.places.now in
    let reading = c.now-reading.result in
    let readings = g.C.Clock.readings c.now-reading.new.self in
    let old : Moment = record {
      core = c.args.serving.shell.core;
      counts = c.args.serving.counts;
      edges = record { readings = g.C.Clock.readings c.args.clock.now; coming = g.L.Link.coming c.args.link.now; sent = g.L.Link.sent c.args.link.now; taken = g.O.Sink.taken c.args.out.now };
      faults = record { sink = g.O.Sink.faults c.args.out.now; disk = g.D.Disk.faults c.args.serving.shell.disk; link = g.L.Link.faults c.args.link.now };
    } in
    IfOk-weaker c.tick.result _ _ (λ x is. makes_by (turn_of_node places) (ticking places) c.args.cluster.now.shape.now c.args.cluster.now.me 1 old (with_reading reading readings old) _
    (turn_prepares places reading readings true old c.now-reading.ensures.reading c.now-reading.ensures.told (lt-ltb c.args.serving.counts.shown reading c.if-rose.true)) (is readings)) c.tick.ensures.made

pub returns-then-rose-clause-halted : goal.returns-then-rose-clause-halted
returns-then-rose-clause-halted g c =
    let places = c.args.cluster.now.places.now in
    let reading = c.now-reading.result in
    let readings = g.C.Clock.readings c.now-reading.new.self in
    let old : Moment = record {
      core = c.args.serving.shell.core;
      counts = c.args.serving.counts;
      edges = record { readings = g.C.Clock.readings c.args.clock.now; coming = g.L.Link.coming c.args.link.now; sent = g.L.Link.sent c.args.link.now; taken = g.O.Sink.taken c.args.out.now };
      faults = record { sink = g.O.Sink.faults c.args.out.now; disk = g.D.Disk.faults c.args.serving.shell.disk; link = g.L.Link.faults c.args.link.now };
    } in
    IfErr-weaker c.tick.result _ _ (λ x is. halts_by (turn_of_node places) (ticking places) c.args.cluster.now.shape.now c.args.cluster.now.me old (with_reading reading readings old) _ _ _ _
    (turn_prepares places reading readings true old c.now-reading.ensures.reading c.now-reading.ensures.told (lt-ltb c.args.serving.counts.shown reading c.if-rose.true)) (is readings)) c.tick.ensures.halted

pub returns-else-rose-clause-made : goal.returns-else-rose-clause-made
returns-else-rose-clause-made g c =
    let places = c.args.cluster.now.places.now in
    let reading = c.now-reading.result in
    let readings = g.C.Clock.readings c.now-reading.new.self in
    let old : Moment = record {
      core = c.args.serving.shell.core;
      counts = c.args.serving.counts;
      edges = record { readings = g.C.Clock.readings c.args.clock.now; coming = g.L.Link.coming c.args.link.now; sent = g.L.Link.sent c.args.link.now; taken = g.O.Sink.taken c.args.out.now };
      faults = record { sink = g.O.Sink.faults c.args.out.now; disk = g.D.Disk.faults c.args.serving.shell.disk; link = g.L.Link.faults c.args.link.now };
    } in
    IfOk-weaker c.receive.result _ _ (λ x is. makes_by (turn_of_node places) (λ s. receiving places s.packets s) c.args.cluster.now.shape.now c.args.cluster.now.me 1 old (with_reading reading readings old) _
    (turn_prepares places reading readings false old c.now-reading.ensures.reading c.now-reading.ensures.told (le-ltb c.args.serving.counts.shown reading c.if-rose.false)) (is readings)) c.receive.ensures.made

pub returns-else-rose-clause-halted : goal.returns-else-rose-clause-halted
returns-else-rose-clause-halted g c =
    let places = c.args.cluster.now.places.now in
    let reading = c.now-reading.result in
    let readings = g.C.Clock.readings c.now-reading.new.self in
    let old : Moment = record {
      core = c.args.serving.shell.core;
      counts = c.args.serving.counts;
      edges = record { readings = g.C.Clock.readings c.args.clock.now; coming = g.L.Link.coming c.args.link.now; sent = g.L.Link.sent c.args.link.now; taken = g.O.Sink.taken c.args.out.now };
      faults = record { sink = g.O.Sink.faults c.args.out.now; disk = g.D.Disk.faults c.args.serving.shell.disk; link = g.L.Link.faults c.args.link.now };
    } in
    IfErr-weaker c.receive.result _ _ (λ x is. halts_by (turn_of_node places) (λ s. receiving places s.packets s) c.args.cluster.now.shape.now c.args.cluster.now.me old (with_reading reading readings old) _ _ _ _
    (turn_prepares places reading readings false old c.now-reading.ensures.reading c.now-reading.ensures.told (le-ltb c.args.serving.counts.shown reading c.if-rose.false)) (is readings)) c.receive.ensures.halted
