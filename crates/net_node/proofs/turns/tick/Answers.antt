use Rattle.std.proofs.lemmas.Result.{IfErr-weaker, IfOk-weaker}
use Rattle.world_model.specs.Turn as turns
use Rattle.net_node.specs.NodeRun.{serving, ticking}
use Rattle.net_node.specs.Serving.{Moment}
use Rattle.net_node.proofs.Turning.{halts_by, makes_by, tick_prepares, with_words}
use Rattle.net_node.proofs.turns.tick.Goals as goal

pub returns-clause-made : goal.returns-clause-made
returns-clause-made g c =
    let places = c.args.cluster.now.places.now in
    let word = c.next_word-word.result in
    let next = c.next_word-word.new.self in
    IfOk-weaker c.step.result _ _ (λ x is readings.
    let old : Moment = record {
      core = c.args.serving.shell.core;
      counts = c.args.serving.counts;
      edges = record { readings = readings; coming = g.L.Link.coming c.args.link.now; sent = g.L.Link.sent c.args.link.now; taken = g.O.Sink.taken c.args.out.now };
      faults = record { sink = g.O.Sink.faults c.args.out.now; disk = g.D.Disk.faults c.args.serving.shell.disk; link = g.L.Link.faults c.args.link.now };
    } in
    makes_by (ticking places) (serving places (turns.Tick word)) c.args.cluster.now.shape.now c.args.cluster.now.me 1 old (with_words next old) _
    (tick_prepares places word next old c.next_word-word.ensures) (is readings)) c.step.ensures.made

pub returns-clause-halted : goal.returns-clause-halted
returns-clause-halted g c =
    let places = c.args.cluster.now.places.now in
    let word = c.next_word-word.result in
    let next = c.next_word-word.new.self in
    IfErr-weaker c.step.result _ _ (λ x is readings.
    let old : Moment = record {
      core = c.args.serving.shell.core;
      counts = c.args.serving.counts;
      edges = record { readings = readings; coming = g.L.Link.coming c.args.link.now; sent = g.L.Link.sent c.args.link.now; taken = g.O.Sink.taken c.args.out.now };
      faults = record { sink = g.O.Sink.faults c.args.out.now; disk = g.D.Disk.faults c.args.serving.shell.disk; link = g.L.Link.faults c.args.link.now };
    } in
    halts_by (ticking places) (serving places (turns.Tick word)) c.args.cluster.now.shape.now c.args.cluster.now.me old (with_words next old) _ _ _ _
    (tick_prepares places word next old c.next_word-word.ensures) (is readings)) c.step.ensures.halted
