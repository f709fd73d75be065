use Rattle.std.proofs.Common.{◌≡◌, ℕ, arith, subst}
use Rattle.std.proofs.lemmas.Result.{err_from_is_err_and}
use Rattle.synced_log.proofs.Telling.{tells_both}
use Rattle.net_node.specs.NodeRun.{node_run}
use Rattle.net_node.specs.Serving.{Makes}
use Rattle.net_node.proofs.Running.{halts_on, makes_on}
use Rattle.net_node.proofs.turns.run.Goals as goal

pub loop-preserved : goal.loop-preserved
loop-preserved g c =
    let l = c.loop in
    let d = g.D.Disk in
    let e = c.in_ok-serving.ensures in
    record {
      made = makes_on c.args.cluster.now.places.now l.counter c.args.cluster.now.shape.now c.args.cluster.now.me _ _ _ l.invariant.made e.made;
      told = tells_both d.seen d.tells_crash d.tells_past d.moment d.may_leave d.left_since d.history _ _ _ l.invariant.told e.told;
    }

pub returns-in_err-serving-clause-halted : goal.returns-in_err-serving-clause-halted
returns-in_err-serving-clause-halted g c =
    let l = c.loop in
    let e = c.in_err-serving.ensures in
    let p = err_from_is_err_and c.from_residual.result c.from_residual.ensures.1 in
    rw (p.1, p.2) (halts_on c.args.cluster.now.places.now l.counter c.args.turns c.args.cluster.now.shape.now c.args.cluster.now.me _ _ _ _ _ _
    c.loop-test.true l.invariant.made e.halted)

pub returns-clause-made : goal.returns-clause-made
returns-clause-made g c =
    let l = c.loop in
    let all : l.counter ≡ c.args.turns = omega arith in
    subst (λ (n : ℕ). Makes (node_run c.args.cluster.now.places.now n) c.args.cluster.now.shape.now c.args.cluster.now.me n
    (record {
      core = c.args.serving.shell.core;
      counts = c.args.serving.counts;
      edges = record { readings = g.C.Clock.readings c.args.clock.now; coming = g.L.Link.coming c.args.link.now; sent = g.L.Link.sent c.args.link.now; taken = g.O.Sink.taken c.args.out.now };
      faults = record { sink = g.O.Sink.faults c.args.out.now; disk = g.D.Disk.faults c.args.serving.shell.disk; link = g.L.Link.faults c.args.link.now };
    })
    (record {
      core = l.serving.shell.core;
      counts = l.serving.counts;
      edges = record { readings = g.C.Clock.readings l.clock; coming = g.L.Link.coming l.link; sent = g.L.Link.sent l.link; taken = g.O.Sink.taken l.out };
      faults = record { sink = g.O.Sink.faults l.out; disk = g.D.Disk.faults l.serving.shell.disk; link = g.L.Link.faults l.link };
    })) all l.invariant.made
