use Rattle.synced_log.specs.Crashes.{TellsSame}
use Rattle.net_node.specs.NodeRun.{node_run}
use Rattle.net_node.specs.Serving.{Makes}
use Rattle.net_node.proofs.turns.run.Given as goal

-- so many turns were made
abbrev pub invariant-loop : goal.invariant-loop
invariant-loop g l = record {
  made : Makes (node_run l.cluster.places.now l.counter) l.cluster.shape.now l.cluster.me l.counter
      (record {
        core = l.fn.serving.shell.core;
        counts = l.fn.serving.counts;
        edges = record { readings = g.C.Clock.readings l.fn.clock; coming = g.L.Link.coming l.fn.link; sent = g.L.Link.sent l.fn.link; taken = g.O.Sink.taken l.fn.out };
        faults = record { sink = g.O.Sink.faults l.fn.out; disk = g.D.Disk.faults l.fn.serving.shell.disk; link = g.L.Link.faults l.fn.link };
      })
      (record {
        core = l.serving.shell.core;
        counts = l.serving.counts;
        edges = record { readings = g.C.Clock.readings l.clock; coming = g.L.Link.coming l.link; sent = g.L.Link.sent l.link; taken = g.O.Sink.taken l.out };
        faults = record { sink = g.O.Sink.faults l.out; disk = g.D.Disk.faults l.serving.shell.disk; link = g.L.Link.faults l.link };
      });
  told : TellsSame g.D.Disk.seen g.D.Disk.tells_crash g.D.Disk.tells_past g.D.Disk.history l.fn.serving.shell.disk l.serving.shell.disk;
}
