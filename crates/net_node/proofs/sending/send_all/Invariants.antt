use Rattle.std.proofs.Common.{◌≡◌, ◌≤◌, ◌++◌}
use Rattle.net_node.specs.NodeRun as run
use Rattle.net_node.specs.Sending.{Sends}
use Rattle.net_node.proofs.sending.send_all.Given as goal

-- the packets of the outputs so far were sent, and the others are left
abbrev pub invariant-loop-output : goal.invariant-loop-output
invariant-loop-output g l = record {
  sent : Sends (g.L.Link.sent l.fn.link) (g.L.Link.sent l.link) (run.packets_among l.cluster.shape.now l.cluster.places.now l.cluster.me l.yielded);
  left : l.fn.outputs.items ≡ l.yielded ++ l.output-iterator.rest.items;
  coming : g.L.Link.coming l.link ≡ g.L.Link.coming l.fn.link;
  later : g.L.Link.faults l.fn.link ≤ g.L.Link.faults l.link;
}
