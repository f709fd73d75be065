use Rattle.std.proofs.Common.{◌≡◌, ◌++◌, drop}
use Rattle.net_node.specs.NodeRun.{frames_after, told_lines}
use Rattle.net_node.proofs.event_text.push_outputs.Given as goal

-- what was added and the lines of what is left are the lines of all
abbrev pub invariant-loop-output : goal.invariant-loop-output
invariant-loop-output l = record {
  told : l.text.items ++ told_lines l.me l.frame (drop l.output-index l.outputs) ≡ l.fn.text.items ++ told_lines l.me l.fn.frame l.outputs;
  next : frames_after l.frame (drop l.output-index l.outputs) ≡ frames_after l.fn.frame l.outputs;
}
