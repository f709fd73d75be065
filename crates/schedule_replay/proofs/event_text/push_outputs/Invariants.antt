use Rattle.std.proofs.Common.{◌≡◌, ◌≤◌, ◌+◌, ◌++◌, drop}
use Rattle.world_model.specs.Lines.{output_lines}
use Rattle.schedule_replay.proofs.event_text.push_outputs.Given as goal

-- what was added and the lines of what is left are the lines of all; at most one frame was numbered for each output
abbrev pub invariant-loop-output : goal.invariant-loop-output
invariant-loop-output l = record {
  told : l.text.items ++ output_lines l.member l.frame (drop l.output-index l.outputs) ≡ l.fn.text.items ++ output_lines l.member l.fn.frame l.outputs;
  few : l.frame ≤ l.fn.frame + l.output-index;
}
