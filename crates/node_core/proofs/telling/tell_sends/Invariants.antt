use Rattle.std.proofs.Common.{◌≡◌, ◌++◌, map}
use Rattle.entry_frames.specs.declared.output.Output.TheVariants as outputs
use Rattle.node_core.proofs.telling.tell_sends.Given as goal

-- the messages passed so far are told
abbrev pub invariant-loop-message : goal.invariant-loop-message
invariant-loop-message l = l.told.items ≡ l.fn.told.items ++ map outputs.Send l.yielded
