use Rattle.std.proofs.Common.{◌≡◌, ◌++◌, map, take}
use Rattle.entry_frames.specs.declared.output.Output.TheVariants as outputs
use Rattle.node_core.proofs.telling.tell_wholes.Given as goal

-- those passed so far are told
abbrev pub invariant-loop-index : goal.invariant-loop-index
invariant-loop-index l = l.told.items ≡ l.fn.told.items ++ map outputs.Whole (take l.index-index l.wholes)
