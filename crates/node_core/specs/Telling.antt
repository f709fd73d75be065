-- What a member tells of what changed in a turn.
use Rattle.std.specs.Prelude.{List, ◌++◌, map}
use Rattle.std.specs.Option.{option_to_list}
use Rattle.entry_frames.specs.declared.output.Output.{Output}
use Rattle.entry_frames.specs.declared.output.Output.TheVariants as outputs
use Rattle.node_core.specs.declared.telling.Changes.{Changes}

-- its role, what was removed, what became whole, and how far the log is committed
abbrev pub told_of : Changes → List Output
told_of changes =
    option_to_list changes.role
    ++ (map (λ index. outputs.Cut index changes.prepares) changes.cuts.items
    ++ (map outputs.Whole changes.wholes.items ++ option_to_list changes.commit))
