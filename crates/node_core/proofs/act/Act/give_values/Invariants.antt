use Rattle.std.proofs.Common.{◌≡◌, ◌++◌, List, drop, map}
use Rattle.entry_frames.specs.Records.{Record}
use Rattle.node_core.specs.Acting.{MayRecord, Recorded}
use Rattle.node_core.specs.Preparing.{value_given}
use Rattle.node_core.proofs.act.Act.give_values.Given as goal

-- the values passed so far were recorded, and the rest may be
abbrev pub invariant-loop-whole : goal.invariant-loop-whole
invariant-loop-whole l = (made : List Record) × Recorded made l.fn.self l.act × MayRecord l.act.member (map value_given (drop l.whole-index l.wholes))
    × (map value_given l.wholes ≡ made ++ map value_given (drop l.whole-index l.wholes))
