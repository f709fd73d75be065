use Rattle.std.proofs.Common.{◌≡◌, ◌++◌, List, drop, map}
use Rattle.entry_frames.specs.Records.{Record}
use Rattle.node_core.specs.Acting.{MayRecord, Recorded}
use Rattle.node_core.specs.Appending.{value_record}
use Rattle.node_core.proofs.act.Act.complete.Given as goal

-- the values passed so far were recorded, and the rest may be
abbrev pub invariant-loop-index : goal.invariant-loop-index
invariant-loop-index l = (made : List Record) × Recorded made l.fn.self l.act × MayRecord l.act.member (map (value_record l.append.frame) (drop l.index-index l.wholes))
    × (map (value_record l.append.frame) l.wholes ≡ made ++ map (value_record l.append.frame) (drop l.index-index l.wholes))
