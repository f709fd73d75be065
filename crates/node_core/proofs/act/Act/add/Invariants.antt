use Rattle.std.proofs.Common.{◌≡◌, ◌++◌, List, drop, map}
use Rattle.entry_frames.specs.MessageParts.{body_of, entries_of}
use Rattle.entry_frames.specs.Records.{Record, Add}
use Rattle.node_core.specs.Acting.{MayRecord, Recorded}
use Rattle.node_core.proofs.act.Act.add.Given as goal

-- the entries passed so far were added, and the rest may be
abbrev pub invariant-loop-number : goal.invariant-loop-number
invariant-loop-number l = (made : List Record) × Recorded made l.fn.self l.act × MayRecord l.act.member (map Add (drop l.number (entries_of (body_of l.append.frame))))
    × (map Add (drop l.fn.first_new (entries_of (body_of l.append.frame))) ≡ made ++ map Add (drop l.number (entries_of (body_of l.append.frame))))
