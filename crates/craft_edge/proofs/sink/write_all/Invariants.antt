use Rattle.std.proofs.Common.{◌≡◌, ◌-◌, ◌≤◌, length, take}
use Rattle.std.specs.Prelude.{is_some}
use Rattle.std.specs.Io.KnownBytes.{Appends}
use Rattle.craft_edge.proofs.sink.write_all.Given as goal

-- the sink has taken the bytes before `at`
abbrev pub invariant-loop-at : goal.invariant-loop-at
invariant-loop-at g l = (l.at ≤ length l.bytes)
    × Appends (g.O.Sink.taken l.initial.out) (g.O.Sink.taken l.out) (take l.at l.bytes)
    × (is_some (g.O.Sink.taken l.out) ≡ is_some (g.O.Sink.taken l.initial.out))
    × (g.O.Sink.faults l.initial.out ≤ g.O.Sink.faults l.out)

abbrev pub decreases-loop-at : goal.decreases-loop-at
decreases-loop-at g l = length l.bytes - l.at
