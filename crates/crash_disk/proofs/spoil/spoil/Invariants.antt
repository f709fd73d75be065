use Rattle.std.proofs.Common.{◌≡◌, ℕ, ◌<◌, length, get_or, take}
use Rattle.crash_disk.specs.Kept.{lies_in}
use Rattle.crash_disk.proofs.Spoiling.{spoiled_byte}
use Rattle.crash_disk.proofs.spoil.spoil.Given as goal

abbrev pub invariant-loop-at : goal.invariant-loop-at
invariant-loop-at l = record {
  same : length l.bytes.items ≡ length l.held;
  each : (i : ℕ) → i < length l.held → get_or l.bytes.items i 0 ≡ spoiled_byte (lies_in (take l.at-index l.pending) i) l.held i;
}
