use Rattle.std.proofs.Common.{◌≡◌, ℕ, ◌-◌, ◌<◌, ◌≤◌, max, length, get_or}
use Rattle.std.specs.Prelude.{leb, ltb, ◌&&◌, if◌then◌else◌}
use Rattle.crash_disk.proofs.spoil.complement.Given as goal

abbrev pub invariant-loop-i : goal.invariant-loop-i
invariant-loop-i l = record {
  place : l.i ≤ max l.from l.end;
  same : length l.bytes ≡ length l.held;
  each : (j : ℕ) → j < length l.bytes → get_or l.bytes j 0 ≡ (if leb l.from j && ltb j l.i then 255 - get_or l.held j 0 else get_or l.fn.bytes j 0);
}
