use Rattle.std.proofs.Common.{◌≡◌, ◌≤◌, ◌-◌, length}
use Rattle.synced_log.specs.Calls.{AllMade, AreReadings}
use Rattle.synced_log.specs.Crashes.{LeavesOnly}
use Rattle.synced_log.proofs.Filling.{IsFilled}
use Rattle.synced_log.proofs.reading.fill.Given as goal

abbrev pub invariant-loop-at : goal.invariant-loop-at
invariant-loop-at g l = record {
  within : l.at ≤ length l.buf;
  length_is : length l.buf ≡ length l.fn.buf;
  filled : IsFilled (g.D.Disk.seen l.fn.disk) l.buf l.at;
  seen : g.D.Disk.seen l.disk ≡ g.D.Disk.seen l.fn.disk;
  crash : LeavesOnly g.D.Disk.tells_crash g.D.Disk.tells_past g.D.Disk.moment g.D.Disk.may_leave g.D.Disk.left_since l.fn.disk l.disk (g.D.Disk.may_leave l.fn.disk);
  made : AllMade (g.D.Disk.history l.fn.disk) (g.D.Disk.history l.disk) AreReadings;
  later : g.D.Disk.faults l.fn.disk ≤ g.D.Disk.faults l.disk;
}

abbrev pub decreases-loop-at : goal.decreases-loop-at
decreases-loop-at g l = length l.buf - l.at
