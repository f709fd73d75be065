use Rattle.std.proofs.Common.{◌≡◌, ◌≤◌, length}
use Rattle.coded_append.proofs.tests.log_of.Given as goal

-- so many entries at most
abbrev pub invariant-loop-place : goal.invariant-loop-place
invariant-loop-place l = record {
  need : l.log.k ≡ 2;
  short : length l.log.views.items ≤ l.place;
}
