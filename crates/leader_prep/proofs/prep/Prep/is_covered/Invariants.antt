use Rattle.std.proofs.Common.{◌≡◌, ◌≤◌}
use Rattle.std.specs.List.{count_by, range_with_len}
use Rattle.leader_prep.specs.Standing.{kept_covers}
use Rattle.leader_prep.proofs.prep.Prep.is_covered.Given as goal

-- so many of the members so far
abbrev pub invariant-loop-number : goal.invariant-loop-number
invariant-loop-number l = record {
  few : l.covering ≤ l.number;
  counted : l.covering ≡ count_by (kept_covers l.self l.index) (range_with_len 0 l.number);
}
