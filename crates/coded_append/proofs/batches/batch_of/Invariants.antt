use Rattle.std.proofs.Common.{◌≡◌, ℕ, ◌-◌, ◌++◌, length, drop}
use Rattle.coded_append.specs.Batches.{batch_of, fitting}
use Rattle.coded_append.specs.Ways.{going}
use Rattle.coded_append.proofs.batches.batch_of.Given as goal

-- what is taken, and what is left of what fits, are the whole
abbrev pub invariant-loop-place : goal.invariant-loop-place
invariant-loop-place g l = record {
  taken : (k : ℕ) → l.batch ++ fitting k (8 - l.place) l.room (going l.way (drop l.place (drop (l.start - 1) (g.L.LogView.log l.log).entries)))
      ≡ batch_of k (going l.way (drop (l.start - 1) (g.L.LogView.log l.log).entries));
  as_many : length l.batch ≡ l.place;
}
