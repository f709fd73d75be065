use Rattle.std.proofs.Common.{◌≡◌, ◌*◌, ◌<◌, ℕ, length, slice_index}
use Rattle.gf_lanes.specs.Field.{product}
use Rattle.gf_lanes.proofs.lanes.row.Given as goal

-- the places that were reached
abbrev pub invariant-loop-i : goal.invariant-loop-i
invariant-loop-i l = (length l.row ≡ 16) × ((k : ℕ) → k < l.i → slice_index l.row k ≡ product l.c (l.step * k))
