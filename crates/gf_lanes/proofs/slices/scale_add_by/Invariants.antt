use Rattle.std.proofs.Common.{◌≡◌, ℕ, ◌*◌, ◌<◌, ◌≤◌, slice_index, bit_xor}
use Rattle.gf_lanes.specs.Field.{product}
use Rattle.gf_lanes.proofs.slices.scale_add_by.Given as goal

-- the blocks that were reached, and the places past them
abbrev pub invariant-loop-block : goal.invariant-loop-block
invariant-loop-block g l =
    ((k : ℕ) → k < l.block * 32 → slice_index l.dst k ≡ bit_xor (product l.c (slice_index l.fn.dst k)) (slice_index l.src k))
    × ((k : ℕ) → l.block * 32 ≤ k → slice_index l.dst k ≡ slice_index l.fn.dst k)

-- the places that were reached, and those that were not
abbrev pub invariant-loop-p : goal.invariant-loop-p
invariant-loop-p g l =
    ((k : ℕ) → k < l.p → slice_index l.dst k ≡ bit_xor (product l.c (slice_index l.fn.dst k)) (slice_index l.src k))
    × ((k : ℕ) → l.p ≤ k → slice_index l.dst k ≡ slice_index l.fn.dst k)
