use Rattle.std.proofs.Common.{◌≡◌, ◌<◌, ◌≤◌, ◌*◌, ℕ, length, slice_index, bit_xor}
use Rattle.gf_lanes.specs.Field.{product}
use Rattle.rs_code.specs.Fragments.{coefficients}
use Rattle.rs_code.proofs.polynomial.add_multiples.Given as goal

-- the pieces that were reached, and the bytes of those that were not
abbrev pub invariant-loop-r : goal.invariant-loop-r
invariant-loop-r l =
    ((r place : ℕ) → r < l.r → place < length l.numbers → coefficients l.pieces (length l.numbers) place r ≡ bit_xor (coefficients l.fn.pieces (length l.numbers) place r) (product (slice_index l.multipliers r) (slice_index l.numbers place)))
    × ((i : ℕ) → l.r * length l.numbers ≤ i → slice_index l.pieces i ≡ slice_index l.fn.pieces i)
