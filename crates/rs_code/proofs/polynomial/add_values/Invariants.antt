use Rattle.std.proofs.Common.{◌≡◌, ◌<◌, ℕ, length, slice_index, bit_xor}
use Rattle.gf_lanes.specs.Field.{product}
use Rattle.rs_code.specs.Polynomials.{power, polynomial}
use Rattle.rs_code.specs.Fragments.{coefficients}
use Rattle.rs_code.proofs.polynomial.add_values.Given as goal

abbrev pub invariant-loop-r : goal.invariant-loop-r
invariant-loop-r l =
    ((place : ℕ) → place < length l.fn.sums → slice_index l.sums place ≡ bit_xor (slice_index l.fn.sums place) (product l.factor (polynomial (coefficients l.pieces (length l.fn.sums) place) l.r l.point)))
    × (l.multiplier ≡ product l.factor (power l.point l.r))
