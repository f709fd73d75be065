use Rattle.std.proofs.Common.{◌≡◌, ◌<◌, ◌+◌, ◌-◌, ℕ, length, slice_index}
use Rattle.rs_code.specs.Polynomials.{polynomial}
use Rattle.rs_code.specs.Fragments.{coefficients, point_of}
use Rattle.rs_code.proofs.part.part_into.Given as goal

-- the values of the polynomials of the coefficients from r on, by Horner's rule
abbrev pub invariant-loop-r : goal.invariant-loop-r
invariant-loop-r l =
    (place : ℕ) → place < length l.fn.out → slice_index l.out place ≡ polynomial (λ i. coefficients l.value (length l.fn.out) place (l.r + i)) (l.k - l.r) (point_of l.member)
