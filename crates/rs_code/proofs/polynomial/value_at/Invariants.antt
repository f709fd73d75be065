use Rattle.std.proofs.Common.{◌≡◌, slice_index}
use Rattle.rs_code.specs.Polynomials.{power, polynomial}
use Rattle.rs_code.proofs.polynomial.value_at.Given as goal

abbrev pub invariant-loop-coefficient : goal.invariant-loop-coefficient
invariant-loop-coefficient l =
    (l.value ≡ polynomial (slice_index l.coefficients) l.coefficient-index l.point) × (l.power ≡ power l.point l.coefficient-index)
