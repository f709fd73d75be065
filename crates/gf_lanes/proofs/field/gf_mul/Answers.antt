use Rattle.std.proofs.Common.{◌≡◌, ◌*◌, refl, ap, ◌∙◌, arith, bit_xor}
use Rattle.std.proofs.lemmas.Nat.Bits.{shr_and_one}
use Rattle.std.proofs.Math.Numerals.{add-one}
use Rattle.gf_lanes.specs.Field.{doubled, sum_of_doubled, product}
use Rattle.gf_lanes.proofs.Inverses.{product_field}
use Rattle.gf_lanes.proofs.field.gf_mul.Goals as goal

pub loop-bit-init : goal.loop-bit-init
unfolding doubled sum_of_doubled
loop-bit-init c = (refl, omega arith)

pub loop-bit-preserved : goal.loop-bit-preserved
unfolding doubled sum_of_doubled
loop-bit-preserved c =
    let bit : _ = shr_and_one c.args.b c.loop-bit.bit in
    rw (add-one, ← c.loop-bit.invariant.0, ← c.loop-bit.invariant.1)
    (ap (λ n. bit_xor c.loop-bit.sum (n * c.loop-bit.doubled)) bit, c.double-doubled.ensures)

pub returns-clause-value : goal.returns-clause-value
unfolding product
returns-clause-value c =
    let all : c.loop-bit.bit ≡ 8 = omega arith in
    c.loop-bit.invariant.0 ∙ ap (λ n. sum_of_doubled c.args.a c.args.b n) all

pub returns-clause-laws : goal.returns-clause-laws
returns-clause-laws c = product_field
