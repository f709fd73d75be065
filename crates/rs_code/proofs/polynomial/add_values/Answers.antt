use Rattle.std.proofs.Common.{◌≡◌, ◌*◌, ◌+◌, ℕ, length, slice_index, bit_xor, arith, sym, ap, ◌∙◌}
use Rattle.std.specs.Int.Bits.{xor_zero_r}
use Rattle.gf_lanes.specs.Field.{product}
use Rattle.gf_lanes.proofs.Laws.{product-zero_r, product-one_r}
use Rattle.rs_code.specs.Polynomials.{polynomial}
use Rattle.rs_code.specs.Fragments.{coefficients}
use Rattle.rs_code.proofs.Steps.{polynomial_none, power_none, multiple_step, added_step}
use Rattle.rs_code.proofs.Pieces.{piece_at}
use Rattle.std.specs.List.{between}
use Rattle.rs_code.proofs.polynomial.add_values.Goals as goal

pub loop-r-init : goal.loop-r-init
loop-r-init c =
    let factor : ℕ = c.args.factor in (
      λ place h.
          let none : product factor (polynomial (coefficients c.args.pieces.now (length c.args.sums.now) place) 0 c.args.point) ≡ 0 =
          ap (product factor) (sym (polynomial_none (coefficients c.args.pieces.now (length c.args.sums.now) place) c.args.point)) ∙ product-zero_r factor in
          sym (ap (bit_xor (slice_index c.args.sums.now place)) none ∙ xor_zero_r (slice_index c.args.sums.now place)),
      sym (ap (product factor) (sym (power_none c.args.point)) ∙ product-one_r factor c.ranges.factor.fits),
    )

pub loop-r-preserved : goal.loop-r-preserved
loop-r-preserved c = (
  λ place h.
      added_step (coefficients c.args.pieces.now (length c.args.sums.now) place) c.args.point c.args.factor c.loop-r.r (slice_index c.args.sums.now place) (slice_index c.loop-r.sums place) c.loop-r.multiplier
      (slice_index (between (c.loop-r.r * length c.args.sums.now) ((c.loop-r.r + 1) * length c.args.sums.now) c.args.pieces.now) place) (slice_index c.mul_add.new.dst place)
      (c.loop-r.invariant.0 place h) c.loop-r.invariant.1 (piece_at c.args.pieces.now c.loop-r.r (length c.args.sums.now) place h) (c.mul_add.ensures place (omega arith)),
  multiple_step c.args.factor c.args.point c.loop-r.r c.loop-r.multiplier c.gf_mul-multiplier.result c.loop-r.invariant.1 c.gf_mul-multiplier.ensures.value,
)
