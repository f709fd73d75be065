use Rattle.std.proofs.Common.{slice_index}
use Rattle.rs_code.proofs.Steps.{polynomial_none, power_none, power_step, value_step}
use Rattle.rs_code.proofs.polynomial.value_at.Goals as goal

pub loop-coefficient-init : goal.loop-coefficient-init
loop-coefficient-init c = (polynomial_none (slice_index c.args.coefficients.now) c.args.point, power_none c.args.point)

pub loop-coefficient-preserved : goal.loop-coefficient-preserved
loop-coefficient-preserved c = (
  value_step (slice_index c.args.coefficients.now) c.args.point c.loop-coefficient.coefficient-index c.loop-coefficient.value c.loop-coefficient.power c.gf_mul-value.result
      c.loop-coefficient.invariant.0 c.loop-coefficient.invariant.1 c.gf_mul-value.ensures.value,
  power_step c.args.point c.loop-coefficient.coefficient-index c.loop-coefficient.power c.gf_mul-power.result c.loop-coefficient.invariant.1 c.gf_mul-power.ensures.value,
)
