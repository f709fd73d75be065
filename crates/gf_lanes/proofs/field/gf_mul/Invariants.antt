use Rattle.std.proofs.Common.{◌≡◌}
use Rattle.gf_lanes.specs.Field.{doubled, sum_of_doubled}
use Rattle.gf_lanes.proofs.field.gf_mul.Given as goal

-- what was added so far, and what the next bit adds
abbrev pub invariant-loop-bit : goal.invariant-loop-bit
invariant-loop-bit l = (l.sum ≡ sum_of_doubled l.fn.a l.fn.b l.bit) × (l.doubled ≡ doubled l.fn.a l.bit)
