use Rattle.std.proofs.Common.{◌≡◌}
use Rattle.gf_lanes.proofs.Inverses.{squared, squares_product}
use Rattle.gf_lanes.proofs.field.gf_inv.Given as goal

-- how often the argument was squared, and the product of its squares
abbrev pub invariant-loop : goal.invariant-loop
invariant-loop l = (l.square ≡ squared l.fn.a l.counter) × (l.inverse ≡ squares_product l.fn.a l.counter)
