use Rattle.std.proofs.Common.{◌≡◌, length}
use Rattle.rs_code.proofs.tests.rebuilt.Given as goal

abbrev pub invariant-loop-i : goal.invariant-loop-i
invariant-loop-i g l = (l.rebuilder.need ≡ l.k) × (l.rebuilder.value_length ≡ length l.value)
