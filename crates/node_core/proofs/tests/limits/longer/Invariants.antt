use Rattle.std.proofs.Common.{◌≡◌}
use Rattle.node_core.proofs.tests.limits.longer.Given as goal

-- the log stays one of its cluster
abbrev pub invariant-loop : goal.invariant-loop
invariant-loop l = l.store.shape ≡ l.fn.store.shape
