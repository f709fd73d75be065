use Rattle.std.proofs.Common.{◌≡◌}
use Rattle.kv_apply.specs.Services.{count_of}
use Rattle.kv_apply.proofs.tests.applied.Given as goal

-- so many commands were applied
abbrev pub invariant-loop-before : goal.invariant-loop-before
invariant-loop-before l = count_of l.service ≡ l.before
