use Rattle.std.proofs.Common.{◌≡◌}
use Rattle.kv_apply.specs.Services as services
use Rattle.node_core.specs.Serving.{heads_up_to}
use Rattle.node_core.proofs.running.applied.Given as goal

-- the entries passed so far are applied
abbrev pub invariant-loop-before : goal.invariant-loop-before
invariant-loop-before l = (services.count_of l.service ≡ l.before) × services.Stands l.service (heads_up_to l.before l.store.kept)
