use Rattle.std.proofs.Common.{◌≤◌}
use Rattle.node_core.specs.Serving.{Serves}
use Rattle.node_core.proofs.act.Act.serve.Given as goal

-- the entries passed so far are applied
abbrev pub invariant-loop-before : goal.invariant-loop-before
invariant-loop-before l = (l.fn.self.member.store.kept.commit ≤ l.before) × (l.before ≤ l.fn.index) × Serves l.fn.self.member.store.kept.commit l.before l.fn.self l.act
