use Rattle.std.proofs.Common.{◌≡◌, drop}
use Rattle.world_model.specs.Rules.Applying as rule
use Rattle.node_core.proofs.rules.applying.call_at.Given as goal

-- it is none of those passed so far
abbrev pub invariant-loop-call : goal.invariant-loop-call
invariant-loop-call l = rule.call_at l.index l.calls ≡ rule.call_at l.index (drop l.call-index l.calls)
