use Rattle.std.proofs.Common.{◌≡◌, ◌++◌}
use Rattle.node_core.specs.Acting.{IsNode}
use Rattle.node_core.proofs.Sending.{sent_to}
use Rattle.world_model.specs.Nodes.{Node}
use Rattle.world_model.specs.Rules.Say as rule
use Rattle.node_core.proofs.member.Member.append_to_others.Given as goal

-- the members passed so far were sent to
abbrev pub invariant-loop-number : goal.invariant-loop-number
invariant-loop-number l = (n : Node) → IsNode l.self n → l.sends.items ≡ l.fn.sends.items ++ sent_to (rule.append_to n) n.me l.number
