use Rattle.std.proofs.Common.{◌≡◌, ◌++◌}
use Rattle.node_core.specs.Acting.{IsNode}
use Rattle.node_core.specs.Calling.{is_current}
use Rattle.node_core.proofs.Currents.{sent_below}
use Rattle.world_model.specs.Nodes.{Node}
use Rattle.world_model.specs.Rules.Say.{append_to}
use Rattle.node_core.proofs.member.Member.append_to_current.Given as goal

-- of the members passed so far, those were sent to that have all before the last entry
abbrev pub invariant-loop-number : goal.invariant-loop-number
invariant-loop-number l = (n : Node) → IsNode l.self n → l.sends.items ≡ l.fn.sends.items ++ sent_below (append_to n) (is_current n) n.me l.number
