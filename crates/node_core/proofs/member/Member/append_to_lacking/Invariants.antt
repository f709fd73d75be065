use Rattle.std.proofs.Common.{◌≡◌, ◌++◌}
use Rattle.node_core.specs.Acting.{IsNode}
use Rattle.node_core.specs.Wanting.{is_lacking}
use Rattle.node_core.proofs.Currents.{sent_below}
use Rattle.world_model.specs.Nodes.{Node}
use Rattle.world_model.specs.Rules.Say.{append_to}
use Rattle.node_core.proofs.member.Member.append_to_lacking.Given as goal

-- of the members passed so far, those were sent to that are sent entries from that index on
abbrev pub invariant-loop-number : goal.invariant-loop-number
invariant-loop-number l = (n : Node) → IsNode l.self n → l.sends.items ≡ l.fn.sends.items ++ sent_below (append_to n) (is_lacking l.index n) n.me l.number
