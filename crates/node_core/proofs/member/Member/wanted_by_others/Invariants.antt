use Rattle.std.proofs.Common.{◌≡◌}
use Rattle.craft_base.specs.Knowledge.{least_of}
use Rattle.node_core.specs.Acting.{IsNode}
use Rattle.node_core.proofs.Wanting.{wanted_below}
use Rattle.world_model.specs.Nodes.{Node}
use Rattle.world_model.specs.Rules.Say.{start_of}
use Rattle.node_core.proofs.member.Member.wanted_by_others.Given as goal

-- the least of the members passed so far
abbrev pub invariant-loop-number : goal.invariant-loop-number
invariant-loop-number l = (n : Node) → IsNode l.self n → l.want ≡ least_of l.fn.first (wanted_below n.durable.log (start_of n) n.me l.number)
