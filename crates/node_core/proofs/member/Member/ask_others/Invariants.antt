use Rattle.std.proofs.Common.{◌≡◌, ◌++◌}
use Rattle.entry_frames.specs.Logs.{last_index, last_term}
use Rattle.entry_frames.specs.declared.peer.Peer.TheVariants.{Vote}
use Rattle.node_core.specs.Acting.{IsNode}
use Rattle.node_core.proofs.Sending.{sent_to}
use Rattle.world_model.specs.Nodes.{Node}
use Rattle.world_model.specs.Rules.Acts.{message_of}
use Rattle.node_core.proofs.member.Member.ask_others.Given as goal

-- the members passed so far were asked
abbrev pub invariant-loop-number : goal.invariant-loop-number
invariant-loop-number l = (n : Node) → IsNode l.self n →
    l.sends.items ≡ l.fn.sends.items ++ sent_to (message_of n (Vote (last_term n.durable.log) (last_index n.durable.log))) n.me l.number
