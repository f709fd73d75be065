use Rattle.std.proofs.Common.{◌≡◌, ◌++◌}
use Rattle.entry_frames.specs.declared.peer.Peer.TheVariants.{Ask}
use Rattle.node_core.specs.Acting.{IsNode}
use Rattle.node_core.proofs.Sending.{sent_to}
use Rattle.world_model.specs.Nodes.{Node}
use Rattle.world_model.specs.Rules.Acts.{message_of}
use Rattle.node_core.proofs.member.Member.ask_all.Given as goal

-- the members passed so far were asked
abbrev pub invariant-loop-number : goal.invariant-loop-number
invariant-loop-number l = (n : Node) → IsNode l.self n → l.sends.items ≡ l.fn.sends.items ++ sent_to (message_of n (Ask l.fn.start)) n.me l.number
