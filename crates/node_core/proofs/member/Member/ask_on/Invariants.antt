use Rattle.std.proofs.Common.{◌≡◌, ◌++◌, not, Some}
use Rattle.entry_frames.specs.declared.peer.Peer.TheVariants.{Ask}
use Rattle.leader_prep.specs.Pages.{covers}
use Rattle.node_core.specs.Acting.{IsNode}
use Rattle.node_core.proofs.Currents.{sent_below}
use Rattle.world_model.specs.Nodes.{Node}
use Rattle.world_model.specs.Rules.Acts.{message_of}
use Rattle.world_model.specs.Rules.Prepare.{cursor_at}
use Rattle.node_core.proofs.member.Member.ask_on.Given as goal

-- of the members passed so far, those were asked that don't cover the cursor
abbrev pub invariant-loop-number : goal.invariant-loop-number
invariant-loop-number l = (n : Node) → IsNode l.self n → cursor_at n ≡ Some l.fn.cursor →
    l.sends.items ≡ l.fn.sends.items ++ sent_below (message_of n (Ask l.fn.cursor)) (λ member. not (covers n.me n.volatile.pages l.fn.cursor member)) n.me l.number
