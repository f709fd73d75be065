-- Terms: a message of a lower term is refused or dropped; one of a higher term makes the node follow that term first.
use Rattle.std.specs.Prelude.{ℕ, ◌+◌, List, [], ◌∷◌, None, false, if◌then◌else◌, nat_lt}
use Rattle.entry_frames.specs.Records.{Term}
use Rattle.entry_frames.specs.declared.message.Message.{Message}
use Rattle.entry_frames.specs.declared.peer.Peer.{Peer}
use Rattle.entry_frames.specs.declared.peer.Peer.TheVariants as peers
use Rattle.entry_frames.specs.declared.role.Role.TheVariants.{Follower}
use Rattle.world_model.specs.Nodes.{Node}
use Rattle.world_model.specs.Rules.Acts.{Act, stays, recording, keeping, sending, message_of}

-- a higher term: the node is a follower in it, has cast no vote and has heard nothing, and nobody is
-- answered any more who asked in the term before. Its quiet time goes on.
abbrev pub act_of_higher_term : ℕ → Node → Act
act_of_higher_term term n =
    keeping (record n.volatile { role = Follower; hint = None; heard = []; first = 0; pages = []; calls = []; reads = []; want = None }) (recording (Term term None) (stays n))

-- the term of a message that isn't of a lower term
abbrev pub act_of_term : ℕ → Node → Act
act_of_term term n = if nat_lt n.durable.term term then act_of_higher_term term n else stays n

-- what a leader is told that can't go on here: the index from which it may
abbrev pub refusal : Node → Peer
refusal n = peers.Refused (n.durable.commit + 1)

-- a request of a lower term is refused in the present term; a reply of a lower term is dropped
abbrev pub stale_replies : Node → ℕ → Peer → List Message
stale_replies n sender (peers.Vote last_term last) = message_of n (peers.VoteReply false) sender ∷ []
stale_replies n sender (peers.Append prev prev_term commit entries) = message_of n (refusal n) sender ∷ []
stale_replies n sender (peers.Ask start) = message_of n (refusal n) sender ∷ []
stale_replies n sender _ = []

abbrev pub act_of_lower_term : Node → ℕ → Peer → Act
act_of_lower_term n sender body = sending (stale_replies n sender body) (stays n)
