-- Vote: a member votes once in a term, and only for a candidate whose log is at least as up to date as its own.
use Rattle.std.specs.Prelude.{ℕ, ◌∷◌, [], Option, None, Some, Bool, true, false, ◌&&◌, ◌||◌, ◌==◌, if◌then◌else◌, nat_le, nat_lt}
use Rattle.entry_frames.specs.Logs.{last_index, last_term}
use Rattle.entry_frames.specs.Records.{Term}
use Rattle.entry_frames.specs.declared.peer.Peer.TheVariants as peers
use Rattle.world_model.specs.Nodes.{Node}
use Rattle.world_model.specs.Rules.Acts.{Act, stays, recording, keeping, sending, message_of}

-- whether a vote may go to that member: it is its own already, or nobody's
abbrev pub is_free_for : ℕ → Option ℕ → Bool
is_free_for candidate None = true
is_free_for candidate (Some voted) = voted == candidate

-- whether a log that ends in that term and at that index is up to date: a later last term, or the same and no fewer entries
abbrev pub is_up_to_date : ℕ → ℕ → ℕ → ℕ → Bool
is_up_to_date my_term my_last their_term their_last = nat_lt my_term their_term || ((my_term == their_term) && nat_le my_last their_last)

abbrev pub is_granted : Option ℕ → ℕ → ℕ → ℕ → ℕ → ℕ → Bool
is_granted vote my_last my_last_term candidate their_last their_last_term =
    is_free_for candidate vote && is_up_to_date my_last_term my_last their_last_term their_last

-- whether the node grants its vote
abbrev pub is_grantor : Node → ℕ → ℕ → ℕ → Bool
is_grantor n candidate their_last_term their_last =
    is_granted n.durable.vote (last_index n.durable.log) (last_term n.durable.log) candidate their_last their_last_term

-- a vote that is nobody's yet is recorded; one that is the candidate's already stands
abbrev pub act_of_vote_from : Option ℕ → ℕ → Node → Act
act_of_vote_from None candidate n = recording (Term n.durable.term (Some candidate)) (stays n)
act_of_vote_from (Some voted) candidate n = stays n

-- a vote for that candidate; the node has heard of an election
abbrev pub act_of_grant : ℕ → Node → Act
act_of_grant candidate n =
    sending (message_of n (peers.VoteReply true) candidate ∷ [])
    (keeping (record n.volatile { quiet = 0 }) (act_of_vote_from n.durable.vote candidate n))

abbrev pub act_of_vote_refusal : ℕ → Node → Act
act_of_vote_refusal candidate n = sending (message_of n (peers.VoteReply false) candidate ∷ []) (stays n)

abbrev pub act_of_vote_request : Node → ℕ → ℕ → ℕ → Act
act_of_vote_request n candidate their_last_term their_last =
    if is_grantor n candidate their_last_term their_last then act_of_grant candidate n else act_of_vote_refusal candidate n
