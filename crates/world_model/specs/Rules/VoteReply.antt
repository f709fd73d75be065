-- VoteReply: a candidate that has the votes of more than half of the members has won its term, and prepares to lead it.
use Rattle.std.specs.Prelude.{ℕ, Bool, if◌then◌else◌, nat_le}
use Rattle.craft_base.specs.Shape.{majority_of}
use Rattle.entry_frames.specs.Logs.{last_index}
use Rattle.entry_frames.specs.declared.role.Role.{Role}
use Rattle.entry_frames.specs.declared.role.Role.TheVariants.{Follower, Candidate, Preparing, Leader}
use Rattle.craft_base.specs.Knowledge.{Heard, From, Voted, votes}
use Rattle.world_model.specs.Nodes.{Node, node_hearing}
use Rattle.world_model.specs.Rules.Acts.{Act, stays}
use Rattle.world_model.specs.Rules.Prepare.{act_of_winning}

-- a reply as it is heard: with the last index of the node's log
abbrev pub vote_heard : Node → ℕ → Bool → Heard
vote_heard n sender granted = From sender (last_index n.durable.log) (Voted granted)

-- whether more than half of the members have granted their vote
abbrev pub has_won : Node → Bool
has_won n = nat_le (majority_of n.shape) (votes n.shape n.volatile.heard)

abbrev pub act_of_count : Node → Act
act_of_count n = if has_won n then act_of_winning n else stays n

abbrev pub act_of_vote_reply_as : Role → Node → ℕ → Bool → Act
act_of_vote_reply_as Follower n sender granted = stays n
act_of_vote_reply_as Candidate n sender granted = act_of_count (node_hearing (vote_heard n sender granted) n)
-- a node that has won only hears it
act_of_vote_reply_as Preparing n sender granted = stays (node_hearing (vote_heard n sender granted) n)
act_of_vote_reply_as Leader n sender granted = stays (node_hearing (vote_heard n sender granted) n)

abbrev pub act_of_vote_reply : Node → ℕ → Bool → Act
act_of_vote_reply n sender granted = act_of_vote_reply_as n.volatile.role n sender granted
