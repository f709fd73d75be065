-- Tick: a follower or a candidate that has heard nothing for long enough stands for election; a node that has won counts a beat,
-- and asks all others where it prepares, or sends to them where it leads, and asks them where it wants a value.
use Rattle.std.specs.Prelude.{ℕ, ◌+◌, ◌%◌, min, List, [], None, Some, Bool, ◌&&◌, if◌then◌else◌, nat_le, nat_lt}
use Rattle.entry_frames.specs.Limits.{greatest}
use Rattle.entry_frames.specs.Logs.{last_index, last_term}
use Rattle.entry_frames.specs.Records.{Term}
use Rattle.entry_frames.specs.declared.message.Message.{Message}
use Rattle.entry_frames.specs.declared.peer.Peer.TheVariants as peers
use Rattle.entry_frames.specs.declared.role.Role.{Role}
use Rattle.entry_frames.specs.declared.role.Role.TheVariants.{Follower, Candidate, Preparing, Leader}
use Rattle.craft_base.specs.Knowledge.{Beat}
use Rattle.world_model.specs.Nodes.{Node, node_hearing}
use Rattle.world_model.specs.Rules.Acts.{Act, stays, recording, keeping, sending, followed_by, messages_to_others}
use Rattle.world_model.specs.Rules.Prepare.{act_of_asking_again, cursor_at}
use Rattle.world_model.specs.Rules.Say.{act_of_saying}
use Rattle.world_model.specs.Rules.Want.{act_of_gathering}

-- whether that many quiet ticks are enough, by a word that the clock chooses, and a higher term is left
abbrev pub is_due : ℕ → ℕ → ℕ → Bool
is_due quiet word term = nat_le (3 + word % 8) quiet && nat_lt term greatest

-- the node one quiet tick later; they are counted up to 100
abbrev pub waiting_node : Node → Node
waiting_node n = record n { volatile = record n.volatile { quiet = min (n.volatile.quiet + 1) 100 } }

-- a candidacy in the next term, with the node's own vote
abbrev pub act_of_candidacy : Node → Act
act_of_candidacy n =
    keeping (record n.volatile { role = Candidate; quiet = 0; hint = None; heard = []; first = 0 }) (recording (Term (n.durable.term + 1) (Some n.me)) (stays n))

-- a candidate asks all others for their vote, and shows the end of its log
abbrev pub vote_requests : Node → List Message
vote_requests n = messages_to_others n (peers.Vote (last_term n.durable.log) (last_index n.durable.log))

abbrev pub act_of_election : Node → Act
act_of_election n = sending (vote_requests (act_of_candidacy n).node) (act_of_candidacy n)

-- a node that hasn't won stands for election where it is due
abbrev pub act_of_waiting : ℕ → Node → Act
act_of_waiting word n = if is_due n.volatile.quiet word n.durable.term then act_of_election n else stays n

-- a leader sends to all others, and then asks them for the value that it wants, if it wants one
abbrev pub act_of_beat : Node → Act
act_of_beat n = followed_by (act_of_saying n) act_of_gathering

abbrev pub act_of_tick_as : Role → ℕ → Node → Act
act_of_tick_as Follower word n = act_of_waiting word (waiting_node n)
act_of_tick_as Candidate word n = act_of_waiting word (waiting_node n)
act_of_tick_as Preparing word n = act_of_asking_again (cursor_at n) (node_hearing Beat n)
act_of_tick_as Leader word n = act_of_beat (node_hearing Beat n)

abbrev pub act_of_tick : ℕ → Node → Act
act_of_tick word n = act_of_tick_as n.volatile.role word n
