-- Ask: a member shows what it holds of its log, from an index on, to the one that has won its term.
use Rattle.std.specs.Prelude.{ℕ, ◌-◌, [], ◌∷◌, drop}
use Rattle.coded_append.specs.Batches.{batch_of}
use Rattle.entry_frames.specs.Logs.{last_index}
use Rattle.entry_frames.specs.declared.peer.Peer.{Peer}
use Rattle.entry_frames.specs.declared.peer.Peer.TheVariants as peers
use Rattle.entry_frames.specs.declared.role.Role.{Role}
use Rattle.entry_frames.specs.declared.role.Role.TheVariants.{Follower, Candidate, Preparing, Leader}
use Rattle.world_model.specs.Nodes.{Node}
use Rattle.world_model.specs.Rules.Acts.{Act, sending, message_of, stays}
use Rattle.world_model.specs.Rules.Append.{following}

-- its entries from an index on in the forms that it holds, as many as one message has room for, and the last index of its log
abbrev pub page_from : Node → ℕ → Peer
page_from n start = peers.Answer start (last_index n.durable.log) (batch_of n.shape.need (drop (start - 1) n.durable.log))

abbrev pub act_of_showing : (asker start : ℕ) → Node → Act
act_of_showing asker start n = sending (message_of n (page_from n start) asker ∷ []) (stays n)

-- who asks has won the term
abbrev pub act_of_asked : (asker start : ℕ) → Node → Act
act_of_asked asker start n = act_of_showing asker start (record n { volatile = following asker n })

abbrev pub act_of_ask_as : Role → Node → (asker start : ℕ) → Act
act_of_ask_as Follower n asker start = act_of_asked asker start n
act_of_ask_as Candidate n asker start = act_of_asked asker start n
-- a node that has won shows nothing
act_of_ask_as Preparing n asker start = stays n
act_of_ask_as Leader n asker start = stays n

abbrev pub act_of_ask : Node → (asker start : ℕ) → Act
act_of_ask n asker start = act_of_ask_as n.volatile.role n asker start
