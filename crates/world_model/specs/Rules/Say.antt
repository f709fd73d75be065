-- What a leader sends to a member: a stretch of its log, from where the member is known to lack something. While enough members
-- are healthy, a value goes as the member's fragment of it, and else whole.
use Rattle.std.specs.Prelude.{ℕ, ◌-◌, List, [], ◌∷◌, map}
use Rattle.coded_append.specs.Batches.{coded_batch, whole_batch}
use Rattle.coded_append.specs.Modes.{mode_of}
use Rattle.coded_append.specs.Starts.{start_for}
use Rattle.coded_append.specs.declared.modes.Mode.{Mode}
use Rattle.coded_append.specs.declared.modes.Mode.TheVariants as modes
use Rattle.craft_base.specs.Knowledge.{fresh}
use Rattle.craft_base.specs.declared.command.Entry.{Entry}
use Rattle.entry_frames.specs.Logs.{term_at}
use Rattle.entry_frames.specs.declared.message.Message.{Message}
use Rattle.entry_frames.specs.declared.peer.Peer.{Peer}
use Rattle.entry_frames.specs.declared.peer.Peer.TheVariants as peers
use Rattle.world_model.specs.Nodes.{Node}
use Rattle.world_model.specs.Rules.Acts.{Act, message_of, others, sending, stays}

-- by how many members are healthy
abbrev pub mode_of_leader : Node → Mode
mode_of_leader n = mode_of n.shape (fresh n.shape n.volatile.heard)

-- the index from which on the member is sent entries
abbrev pub start_of : Node → ℕ → ℕ
start_of n member = start_for (mode_of_leader n) member n.durable.commit n.durable.log n.volatile.heard n.volatile.first

abbrev pub batch_in : Mode → (need member : ℕ) → List Entry → (start : ℕ) → List Entry
batch_in modes.Coded need member log start = coded_batch need member log start
batch_in modes.Complete need member log start = whole_batch need log start

-- the entries that the member is sent, from an index of the log on
abbrev pub batch_for : Node → (member start : ℕ) → List Entry
batch_for n member start = batch_in (mode_of_leader n) n.shape.need member n.durable.log start

abbrev pub append_from : Node → (member start : ℕ) → Peer
append_from n member start =
    peers.Append (start - 1) (term_at n.durable.log (start - 1)) n.durable.commit (batch_for n member start)

abbrev pub append_to : Node → ℕ → Message
append_to n member = message_of n (append_from n member (start_of n member)) member

-- to each other member, in order
abbrev pub appends_to_others : Node → List Message
appends_to_others n = map (append_to n) (others n)

abbrev pub act_of_saying : Node → Act
act_of_saying n = sending (appends_to_others n) (stays n)

-- only where there is an entry to send
abbrev pub append_with : Node → ℕ → List Entry → List Message
append_with n member [] = []
append_with n member (entry ∷ entries) = append_to n member ∷ []

abbrev pub append_if_any : Node → ℕ → List Message
append_if_any n member = append_with n member (batch_for n member (start_of n member))
