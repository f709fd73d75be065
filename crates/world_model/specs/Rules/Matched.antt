-- Matched and Refused: a leader hears how far a member's log is its own, commits what enough members hold, and sends what is next.
use Rattle.std.specs.Prelude.{ℕ, [], ◌∷◌}
use Rattle.craft_base.specs.Knowledge.{Heard, Told, From, Matched, Refused}
use Rattle.entry_frames.specs.Logs.{last_index}
use Rattle.entry_frames.specs.declared.role.Role.{Role}
use Rattle.entry_frames.specs.declared.role.Role.TheVariants.{Leader}
use Rattle.world_model.specs.Nodes.{Node, node_hearing}
use Rattle.world_model.specs.Quorums.{new_commit}
use Rattle.world_model.specs.Rules.Acts.{Act, stays, sending, followed_by}
use Rattle.world_model.specs.Rules.Applying.{act_of_commit}
use Rattle.world_model.specs.Rules.Say.{append_if_any, append_to}

-- what a member says of its log, as it is heard: with the last index of the node's own
abbrev pub log_heard : Node → ℕ → Told → Heard
log_heard n sender told = From sender (last_index n.durable.log) told

-- up to where the node may commit as the leader of its term
abbrev pub commit_of_leader : Node → ℕ
commit_of_leader n = new_commit n.shape n.me n.durable.term n.durable.commit n.durable.log n.volatile.heard

abbrev pub act_of_next : ℕ → Node → Act
act_of_next member n = sending (append_if_any n member) (stays n)

-- what was heard is counted, and the member is sent what it lacks
abbrev pub act_of_progress : ℕ → Node → Act
act_of_progress member n = followed_by (act_of_commit (commit_of_leader n) n) (act_of_next member)

abbrev pub act_of_matched_as : Role → Node → (sender prev count mask : ℕ) → Act
act_of_matched_as Leader n sender prev count mask = act_of_progress sender (node_hearing (log_heard n sender (Matched prev count mask)) n)
act_of_matched_as _ n sender prev count mask = stays n

abbrev pub act_of_matched : Node → (sender prev count mask : ℕ) → Act
act_of_matched n sender prev count mask = act_of_matched_as n.volatile.role n sender prev count mask

-- it is sent from where it says that its log may be the leader's
abbrev pub act_of_retry : ℕ → Node → Act
act_of_retry member n = sending (append_to n member ∷ []) (stays n)

abbrev pub act_of_refused_as : Role → Node → (sender next : ℕ) → Act
act_of_refused_as Leader n sender next = act_of_retry sender (node_hearing (log_heard n sender (Refused next)) n)
act_of_refused_as _ n sender next = stays n

abbrev pub act_of_refused : Node → (sender next : ℕ) → Act
act_of_refused n sender next = act_of_refused_as n.volatile.role n sender next
