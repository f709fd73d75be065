-- Append: a member makes its log the leader's, as far as the message tells it.
use Rattle.std.specs.Prelude.{ℕ, suc, ◌+◌, ◌*◌, min, List, [], ◌∷◌, ◌++◌, length, take, drop, map, Bool, false, ◌&&◌, ◌==◌, if◌then◌else◌, nat_le, Option, None, Some}
use Rattle.std.specs.Option.{option_to_list}
use Rattle.craft_base.specs.declared.command.Entry.{Entry}
use Rattle.craft_base.specs.declared.command.Form.{Form}
use Rattle.craft_base.specs.declared.command.Form.TheVariants as forms
use Rattle.entry_frames.specs.Logs.{term_at}
use Rattle.entry_frames.specs.Records.{Record, Add, Cut, Whole}
use Rattle.entry_frames.specs.declared.peer.Peer.TheVariants as peers
use Rattle.entry_frames.specs.declared.role.Role.{Role}
use Rattle.entry_frames.specs.declared.role.Role.TheVariants.{Follower, Candidate, Preparing, Leader}
use Rattle.leader_prep.specs.Verdicts.{is_same_head}
use Rattle.world_model.specs.Nodes.{Node, Volatile}
use Rattle.world_model.specs.Quorums.{is_whole}
use Rattle.world_model.specs.Rules.Acts.{Act, stays, recording_all, sending, followed_by, message_of}
use Rattle.world_model.specs.Rules.Applying.{act_of_commit}
use Rattle.world_model.specs.Rules.Terms.{refusal}

-- ---- the log and the message

-- whether the log has the entry behind which those of the message stand: there is none at index 0
abbrev pub has_before : List Entry → (prev prev_term : ℕ) → Bool
has_before log prev prev_term = nat_le prev (length log) && (term_at log prev == prev_term)

-- how many of the entries the log has there: as many as have the same terms, in order
abbrev pub common : List Entry → List Entry → ℕ
common (own ∷ log) (entry ∷ entries) = if own.term == entry.term then suc (common log entries) else 0
common _ _ = 0

-- the index of the first entry, where both are left there and so differ
abbrev pub difference_at : ℕ → List Entry → List Entry → Option ℕ
difference_at index (own ∷ log) (entry ∷ entries) = Some index
difference_at index _ _ = None

-- the least index at which the log has another term than the message
abbrev pub difference : (prev : ℕ) → List Entry → List Entry → Option ℕ
difference prev log entries =
    let same = common (drop prev log) entries in
    difference_at (prev + 1 + same) (drop (prev + same) log) (drop same entries)

-- whether that is at or below the commit index, which no message of a leader is
abbrev pub is_clash : (commit : ℕ) → Option ℕ → Bool
is_clash commit None = false
is_clash commit (Some index) = nat_le index commit

-- ---- whole values in place of parts

abbrev pub completion_of : ℕ → Form → Form → List Record
completion_of index (forms.Part bytes) (forms.Whole value) = Whole index value ∷ []
completion_of index _ _ = []

-- a part that the log holds becomes whole where the message has the value
abbrev pub completion : ℕ → Entry → Entry → List Record
completion index own entry = if is_same_head own.head entry.head then completion_of index own.form entry.form else []

-- those of two lists side by side, the first of which have that index
abbrev pub completions : ℕ → List Entry → List Entry → List Record
completions index (own ∷ log) (entry ∷ entries) = completion index own entry ++ completions (index + 1) log entries
completions index _ _ = []

-- ---- what the log becomes

-- The entries that the log has stay, and may become whole. At the first that differs the log is cut. Those that it lacks are added.
abbrev pub taken_records : (prev : ℕ) → List Entry → List Entry → List Record
taken_records prev log entries =
    let same = common (drop prev log) entries in
    completions (prev + 1) (take same (drop prev log)) (take same entries)
    ++ (map Cut (option_to_list (difference prev log entries)) ++ map Add (drop same entries))

-- which of these entries are whole, a bit for each, that of the first the lowest
abbrev pub mask_of : List Entry → ℕ
mask_of [] = 0
mask_of (entry ∷ entries) = (if is_whole entry.form then 1 else 0) + 2 * mask_of entries

-- ---- the rule

-- a follower of the leader that it heard
abbrev pub following : ℕ → Node → Volatile
following leader n = record n.volatile { role = Follower; hint = Some leader; quiet = 0 }

abbrev pub act_of_entries : (prev : ℕ) → List Entry → Node → Act
act_of_entries prev entries n = recording_all (taken_records prev n.durable.log entries) (stays n)

-- what it says of its log: up to where it is the leader's, and what of it is whole
abbrev pub act_of_match : (leader prev count : ℕ) → Node → Act
act_of_match leader prev count n =
    sending (message_of n (peers.Matched prev count (mask_of (take count (drop prev n.durable.log)))) leader ∷ []) (stays n)

-- the entries are taken, the commit index of the leader as far as they go, and the leader is told
abbrev pub act_of_taking : (leader prev commit : ℕ) → List Entry → Node → Act
act_of_taking leader prev commit entries n =
    followed_by (act_of_entries prev entries n) λ taken.
    followed_by (act_of_commit (min commit (prev + length entries)) taken) (act_of_match leader prev (length entries))

-- a message that clashes is passed over
abbrev pub act_of_suited : (leader prev commit : ℕ) → List Entry → Node → Act
act_of_suited leader prev commit entries n =
    if is_clash n.durable.commit (difference prev n.durable.log entries) then stays n else act_of_taking leader prev commit entries n

abbrev pub act_of_refusal : ℕ → Node → Act
act_of_refusal leader n = sending (message_of n (refusal n) leader ∷ []) (stays n)

abbrev pub act_of_heard_append : (leader prev prev_term commit : ℕ) → List Entry → Node → Act
act_of_heard_append leader prev prev_term commit entries n =
    if has_before n.durable.log prev prev_term then act_of_suited leader prev commit entries n else act_of_refusal leader n

-- the leader of its term is heard
abbrev pub act_of_following : (leader prev prev_term commit : ℕ) → List Entry → Node → Act
act_of_following leader prev prev_term commit entries n =
    act_of_heard_append leader prev prev_term commit entries (record n { volatile = following leader n })

abbrev pub act_of_append_as : Role → Node → (leader prev prev_term commit : ℕ) → List Entry → Act
act_of_append_as Follower n leader prev prev_term commit entries = act_of_following leader prev prev_term commit entries n
act_of_append_as Candidate n leader prev prev_term commit entries = act_of_following leader prev prev_term commit entries n
-- a node that has won takes none
act_of_append_as Preparing n leader prev prev_term commit entries = stays n
act_of_append_as Leader n leader prev prev_term commit entries = stays n

abbrev pub act_of_append : Node → (leader prev prev_term commit : ℕ) → List Entry → Act
act_of_append n leader prev prev_term commit entries = act_of_append_as n.volatile.role n leader prev prev_term commit entries
