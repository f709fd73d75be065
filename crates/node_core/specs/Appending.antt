-- A message with the entries of a leader, as a member takes it.
use Rattle.std.specs.Prelude.{◌≡◌, ℕ, ◌+◌, ◌≤◌, ◌<◌, true, false, List, Option, drop, length, map}
use Rattle.entry_frames.specs.Kinds.{kind_of}
use Rattle.entry_frames.specs.Limits.{most_entries}
use Rattle.entry_frames.specs.MessageParts.{body_of, commit_of, entries_of, prev_of, prev_term_of, sender_byte}
use Rattle.entry_frames.specs.Records.{Record, Add, Whole}
use Rattle.entry_frames.specs.declared.kind.Kind.TheVariants as kinds
use Rattle.entry_frames.specs.declared.kind.PeerKind.TheVariants as peer_kinds
use Rattle.entry_frames.specs.declared.message.Message.{Message}
use Rattle.entry_frames.specs.declared.peer.Peer.{Peer}
use Rattle.entry_frames.specs.declared.peer.Peer.TheVariants.{Matched}
use Rattle.entry_frames.specs.Durable as durable
use Rattle.full_append.specs.Plans.{AreItsRecords, IsPlan, planned_records, value_at}
use Rattle.full_append.specs.declared.plan.Plan.{Plan}
use Rattle.log_store.specs.Stores.{shown}
use Rattle.peer_frames.specs.FrameViews.{ViewedFrame}
use Rattle.world_model.specs.Nodes.{Node}
use Rattle.world_model.specs.Rules.Acts.{Act}
use Rattle.world_model.specs.Rules.Append.{act_of_append, act_of_following, act_of_heard_append, difference, has_before, is_clash, taken_records}
use Rattle.node_core.specs.declared.member.Member.{Member}
use Rattle.node_core.specs.Acting.{IsCurrent, MayRecord}

-- it is one of the member's cluster, and in its term
pub record IsAppend (m : Member) (view : ViewedFrame) : Type 0 where
  pub kind : kind_of view.frame ≡ kinds.Peer peer_kinds.Append
  pub current : IsCurrent m view

-- ---- what the rule makes of it

abbrev pub append_act : Message → Node → Act
append_act m n = act_of_append n (sender_byte m) (prev_of (body_of m)) (prev_term_of (body_of m)) (commit_of (body_of m)) (entries_of (body_of m))

abbrev pub following_act : Message → Node → Act
following_act m = act_of_following (sender_byte m) (prev_of (body_of m)) (prev_term_of (body_of m)) (commit_of (body_of m)) (entries_of (body_of m))

abbrev pub heard_act : Message → Node → Act
heard_act m = act_of_heard_append (sender_byte m) (prev_of (body_of m)) (prev_term_of (body_of m)) (commit_of (body_of m)) (entries_of (body_of m))

-- how far it says that the log is the leader's
abbrev pub match_of : Message → (mask : ℕ) → Peer
match_of m mask = Matched (prev_of (body_of m)) (length (entries_of (body_of m))) mask

-- ---- what is planned for it

abbrev pub IsPlanFor : Member → Message → Plan → Type 0
IsPlanFor member m =
    IsPlan (shown member.store.shape member.store.kept) (prev_of (body_of m)) (prev_term_of (body_of m)) (commit_of (body_of m)) (entries_of (body_of m))

abbrev pub HasRecordsFor : Member → Message → Plan → Type 0
HasRecordsFor member m = AreItsRecords (prev_of (body_of m)) member.store.kept.log (entries_of (body_of m))

abbrev pub records_planned : Message → (cut : Option ℕ) → (wholes : List ℕ) → (first_new : ℕ) → List Record
records_planned m = planned_records (prev_of (body_of m)) (entries_of (body_of m))

-- those of its entries from that number on
abbrev pub records_added : Message → (first_new : ℕ) → List Record
records_added m first_new = map Add (drop first_new (entries_of (body_of m)))

-- ---- when it may be taken

-- an index at which the message has an entry
abbrev pub IsPlaceOf : Message → ℕ → Type 0
IsPlaceOf m index = (prev_of (body_of m) < index) × (index ≤ prev_of (body_of m) + most_entries)

-- the entry there becomes whole by the message
abbrev pub value_record : Message → ℕ → Record
value_record m index = Whole index (value_at (prev_of (body_of m)) (entries_of (body_of m)) index)

-- the message suits the log: that has the entry before, and no other term than the message at an index that is committed
pub record IsSuited (d : durable.Durable) (frame : Message) : Type 0 where
  pub has : has_before d.log (prev_of (body_of frame)) (prev_term_of (body_of frame)) ≡ true
  pub clear : is_clash d.commit (difference (prev_of (body_of frame)) d.log (entries_of (body_of frame))) ≡ false

-- the state after its records
abbrev pub state_after : durable.Durable → Message → durable.Durable
state_after d frame = durable.after d (taken_records (prev_of (body_of frame)) d.log (entries_of (body_of frame)))

-- where it suits the log, its records can be made, and then the log reaches as far as the message, and isn't committed past its end
pub record MayTake (m : Member) (frame : Message) : Type 0 where
  pub records : IsSuited m.store.kept frame → MayRecord m (taken_records (prev_of (body_of frame)) m.store.kept.log (entries_of (body_of frame)))
  pub reaches : IsSuited m.store.kept frame → prev_of (body_of frame) + length (entries_of (body_of frame)) ≤ length (state_after m.store.kept frame).log
  pub commits : IsSuited m.store.kept frame → m.store.kept.commit ≤ length (state_after m.store.kept frame).log
