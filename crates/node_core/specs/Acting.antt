-- What a member does in the middle of a turn.
use Rattle.std.specs.Prelude.{◌≡◌, ℕ, ◌+◌, ◌≤◌, List, [], ◌∷◌, ◌++◌, length, Bool, true, false, ◌&&◌, Option, Some}
use Rattle.entry_frames.specs.Durable.{CanApplyAll}
use Rattle.entry_frames.specs.Durable as durable
use Rattle.entry_frames.specs.Bodies.{HaveSpellings}
use Rattle.entry_frames.specs.MessageParts.{term_of}
use Rattle.entry_frames.specs.Records.{Record, Term, Cut, Whole, Commit, record_spellings}
use Rattle.entry_frames.specs.declared.role.Role.{Role}
use Rattle.entry_frames.specs.declared.role.Role.TheVariants.{Leader, Preparing}
use Rattle.gather_read.specs.declared.gather.Gather.{Gather}
use Rattle.kv_apply.specs.Services as services
use Rattle.peer_frames.specs.FrameViews.{ViewedFrame}
use Rattle.world_model.specs.Nodes.{Node}
use Rattle.world_model.specs.Ranges.{HasSpelling, NodeInRange}
use Rattle.world_model.specs.Rules.Acts as acts
use Rattle.world_model.specs.Rules.Call.{applied_heads}
use Rattle.world_model.specs.Rules.Say.{start_of}
use Rattle.node_core.specs.declared.act.Act.{Act}
use Rattle.node_core.specs.declared.member.Member.{Member}
use Rattle.node_core.specs.Stands.{Kept, Stands}

-- ---- the member

-- what is kept of it
abbrev pub kept_of : Member → Kept
kept_of m =
    record {
      shape = m.shape;
      me = m.me;
      durable = m.store.kept;
      role = m.role;
      quiet = m.quiet;
      hint = m.hint;
      heard = m.heard;
      prep = m.prep;
      gather = m.gather;
      calls = m.calls.items;
      reads = m.reads.items;
    }

-- it stands for the node, and so does its store; and its map is that of the commands of the log up to the commit index
pub record IsNode (m : Member) (n : Node) : Type 0 where
  pub stands : Stands (kept_of m) n
  pub of_store : m.store.shape ≡ n.shape
  pub of_service : services.Stands m.service (applied_heads n)

-- there is a node for which it stands, whose numbers are in range
pub record IsRangedMember (m : Member) : Type 0 where
  pub node : Node
  pub is : IsNode m node
  pub ranged : NodeInRange node.shape node.me node

-- from where on it sends to each member lies in its log, or just behind it
abbrev pub StartsInRange : Node → Type 0
StartsInRange n = (member : ℕ) → (1 ≤ start_of n member) × (start_of n member ≤ length n.durable.log + 1)

-- there is a node for which it stands, and from where on that sends lies in its log
pub record MaySay (m : Member) : Type 0 where
  pub node : Node
  pub is : IsNode m node
  pub starts : StartsInRange node

-- a message of its cluster, in its term
pub record IsCurrent (m : Member) (view : ViewedFrame) : Type 0 where
  pub of_shape : view.shape ≡ m.store.shape
  pub spelled : HasSpelling m.store.shape view.frame
  pub term : term_of view.frame ≡ m.store.kept.term

-- What outlives a crash stays, and whatever node the member stood for, it now stands for the one that the change makes of it.
pub record Becomes (change : Node → Node) (old new : Member) : Type 0 where
  pub store : new.store ≡ old.store
  pub node : (n : Node) → IsNode old n → IsNode new (change n)

abbrev pub is_preparing : Role → Bool
is_preparing Preparing = true
is_preparing _ = false

-- it doesn't prepare: what it was shown is of no log
abbrev pub IsFree : Member → Type 0
IsFree m = is_preparing m.role ≡ false

-- whether a leader keeps what it was shown of a value that it wants
abbrev pub is_gathering : Role → Option Gather → Bool
is_gathering Leader (Some gather) = true
is_gathering _ _ = false

-- it doesn't: what it was shown is of no entry
abbrev pub IsIdle : Member → Type 0
IsIdle m = is_gathering m.role m.gather ≡ false

-- these records have spellings, and can be applied in order
pub record MayRecord (m : Member) (records : List Record) : Type 0 where
  pub apply : CanApplyAll m.store.shape m.store.kept records
  pub written : HaveSpellings m.store.shape.need records

-- ---- what it did

-- whether a record moves the commit index
abbrev pub is_commit : Record → Bool
is_commit (Commit index) = true
is_commit _ = false

-- whether a record changes the log, or up to where it is committed
abbrev pub is_of_log : Record → Bool
is_of_log (Term term vote) = false
is_of_log _ = true

-- who prepares decides by its log: only another changes it
abbrev pub MayChange : Member → Record → Type 0
MayChange m r = (is_of_log r && is_preparing m.role) ≡ false

-- whether a record changes entries that a log has
abbrev pub is_of_entries : Record → Bool
is_of_entries (Cut index) = true
is_of_entries (Whole index bytes) = true
is_of_entries _ = false

-- who wants a value knows by its own entry what counts: only another changes entries
abbrev pub MayEdit : Member → Record → Type 0
MayEdit m r = (is_of_entries r && is_gathering m.role m.gather) ≡ false

-- from which indexes on records remove entries
abbrev pub cut_indexes : List Record → List ℕ
cut_indexes [] = []
cut_indexes (Cut index ∷ records) = index ∷ cut_indexes records
cut_indexes (_ ∷ records) = cut_indexes records

-- at which indexes they give a value
abbrev pub whole_indexes : List Record → List ℕ
whole_indexes [] = []
whole_indexes (Whole index bytes ∷ records) = index ∷ whole_indexes records
whole_indexes (_ ∷ records) = whole_indexes records

-- that record was put into the group, and what is told of it was noted; the store is as it leaves it, and all else is as before
pub record IsMade (r : Record) (before after : Act) : Type 0 where
  pub member : after.member ≡ record before.member { store = after.member.store }
  pub shape : after.member.store.shape ≡ before.member.store.shape
  pub kept : after.member.store.kept ≡ durable.applied before.member.store.kept r
  pub group : after.group ≡ before.group ++ record_spellings before.member.store.shape.need (r ∷ [])
  pub cuts : after.cuts.items ≡ before.cuts.items ++ cut_indexes (r ∷ [])
  pub wholes : after.wholes.items ≡ before.wholes.items ++ whole_indexes (r ∷ [])
  pub told : (after.replies ≡ before.replies) × (after.sends ≡ before.sends)

-- the member stands for a rule's node, and the rule's records, which could be made, its replies and its messages were added
pub record IsActed (act : acts.Act) (before after : Act) : Type 0 where
  pub node : IsNode after.member act.node
  pub same : after.member.store.shape ≡ before.member.store.shape
  pub may : MayRecord before.member act.records
  pub kept : after.member.store.kept ≡ durable.after before.member.store.kept act.records
  pub records : after.group ≡ before.group ++ record_spellings before.member.store.shape.need act.records
  pub cuts : after.cuts.items ≡ before.cuts.items ++ cut_indexes act.records
  pub wholes : after.wholes.items ≡ before.wholes.items ++ whole_indexes act.records
  pub replies : after.replies.items ≡ before.replies.items ++ act.replies
  pub sends : after.sends.items ≡ before.sends.items ++ act.sends

-- Whatever node the member stood for, the rule was carried out.
abbrev pub Acts : (Node → acts.Act) → Act → Act → Type 0
Acts rule before after = (n : Node) → IsNode before.member n → IsActed (rule n) before after

-- these records were made and carried out, in order, in the same role and with the same want
pub record Recorded (records : List Record) (before after : Act) : Type 0 where
  pub acts : Acts (λ n. acts.recording_all records (acts.stays n)) before after
  pub kept : after.member.store.kept ≡ durable.after before.member.store.kept records
  pub shape : after.member.store.shape ≡ before.member.store.shape
  pub role : after.member.role ≡ before.member.role
  pub gather : after.member.gather ≡ before.member.gather
