-- What the bytes of a file are as a journal: a header, open groups one behind the other, and then a closed gate.
use Rattle.std.specs.Prelude.{◌≡◌, ◌≢◌, ◌⊎◌, ℕ, ◌+◌, ◌*◌, ◌<◌, ◌≤◌, List, [], ◌∷◌, ◌++◌, length, take, replicate, get_or}
use Rattle.std.specs.Int.{w64, to_be_bytes}
use Rattle.craft_base.specs.Shape.{Shape}
use Rattle.craft_edge.specs.Disk.{max_len}
use Rattle.synced_log.specs.declared.fault.OpenFault.{OpenFault}
use Rattle.synced_log.specs.declared.fault.OpenFault.TheVariants.{DiskFault, BadJournal, WrongOwner, OutOfMemory}
use Rattle.synced_log.specs.declared.owner.Owner.{Owner}
use Rattle.entry_frames.specs.Bodies.{HaveSpellings}
use Rattle.entry_frames.specs.Durable.{Durable, born, after, CanApplyAll}
use Rattle.entry_frames.specs.Records.{Record, record_spellings}

-- ---- the header

-- whose journal it is: a member of a cluster of 3 to 15, the cluster of that many failures and that k
pub record IsOwner (o : Owner) : Type 0 where
  pub least : 1 ≤ o.f
  pub most : o.f ≤ 7
  pub k : 1 ≤ o.k
  pub needs : o.k ≤ o.f + 1
  pub member : o.me < 2 * o.f + 1

abbrev pub shape_of : Owner → Shape
shape_of o = record { faults = o.f; need = o.k }

-- the owner that a member of a cluster is
abbrev pub owned : Shape → ℕ → Owner
owned shape me = record { f = shape.faults; k = shape.need; me = me }

-- the 32 bytes: CRAFTLOG, version 1, the owner, zeros
abbrev pub header : Owner → List ℕ
header o = 67 ∷ 82 ∷ 65 ∷ 70 ∷ 84 ∷ 76 ∷ 79 ∷ 71 ∷ 1 ∷ o.f ∷ o.k ∷ o.me ∷ replicate 20 0

-- ---- groups

-- the bytes of an open group
abbrev pub open_group : List ℕ → List ℕ
open_group body = 1 ∷ to_be_bytes w64 (length body) ++ body

-- a group's records: there is one, each has a spelling, and they can be applied in order
pub record IsGroupOf (shape : Shape) (d : Durable) (records : List Record) : Type 0 where
  pub some : records ≢ []
  pub spelled : HaveSpellings shape.need records
  pub applies : CanApplyAll shape d records

-- groups, each of which can be applied to what those before it leave
abbrev pub AreGroups : Shape → Durable → List (List Record) → Type 0
AreGroups shape d [] = Unit {0}
AreGroups shape d (records ∷ groups) = IsGroupOf shape d records × AreGroups shape (after d records) groups

abbrev pub body_of : ℕ → List Record → List ℕ
body_of k records = record_spellings k records

-- their bytes, and what they leave
abbrev pub open_groups : ℕ → List (List Record) → List ℕ
open_groups k [] = []
open_groups k (records ∷ groups) = open_group (body_of k records) ++ open_groups k groups

abbrev pub after_groups : Durable → List (List Record) → Durable
after_groups d [] = d
after_groups d (records ∷ groups) = after_groups (after d records) groups

-- the offset of a gate, and the body behind it
pub record Placed : Type 0 where
  pub gate : ℕ
  pub body : List ℕ

-- the groups with their offsets, the first at `at`
abbrev pub placed_from : ℕ → ℕ → List (List Record) → List Placed
placed_from k at [] = []
placed_from k at (records ∷ groups) =
    record { gate = at; body = body_of k records } ∷ placed_from k (at + (9 + length (body_of k records))) groups

-- ---- a journal

-- a gate that isn't open, whatever is behind it
pub record EndsThere (bytes : List ℕ) : Type 0 where
  pub gate : ℕ
  pub rest : List ℕ
  pub is : bytes ≡ gate ∷ rest
  pub closed : gate ≢ 1

-- the front of a file up to the gate behind these groups
abbrev pub front_of : Owner → List (List Record) → List ℕ
front_of o groups = header o ++ open_groups o.k groups

-- the file is the journal of this owner with these groups
pub record IsJournal (bytes : List ℕ) (o : Owner) (groups : List (List Record)) : Type 0 where
  pub owner : IsOwner o
  pub groups_are : AreGroups (shape_of o) born groups
  pub rest : List ℕ
  pub is : bytes ≡ front_of o groups ++ rest
  pub ends : EndsThere rest

-- the offset of the closed gate
abbrev pub closed_gate : Owner → List (List Record) → ℕ
closed_gate o groups = length (front_of o groups)

-- the same, with the offset of the closed gate
pub record IsJournalTo (bytes : List ℕ) (gate : ℕ) (o : Owner) (groups : List (List Record)) : Type 0 where
  pub journal : IsJournal bytes o groups
  pub gate_is : gate ≡ closed_gate o groups

-- the body of a group whose records can be applied to the state that the journal opens to
pub record CanAppend (bytes : List ℕ) (gate : ℕ) (body : List ℕ) : Type 0 where
  pub owner : Owner
  pub groups : List (List Record)
  pub journal : IsJournalTo bytes gate owner groups
  pub records : List Record
  pub body_is : body ≡ body_of owner.k records
  pub can : IsGroupOf (shape_of owner) (after_groups born groups) records

-- the file is the journal with that body's group behind those of the file before
abbrev pub HasNext : List ℕ → ℕ → List ℕ → List ℕ → ℕ → Type 0
HasNext before gate body bytes next_gate =
    (o : Owner) (groups : List (List Record)) (records : List Record) → IsJournalTo before gate o groups → body ≡ body_of o.k records → IsGroupOf (shape_of o) (after_groups born groups) records
    → IsJournalTo bytes next_gate o (groups ++ records ∷ [])

-- the file is the journal with the groups of the file before, its closed gate where it was
abbrev pub HasSame : List ℕ → ℕ → List ℕ → Type 0
HasSame before gate bytes = (o : Owner) (groups : List (List Record)) → IsJournalTo before gate o groups → IsJournalTo bytes gate o groups

-- the file opens with the groups of the file before, with or without that body's group behind them
abbrev pub HasOrLacksNext : List ℕ → ℕ → List ℕ → List ℕ → Type 0
HasOrLacksNext before gate body bytes =
    (o : Owner) (groups : List (List Record)) (records : List Record) → IsJournalTo before gate o groups → body ≡ body_of o.k records → IsGroupOf (shape_of o) (after_groups born groups) records
    → IsJournal bytes o groups ⊎ IsJournal bytes o (groups ++ records ∷ [])

-- what a Groups keeps: the spans of groups whose records can be applied, all in order, from the state before any record on
pub record Kept : Type 0 where
  pub shape : Shape
  pub placed : List Placed

pub record AreKept (kept : Kept) : Type 0 where
  pub groups : List (List Record)
  pub placed_are : kept.placed ≡ placed_from kept.shape.need 32 groups
  pub groups_are : AreGroups kept.shape born groups

-- ---- a file that never became one

-- fewer than 33 bytes, or 33 of which the first isn't that of a header
abbrev pub IsUnborn : List ℕ → Type 0
IsUnborn bytes = (length bytes < 33) ⊎ ((length bytes ≡ 33) × (get_or bytes 0 0 ≢ 67))

-- ---- faults, in the order of the bytes

-- the first 32 bytes are the header of some owner
pub record HasHeader (bytes : List ℕ) (o : Owner) : Type 0 where
  pub owner : IsOwner o
  pub is : take 32 bytes ≡ header o

abbrev pub NoHeader : List ℕ → Type 0
NoHeader bytes = (o : Owner) → ¬ HasHeader bytes o

-- behind an open gate stands a group whose records can be applied, and then the rest
pub record StandsBehind (shape : Shape) (d : Durable) (bytes : List ℕ) (records : List Record) (rest : List ℕ) : Type 0 where
  pub is : bytes ≡ to_be_bytes w64 (length (body_of shape.need records)) ++ (body_of shape.need records ++ rest)
  pub can : IsGroupOf shape d records

-- no gate, or an open one behind which no group stands
abbrev pub IsNoGate : Shape → Durable → List ℕ → Type 0
IsNoGate shape d [] = Unit {0}
IsNoGate shape d (gate ∷ bytes) = (gate ≡ 1) × ((records : List Record) (rest : List ℕ) → ¬ StandsBehind shape d bytes records rest)

-- the header is the owner's, and behind these groups the first fault stands
pub record IsFaulty (bytes : List ℕ) (o : Owner) (groups : List (List Record)) : Type 0 where
  pub groups_are : AreGroups (shape_of o) born groups
  pub rest : List ℕ
  pub is : bytes ≡ front_of o groups ++ rest
  pub fault : IsNoGate (shape_of o) (after_groups born groups) rest

-- a file that is read at all
abbrev pub IsBorn : List ℕ → Type 0
IsBorn bytes = ¬ IsUnborn bytes

-- the journal is bad at that offset
abbrev pub BadAt : List ℕ → Owner → ℕ → Type 0
BadAt bytes wanted offset =
    ((offset ≡ 0) × NoHeader bytes)
    ⊎ ((groups : List (List Record)) × IsFaulty bytes wanted groups × (offset ≡ closed_gate wanted groups))

-- the journal is another's
pub record IsAnothers (bytes : List ℕ) (found wanted : Owner) : Type 0 where
  pub has : HasHeader bytes found
  pub other : found ≢ wanted

-- ---- what `open` answers, and what a crash leaves of it

-- the fault that a file has, the owner being the wanted one; want of memory and faults of the disk aside
abbrev pub IsFaultOf : List ℕ → Owner → OpenFault → Type 0
IsFaultOf bytes wanted DiskFault = Unit {0}
IsFaultOf bytes wanted (BadJournal offset) = IsBorn bytes × BadAt bytes wanted offset
IsFaultOf bytes wanted (WrongOwner found other) = IsBorn bytes × IsAnothers bytes found wanted × (other ≡ wanted)
IsFaultOf bytes wanted OutOfMemory = Unit {0}

-- a file was read: these are its groups
pub record Reads (bytes : List ℕ) (wanted : Owner) (gate : ℕ) (kept : Kept) : Type 0 where
  pub groups : List (List Record)
  pub journal : IsJournalTo bytes gate wanted groups
  pub kept_is : kept ≡ record { shape = shape_of wanted; placed = placed_from wanted.k 32 groups }

-- a file was opened: its groups stand in it, and it is as it was; one that was never born is now a header and a closed gate
pub record IsOpened (old new : List ℕ) (wanted : Owner) (gate : ℕ) (kept : Kept) : Type 0 where
  pub groups : List (List Record)
  pub journal : IsJournalTo new gate wanted groups
  pub kept_is : kept ≡ record { shape = shape_of wanted; placed = placed_from wanted.k 32 groups }
  pub room : length old ≤ max_len
  pub from : (IsUnborn old × (new ≡ header wanted ++ 0 ∷ []) × (groups ≡ [])) ⊎ (IsBorn old × (new ≡ old))

-- the file as it was, or where it was never born a file that isn't born yet or has no groups
abbrev pub StaysAs : Owner → List ℕ → List ℕ → Type 0
StaysAs wanted old image = (image ≡ old) ⊎ (IsUnborn old × (IsUnborn image ⊎ IsJournal image wanted []))
