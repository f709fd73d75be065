-- A journal that is open.
use Rattle.std.specs.Prelude.{ℕ, ◌+◌, ◌≤◌, Bool, List, [], ◌∷◌, Option, None, Some, ⊤}
use Rattle.craft_edge.specs.Disk.{WhereTold, OnlySeen, max_len}
use Rattle.craft_edge.specs.DiskCalls.{DiskWork, WriteAt, Sync}
use Rattle.entry_frames.specs.Records.{group_bytes}
use Rattle.synced_log.specs.declared.fault.OpenFault.{OpenFault}
use Rattle.synced_log.specs.declared.owner.Owner.{Owner}
use Rattle.synced_log.specs.Journal.{Kept, IsFaultOf, IsOpened, StaysAs, CanAppend, HasNext, HasOrLacksNext}

-- what contracts see of it: its disk, and the offset of the closed gate
pub record Standing (D : Type 0) : Type 0 where
  pub disk : D
  pub gate : ℕ

-- all that a crash leaves is what a read gives, and the gate is within reach
pub record IsSettled (tells_crash : Bool) (seen : Option (List ℕ)) (may_leave : List ℕ → Type 0) (gate : ℕ) : Type 0 where
  pub durable : WhereTold tells_crash (OnlySeen seen may_leave)
  pub reach : gate ≤ max_len

-- the four calls that add a group with that body: it and the next gate, closed, are written and synced, and then the gate is
-- opened and synced
abbrev pub append_calls : ℕ → List ℕ → List DiskWork
append_calls gate body = WriteAt (gate + 1) (group_bytes body) ∷ Sync ∷ WriteAt gate (1 ∷ []) ∷ Sync ∷ []

-- ---- where the disk tells what a read gives

-- the file can take a group with that body
abbrev pub CanAppendTo : Option (List ℕ) → ℕ → List ℕ → Type 0
CanAppendTo None gate body = ⊤
CanAppendTo (Some file) gate body = CanAppend file gate body

-- it was added
abbrev pub Added : Option (List ℕ) → Option (List ℕ) → ℕ → List ℕ → ℕ → Type 0
Added None new gate body next_gate = ⊤
Added (Some old) None gate body next_gate = ⊥
Added (Some old) (Some new) gate body next_gate = HasNext old gate body new next_gate

-- the image opens with the groups before, with or without it
abbrev pub AddedOrNot : Option (List ℕ) → ℕ → List ℕ → List ℕ → Type 0
AddedOrNot None gate body image = ⊤
AddedOrNot (Some old) gate body image = HasOrLacksNext old gate body image

-- the file was opened
abbrev pub Opens : Option (List ℕ) → Option (List ℕ) → Owner → ℕ → Kept → Type 0
Opens None new wanted gate kept = ⊤
Opens (Some old) None wanted gate kept = ⊥
Opens (Some old) (Some new) wanted gate kept = IsOpened old new wanted gate kept

-- the image is the file as it was, or where that was never born one without groups
abbrev pub Stays : Owner → Option (List ℕ) → List ℕ → Type 0
Stays wanted None image = ⊤
Stays wanted (Some old) image = StaysAs wanted old image

-- the fault is the file's
abbrev pub FaultsAs : Option (List ℕ) → Owner → OpenFault → Type 0
FaultsAs None wanted fault = ⊤
FaultsAs (Some old) wanted fault = IsFaultOf old wanted fault
