-- The device calls that were made, in order, up to and with the first that failed.
use Rattle.std.specs.Prelude.{◌≡◌, ◌⊎◌, ℕ, ◌==◌, Bool, true, false, ◌&&◌, ◌||◌, if◌then◌else◌, List, [], ◌∷◌, ◌++◌, length, drop, get_or, nat_lt, Option, IfSome, Result, MatchResult, ⊤}
use Rattle.craft_edge.specs.DiskCalls.{DiskHistory, DiskWork, Len, ReadAt, WriteAt, Sync, after_call_of}
use Rattle.synced_log.specs.declared.fault.OpenFault.{OpenFault}
use Rattle.synced_log.specs.declared.fault.OpenFault.TheVariants.{DiskFault, BadJournal, WrongOwner, OutOfMemory}
use Rattle.synced_log.specs.declared.owner.Owner.{Owner}
use Rattle.synced_log.specs.Journal.{IsBorn, IsUnborn, header}

-- What a disk tells after these calls more, none of which failed. What it was made with and the stops told stay.
abbrev pub after_calls : Option DiskHistory → List DiskWork → Option DiskHistory
after_calls history [] = history
after_calls history (work ∷ works) = after_calls (after_call_of history work false) works

-- the calls up to and with the first that fails
pub record FailsIn (old new : Option DiskHistory) (works : List DiskWork) : Type 0 where
  pub made : List DiskWork
  pub failed : DiskWork
  pub left : List DiskWork
  pub are : works ≡ made ++ failed ∷ left
  pub is : new ≡ after_call_of (after_calls old made) failed true

-- just these calls were made, in order, up to and with the first that failed
abbrev pub Makes : {T E : Type 0} → Option DiskHistory → Option DiskHistory → List DiskWork → Result T E → Type 0
Makes old new works result = MatchResult result (λ _. new ≡ after_calls old works) (λ _. FailsIn old new works)

-- calls of this kind were made, and none failed
pub record AllMade (old new : Option DiskHistory) (kind : List DiskWork → Type 0) : Type 0 where
  pub works : List DiskWork
  pub are : kind works
  pub is : new ≡ after_calls old works

-- calls of this kind were made, up to and with the first that failed
pub record OneFailed (old new : Option DiskHistory) (kind : List DiskWork → Type 0) : Type 0 where
  pub works : List DiskWork
  pub are : kind works
  pub fails : FailsIn old new works

abbrev pub MakesOf : {T E : Type 0} → Option DiskHistory → Option DiskHistory → (List DiskWork → Type 0) → Result T E → Type 0
MakesOf old new kind result = MatchResult result (λ _. AllMade old new kind) (λ _. OneFailed old new kind)

-- a call of one kind failed, where the disk is the fault, else none failed of those of the other kind
abbrev pub MakesUpTo : OpenFault → Option DiskHistory → Option DiskHistory → (List DiskWork → Type 0) → (List DiskWork → Type 0) → Type 0
MakesUpTo DiskFault old new kind read = OneFailed old new kind
MakesUpTo (BadJournal offset) old new kind read = AllMade old new read
MakesUpTo (WrongOwner found wanted) old new kind read = AllMade old new read
MakesUpTo OutOfMemory old new kind read = AllMade old new read

-- the same, where a fault of the disk is one of several errors
abbrev pub MakesOrFaults : {T : Type 0} → Option DiskHistory → Option DiskHistory → (List DiskWork → Type 0) → (List DiskWork → Type 0) → Result T OpenFault → Type 0
MakesOrFaults old new kind read result = MatchResult result (λ _. AllMade old new kind) (λ fault. MakesUpTo fault old new kind read)

-- ---- reading

abbrev pub IsReading : DiskWork → Type 0
IsReading Len = ⊤
IsReading (ReadAt at len) = ⊤
IsReading (WriteAt at bytes) = ⊥
IsReading Sync = ⊥

-- calls that change nothing
abbrev pub AreReadings : List DiskWork → Type 0
AreReadings [] = ⊤
AreReadings (work ∷ works) = IsReading work × AreReadings works

-- ---- the steps of creation, each a write and a sync

-- the first byte has to be written as zero: there is none, or it is a header's in a file that is too short
abbrev pub needs_zero : List ℕ → Bool
needs_zero file = (length file == 0) || (nat_lt (length file) 33 && (get_or file 0 0 == 67))

abbrev pub blank_calls : List ℕ → List DiskWork
blank_calls file = if needs_zero file then WriteAt 0 (0 ∷ []) ∷ Sync ∷ [] else []

-- the rest of the header with a closed gate, and then the header's first byte
abbrev pub birth_calls : Owner → List DiskWork
birth_calls o = WriteAt 1 (drop 1 (header o ++ 0 ∷ [])) ∷ Sync ∷ WriteAt 0 (67 ∷ []) ∷ Sync ∷ []

abbrev pub creation_calls : List ℕ → Owner → List DiskWork
creation_calls file o = blank_calls file ++ birth_calls o

-- what follows the reading of a file: its creation, where it was never born
abbrev pub IsCreation : List ℕ → Owner → List DiskWork → Type 0
IsCreation file o works = (IsUnborn file × (works ≡ creation_calls file o)) ⊎ (IsBorn file × (works ≡ []))

-- ---- opening

-- the file is read, and created where it was never born
pub record ReadsAndCreates (seen : Option (List ℕ)) (wanted : Owner) (works : List DiskWork) : Type 0 where
  pub readings : List DiskWork
  pub are_readings : AreReadings readings
  pub file : List ℕ
  pub file_is : IfSome seen (λ f. file ≡ f)
  pub steps : List DiskWork
  pub steps_are : IsCreation file wanted steps
  pub is : works ≡ readings ++ steps

-- a sync stands before calls of this kind
pub record BehindSync (kind : List DiskWork → Type 0) (works : List DiskWork) : Type 0 where
  pub others : List DiskWork
  pub are : kind others
  pub is : works ≡ Sync ∷ others

-- the calls that open a journal, and those that only read its file
abbrev pub IsOpening : Option (List ℕ) → Owner → List DiskWork → Type 0
IsOpening seen wanted = BehindSync (ReadsAndCreates seen wanted)

abbrev pub IsSyncedReading : List DiskWork → Type 0
IsSyncedReading = BehindSync AreReadings
