-- The records of a body.
use Rattle.std.specs.Prelude.{◌≡◌, ℕ, ◌<◌, List, [], ◌∷◌, ◌++◌, length, None, Some, Option, Ok, Err, Result}
use Rattle.craft_base.specs.Shape.{Shape}
use Rattle.entry_frames.specs.Durable.{Durable, CanApplyAll}
use Rattle.entry_frames.specs.Formats.{Fits, spelling}
use Rattle.entry_frames.specs.RecordViews.{record_of, HasK}
use Rattle.entry_frames.specs.Records.{Record, record_fields, record_spellings}
use Rattle.entry_frames.specs.declared.fault.FrameFault.{FrameFault}
use Rattle.entry_frames.specs.declared.record_view.RecordView.{RecordView}

-- each of them has a spelling
abbrev pub HaveSpellings : ℕ → List Record → Type 0
HaveSpellings k [] = Unit {0}
HaveSpellings k (r ∷ records) = Fits (record_fields k) r × HaveSpellings k records

-- the bytes are the records', which can be applied in order
pub record SpellsAll (shape : Shape) (d : Durable) (bytes : List ℕ) (records : List Record) : Type 0 where
  pub spelled : HaveSpellings shape.need records
  pub applies : CanApplyAll shape d records
  pub is : bytes ≡ record_spellings shape.need records

-- ---- one by one

-- no record begins the bytes
abbrev pub NoneFirst : ℕ → List ℕ → Type 0
NoneFirst k bytes = (r : Record) (rest : List ℕ) → Fits (record_fields k) r → bytes ≡ spelling (record_fields k) r ++ rest → ⊥

-- the bytes begin with this record and no other, and these are behind it
pub record IsFirst (k : ℕ) (bytes : List ℕ) (r : Record) (rest : List ℕ) : Type 0 where
  pub fits : Fits (record_fields k) r
  pub is : bytes ≡ spelling (record_fields k) r ++ rest
  pub shorter : length rest < length bytes
  pub only : (other : Record) (others : List ℕ) → Fits (record_fields k) other → bytes ≡ spelling (record_fields k) other ++ others → (other ≡ r) × (others ≡ rest)

-- what a walk over a body has in front of it
pub record BodyLeft : Type 0 where
  pub k : ℕ
  pub rest : List ℕ

-- the next record: none exactly at the end, and a fault exactly where other bytes stand there
abbrev pub IsNext : ℕ → List ℕ → List ℕ → Option (Result RecordView FrameFault) → Type 0
IsNext k bytes rest None = bytes ≡ []
IsNext k bytes rest (Some (Err fault)) = (0 < length bytes) × NoneFirst k bytes
IsNext k bytes rest (Some (Ok view)) = HasK k view × IsFirst k bytes (record_of view) rest
