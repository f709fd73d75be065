-- What the steps of reading a file tell.
use Rattle.std.specs.Prelude.{◌≡◌, ℕ, ◌+◌, ◌-◌, ◌^◌, ◌≤◌, Bool, true, false, List, [], ◌∷◌, ◌++◌, length, take, drop, None, Some, Option}
use Rattle.craft_base.specs.Shape.{Shape}
use Rattle.entry_frames.specs.Bodies.{SpellsAll}
use Rattle.entry_frames.specs.Durable.{Durable, born, after}
use Rattle.entry_frames.specs.Formats.{Format, Value, Number, Bytes, U64, within}
use Rattle.entry_frames.specs.Records.{Record}
use Rattle.synced_log.specs.declared.span.GroupSpan.{GroupSpan}
use Rattle.synced_log.specs.declared.walk.Ended.{Ended}
use Rattle.synced_log.specs.declared.walk.Ended.TheVariants.{Closed, Faulty}
use Rattle.synced_log.specs.Journal.{AreGroups, StandsBehind, body_of, open_groups, after_groups, Placed, placed_from, EndsThere, IsNoGate}
use Rattle.synced_log.specs.Outlines.{Outline, outline_of, can_apply, outline_after}

-- ---- one record

-- a record was applied, or it can't be
abbrev pub AppliesOne : Shape → Outline → Record → Bool → Outline → Type 0
AppliesOne shape old r true new = (can_apply shape old r ≡ true) × (new ≡ outline_after old r)
AppliesOne shape old r false new = can_apply shape old r ≡ false

-- ---- a body

pub record AppliesRecords (shape : Shape) (d : Durable) (bytes : List ℕ) (new : Outline) : Type 0 where
  pub records : List Record
  pub spells : SpellsAll shape d bytes records
  pub leaves : new ≡ outline_of (after d records)

-- all records of a body were applied, or the bytes are no records that can be applied
abbrev pub AppliesAll : Shape → Durable → List ℕ → Bool → Outline → Type 0
AppliesAll shape d bytes true new = AppliesRecords shape d bytes new
AppliesAll shape d bytes false new = (records : List Record) → ¬ SpellsAll shape d bytes records

-- ---- a group

-- behind an open gate: the length of a body, and the body
abbrev pub body_fields : Format (List ℕ)
body_fields = Number true U64 (within 0 (2 ^ 64 - 1)) length λ len. Bytes len (λ body. body) λ body. Value body

pub record AppliesGroup (shape : Shape) (d : Durable) (bytes : List ℕ) (len : ℕ) (new : Outline) : Type 0 where
  pub records : List Record
  pub stands : StandsBehind shape d bytes records (drop (8 + len) bytes)
  pub size : len ≡ length (body_of shape.need records)
  pub body : body_of shape.need records ≡ take len (drop 8 bytes)
  pub within : 8 + len ≤ length bytes
  pub leaves : new ≡ outline_of (after d records)

-- the group behind an open gate, whose body has that length, was applied, or there is none
abbrev pub AppliesBehind : Shape → Durable → List ℕ → Option ℕ → Outline → Type 0
AppliesBehind shape d bytes None new = (records : List Record) (rest : List ℕ) → ¬ StandsBehind shape d bytes records rest
AppliesBehind shape d bytes (Some len) new = AppliesGroup shape d bytes len new

-- ---- a file

-- where a group lies in the file
abbrev pub placed_in : List ℕ → GroupSpan → Placed
placed_in file span = record { gate = span.gate; body = take span.len (drop (span.gate + 9) file) }

abbrev pub all_placed : List ℕ → List GroupSpan → List Placed
all_placed file [] = []
all_placed file (span ∷ spans) = placed_in file span ∷ all_placed file spans

-- each of them lies inside the file
abbrev pub AllInside : List ℕ → List GroupSpan → Type 0
AllInside file [] = Unit {0}
AllInside file (span ∷ spans) = (span.gate + 9 + span.len ≤ length file) × AllInside file spans

-- how the groups of a file end: at a closed gate, or at the first fault
abbrev pub EndsAs : Shape → Durable → List ℕ → Ended → Type 0
EndsAs shape d rest (Closed at) = EndsThere rest
EndsAs shape d rest (Faulty at) = IsNoGate shape d rest

abbrev pub end_of : Ended → ℕ
end_of (Closed at) = at
end_of (Faulty at) = at

-- the groups of a file up to the first gate that isn't an open one with a group behind it
pub record WalksTo (shape : Shape) (file : List ℕ) (spans : List GroupSpan) (at : ℕ) (outline : Outline) : Type 0 where
  pub groups : List (List Record)
  pub groups_are : AreGroups shape born groups
  pub is : drop 32 file ≡ open_groups shape.need groups ++ drop at file
  pub at_is : at ≡ 32 + length (open_groups shape.need groups)
  pub within : at ≤ length file
  pub spans_are : all_placed file spans ≡ placed_from shape.need 32 groups
  pub inside : AllInside file spans
  pub outline_is : outline ≡ outline_of (after_groups born groups)

pub record WalksWhole (shape : Shape) (file : List ℕ) (spans : List GroupSpan) (ended : Ended) : Type 0 where
  pub outline : Outline
  pub walk : WalksTo shape file spans (end_of ended) outline
  pub ends : EndsAs shape (after_groups born walk.groups) (drop (end_of ended) file) ended
