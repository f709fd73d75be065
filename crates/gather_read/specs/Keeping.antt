-- What is kept of the slots that others showed at one index.
use Rattle.std.specs.Prelude.{◌≡◌, ℕ, List, length, Option, None, Some, slice_index_or}
use Rattle.craft_base.specs.declared.command.Entry.{Entry}
use Rattle.entry_frames.specs.Views.{IsInRange}

-- what is kept: how many fragments rebuild a value, and a place for each member
pub record KeptSlots : Type 0 where
  pub k : ℕ
  pub places : List (Option Entry)

-- the slot that is kept of a member
abbrev pub kept_slot : KeptSlots → (member : ℕ) → Option Entry
kept_slot slots member = slice_index_or slots.places member None

-- an entry that is kept meets the ranges
abbrev pub IsKeptInRange : ℕ → Option Entry → Type 0
IsKeptInRange k None = Unit {0}
IsKeptInRange k (Some entry) = IsInRange (record { k = k; entry = entry })

-- the places are those of fifteen members, and what stands there meets the ranges
pub record AreKept (kept : KeptSlots) : Type 0 where
  pub all : length kept.places ≡ 15
  pub in_range : (member : ℕ) → IsKeptInRange kept.k (kept_slot kept member)
