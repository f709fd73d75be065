-- What is kept of the slots that others showed.
use Rattle.std.specs.Prelude.{◌≡◌, ℕ, ◌+◌, ◌*◌, ◌%◌, List, length, ◌==◌, if◌then◌else◌, Option, None, Some, slice_index_or}
use Rattle.craft_base.specs.declared.command.Entry.{Entry}
use Rattle.entry_frames.specs.Views.{IsInRange}
use Rattle.leader_prep.specs.declared.slots.Slot.{Slot}

-- the entry, where it was shown at that index
abbrev pub entry_in : ℕ → Option Slot → Option Entry
entry_in index None = None
entry_in index (Some slot) = if slot.index == index then Some slot.entry else None

-- each member has eight places, and each index one of them
abbrev pub place_of : (member index : ℕ) → ℕ
place_of member index = member * 8 + index % 8

-- the slot that is kept of a member at an index
abbrev pub slot_at : List (Option Slot) → (member index : ℕ) → Option Entry
slot_at places member index = entry_in index (slice_index_or places (place_of member index) None)

-- an entry that is kept meets the ranges
abbrev pub IsKeptInRange : ℕ → Option Slot → Type 0
IsKeptInRange k None = Unit {0}
IsKeptInRange k (Some slot) = IsInRange (record { k = k; entry = slot.entry })

-- what is kept: how many fragments rebuild a value, and the places of all members
pub record KeptSlots : Type 0 where
  pub k : ℕ
  pub places : List (Option Slot)

-- the places are those of fifteen members, and what stands there meets the ranges
pub record AreKept (kept : KeptSlots) : Type 0 where
  pub all : length kept.places ≡ 120
  pub in_range : (place : ℕ) → IsKeptInRange kept.k (slice_index_or kept.places place None)
