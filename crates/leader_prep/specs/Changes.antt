-- What becomes of the slots that are kept.
use Rattle.std.specs.Prelude.{◌≡◌, ◌≤◌, ◌<◌, ℕ, ◌+◌, ◌==◌, ◌&&◌, if◌then◌else◌, Option, None, Some}
use Rattle.std.specs.Option.{option_or}
use Rattle.craft_base.specs.declared.command.Entry.{Entry}
use Rattle.leader_prep.specs.Keeping.{KeptSlots, place_of, slot_at}
use Rattle.leader_prep.specs.Pages.{Page, slot_of}

-- one entry, where it is that of this member at this index
abbrev pub shown_one : (sender index : ℕ) → Entry → (member at : ℕ) → Option Entry
shown_one sender index entry member at = if (sender == member) && (index == at) then Some entry else None

-- it stands at its place, where another index is then no longer kept
abbrev pub Puts : (old new : KeptSlots) → (sender index : ℕ) → Entry → Type 0
Puts old new sender index entry =
    (member at : ℕ) → slot_at new.places member at
    ≡ (if place_of member at == place_of sender index then (if index == at then Some entry else None) else slot_at old.places member at)

-- no slot that is kept lies eight places or more above the cursor
abbrev pub AreNear : KeptSlots → ℕ → Type 0
AreNear slots cursor = (member index : ℕ) (entry : Entry) → slot_at slots.places member index ≡ Some entry → index < cursor + 8

-- Where all that was kept is near the cursor, so is what is kept; and from the cursor on it is this, and else what was kept.
pub record Keeps (old new : KeptSlots) (cursor : ℕ) (shown : (member at : ℕ) → Option Entry) : Type 0 where
  pub near : AreNear old cursor → AreNear new cursor
  pub slots : AreNear old cursor → (member at : ℕ) → cursor ≤ at
      → slot_at new.places member at ≡ option_or (shown member at) (slot_at old.places member at)

abbrev pub KeepsOne : (old new : KeptSlots) → (cursor sender index : ℕ) → Entry → Type 0
KeepsOne old new cursor sender index entry = Keeps old new cursor (shown_one sender index entry)

abbrev pub KeepsPage : (old new : KeptSlots) → (cursor : ℕ) → Page → Type 0
KeepsPage old new cursor page = Keeps old new cursor (λ member at. slot_of member page at)
