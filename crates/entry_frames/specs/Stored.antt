-- The entries that a member keeps.
use Rattle.std.specs.Prelude.{ℕ, ◌≤◌, List, [], ◌∷◌, length}
use Rattle.craft_base.specs.Shape.{Shape}
use Rattle.craft_base.specs.declared.command.Entry.{Entry}
use Rattle.entry_frames.specs.Durable.{Durable}
use Rattle.entry_frames.specs.Entries.{entry_fields}
use Rattle.entry_frames.specs.Formats.{Fits}
use Rattle.entry_frames.specs.Limits.{greatest, last_place}
use Rattle.entry_frames.specs.Views.{IsK}

-- each has a spelling, and their terms don't fall, from `low` to `high`
abbrev pub AreEntries : ℕ → ℕ → ℕ → List Entry → Type 0
AreEntries k low high [] = Unit {0}
AreEntries k low high (e ∷ log) = Fits (entry_fields k) e × (low ≤ e.term) × (e.term ≤ high) × AreEntries k e.term high log

-- The entries of a member of the cluster in that term, which is at most 2^62: each is in the ranges of its table, which begin a
-- term at 1, and their terms don't fall and are at most the member's.
pub record IsStored (shape : Shape) (term : ℕ) (log : List Entry) : Type 0 where
  pub k : IsK shape.need
  pub term_most : term ≤ greatest
  pub entries : AreEntries shape.need 0 term log

-- what outlives a crash of a member of the cluster: its entries, no more of them than there are indexes, and no commit index past
-- the last
pub record DurableInRange (shape : Shape) (d : Durable) : Type 0 where
  pub stored : IsStored shape d.term d.log
  pub short : length d.log ≤ last_place
  pub commit : d.commit ≤ length d.log
