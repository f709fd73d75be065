-- The durable state to which a file opens.
use Rattle.std.specs.Prelude.{◌≡◌, ◌⊎◌, ℕ, List}
use Rattle.entry_frames.specs.Durable.{Durable, born}
use Rattle.entry_frames.specs.Records.{Record}
use Rattle.synced_log.specs.declared.owner.Owner.{Owner}
use Rattle.synced_log.specs.Journal.{IsOwner, IsUnborn, IsJournal, IsJournalTo, after_groups}

-- the owner's journal, whose groups leave this state
pub record IsJournalOf (bytes : List ℕ) (o : Owner) (d : Durable) : Type 0 where
  pub groups : List (List Record)
  pub journal : IsJournal bytes o groups
  pub leaves : d ≡ after_groups born groups

-- a file that never became one, which opens to the state before any record
pub record IsUnbornOf (bytes : List ℕ) (o : Owner) (d : Durable) : Type 0 where
  pub owner : IsOwner o
  pub unborn : IsUnborn bytes
  pub leaves : d ≡ born

-- the file opens to this state for this owner
abbrev pub OpensTo : List ℕ → Owner → Durable → Type 0
OpensTo bytes o d = IsJournalOf bytes o d ⊎ IsUnbornOf bytes o d

-- the owner's journal with its closed gate at this offset, whose groups leave this state
pub record HoldsTo (bytes : List ℕ) (gate : ℕ) (o : Owner) (d : Durable) : Type 0 where
  pub groups : List (List Record)
  pub journal : IsJournalTo bytes gate o groups
  pub leaves : d ≡ after_groups born groups
