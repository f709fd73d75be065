-- What a store is after the records of a journal.
use Rattle.std.specs.Prelude.{ℕ, List}
use Rattle.entry_frames.specs.Bodies.{SpellsAll}
use Rattle.entry_frames.specs.Records.{Record}
use Rattle.log_store.specs.Stores.{Stored}

-- some records that can be applied to the state are spelled there
abbrev pub Spells : Stored → List ℕ → Type 0
Spells store bytes = (records : List Record) × SpellsAll store.shape store.kept bytes records
