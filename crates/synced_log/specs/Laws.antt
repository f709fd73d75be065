-- A file is read in one way.
use Rattle.std.specs.Prelude.{◌≡◌, ℕ, ◌^◌, ◌<◌, List, length}
use Rattle.entry_frames.specs.Durable.{Durable}
use Rattle.entry_frames.specs.Records.{Record}
use Rattle.synced_log.specs.declared.owner.Owner.{Owner}
use Rattle.synced_log.specs.Journal.{IsOwner, IsJournal, HasHeader, BadAt}
use Rattle.synced_log.specs.States.{OpensTo}

-- not longer than memory has
abbrev pub HasRoom : List ℕ → Type 0
HasRoom bytes = length bytes < 2 ^ 63

-- it begins with one owner's header
abbrev pub OneOwner : Type 0
OneOwner = (bytes : List ℕ) (o p : Owner) → HasHeader bytes o → HasHeader bytes p → o ≡ p

-- it is one owner's journal with one list of groups
abbrev pub OneJournal : Type 0
OneJournal = (bytes : List ℕ) (o p : Owner) (groups others : List (List Record)) → HasRoom bytes → IsJournal bytes o groups → IsJournal bytes p others → (o ≡ p) × (groups ≡ others)

-- it is no journal where it has a fault
abbrev pub NoFault : Type 0
NoFault = (bytes : List ℕ) (o : Owner) (groups : List (List Record)) (offset : ℕ) → HasRoom bytes → IsJournal bytes o groups → BadAt bytes o offset → ⊥

-- it has one first fault
abbrev pub OneFault : Type 0
OneFault = (bytes : List ℕ) (o : Owner) (offset other : ℕ) → HasRoom bytes → IsOwner o → BadAt bytes o offset → BadAt bytes o other → offset ≡ other

-- it opens to one state
abbrev pub OneState : Type 0
OneState = (bytes : List ℕ) (o : Owner) (d e : Durable) → HasRoom bytes → OpensTo bytes o d → OpensTo bytes o e → d ≡ e
