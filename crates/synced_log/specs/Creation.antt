-- What a crash leaves while a file is created.
use Rattle.std.specs.Prelude.{◌≡◌, ◌≢◌, ◌⊎◌, ℕ, ◌≤◌, Bool, List, [], length, get_or, Option, Some}
use Rattle.craft_edge.specs.Disk.{WhereTold, Only}
use Rattle.synced_log.specs.declared.owner.Owner.{Owner}
use Rattle.synced_log.specs.Journal.{IsUnborn, IsJournal}

-- an unborn file with a first byte that isn't a header's
pub record IsBlank (file : List ℕ) : Type 0 where
  pub some : 1 ≤ length file
  pub short : length file ≤ 33
  pub first : get_or file 0 0 ≢ 67

-- the disk has such a file for good
pub record HasBlank (tells_crash : Bool) (seen : Option (List ℕ)) (may_leave : List ℕ → Type 0) : Type 0 where
  pub file : List ℕ
  pub seen_is : seen ≡ Some file
  pub blank : IsBlank file
  pub durable : WhereTold tells_crash (Only file may_leave)

-- where a file of a kind was all that a crash could leave: a file that isn't born yet or has no groups
abbrev pub CreationLeaves : (List ℕ → Type 0) → Option (List ℕ) → (List ℕ → Type 0) → Owner → List ℕ → Type 0
CreationLeaves kind seen may_leave owner image = (file : List ℕ) → seen ≡ Some file → kind file → Only file may_leave → IsUnborn image ⊎ IsJournal image owner []
