-- Entries in a vector of a fixed size, whose free places hold none.
use Rattle.std.specs.Prelude.{◌≡◌, ◌≤◌, List, [], ◌∷◌, length, map, Option, None, Some}
use Rattle.std.specs.Borrow.{Bor}
use Rattle.entry_frames.specs.Limits.{most_entries}

-- what stands in the places that hold something
abbrev pub all_some : {A : Type 0} → List (Option A) → List A
all_some [] = []
all_some (None ∷ places) = all_some places
all_some (Some x ∷ places) = x ∷ all_some places

-- at most as many places as a message has entries, and each of them holds something
pub record IsBatch {A : Type 0} (places : List (Option A)) : Type 0 where
  pub full : places ≡ map Some (all_some places)
  pub short : length places ≤ most_entries

-- what is behind a reference that may not be there
abbrev pub behind : {A : Type 0} → Option (Bor A) → Option A
behind None = None
behind (Some place) = Some place.now
