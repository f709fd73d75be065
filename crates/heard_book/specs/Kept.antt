-- What is kept of all that was heard in a term, and when it stands for a list of it.
use Rattle.std.specs.Prelude.{◌≡◌, ◌<◌, ◌+◌, ◌-◌, ◌==◌, ℕ, List, ◌∷◌, map, Bool, Option, slice_index}
use Rattle.std.specs.Int.{bit_at}
use Rattle.std.specs.List.{range_with_len}
use Rattle.craft_base.specs.Shape.{Shape}
use Rattle.craft_base.specs.Knowledge.{Heard, has_matched, is_fresh, is_held_whole, granted_by, least_refused, match_index, since_beat, was_heard}
use Rattle.heard_book.specs.declared.window.Window.{Window}

-- whether a window notes that the member holds the entry at that index whole: the mask of the index behind the settled one is
-- its first, and a mask has a bit for each member
abbrev pub is_noted : Window → ℕ → ℕ → Bool
is_noted window member index = bit_at (slice_index window.masks.items (index - (window.settled + 1))) member == 1

-- an answer for each member that a cluster can have
abbrev pub of_each : {X : Type 0} → (ℕ → X) → List X
of_each answer = map answer (range_with_len 0 15)

-- What is kept. The lists have an item for each member that a cluster can have.
pub record Kept : Type 0 where
  pub shape : Shape
  pub first : ℕ
  -- the greatest index up to which a log was heard to match, and whether one was
  pub matches : List ℕ
  pub matched : List Bool
  -- the least index named in a refusal
  pub refused : List (Option ℕ)
  -- whether a granted vote was heard
  pub granted : List Bool
  -- whether anything was heard since the last beat, and since the second last
  pub since : List Bool
  pub fresh : List Bool
  -- who holds which entry whole
  pub window : Window

-- it stands for this list of what was heard, the latest first, and this `first`, in a cluster of that shape
pub record Stands (kept : Kept) (shape : Shape) (heard : List Heard) (first : ℕ) : Type 0 where
  pub same_shape : kept.shape ≡ shape
  pub same_first : kept.first ≡ first
  pub of_matches : kept.matches ≡ of_each (λ member. match_index member heard)
  pub of_matched : kept.matched ≡ of_each (λ member. has_matched member heard)
  pub of_refused : kept.refused ≡ of_each (λ member. least_refused member heard)
  pub of_granted : kept.granted ≡ of_each (λ member. granted_by member heard)
  pub of_since : kept.since ≡ of_each (λ member. was_heard member (since_beat heard))
  pub of_fresh : kept.fresh ≡ of_each (λ member. is_fresh member heard)
  pub of_wholes : (member index : ℕ) → kept.window.settled < index → is_noted kept.window member index ≡ is_held_whole member index heard

-- Whatever list it stood for, it now stands for that list with one thing more heard.
abbrev pub Hears : Heard → Kept → Kept → Type 0
Hears item old new = (shape : Shape) (heard : List Heard) (first : ℕ) → Stands old shape heard first → Stands new shape (item ∷ heard) first
