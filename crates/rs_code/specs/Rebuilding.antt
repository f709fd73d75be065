-- A value that is rebuilt from fragments, part by part.
use Rattle.std.specs.Prelude.{ℕ, ◌≡◌, ◌*◌, ◌<◌, List, [], ◌∷◌, ◌++◌, length, take, Bool, ◌==◌, slice_index, EachIndex, All}
use Rattle.std.specs.List.{list_any}
use Rattle.craft_base.specs.Parts.{part_length}
use Rattle.rs_code.specs.Polynomials.{polynomial}
use Rattle.rs_code.specs.Fragments.{point_of, coefficients, fragment}

-- a part that was taken, and the member whose fragment it is
pub record TakenPart : Type 0 where
  pub member : ℕ
  pub bytes : List ℕ

-- how many parts a value of that length needs, and the parts taken, in order
pub record Rebuilding : Type 0 where
  pub need : ℕ
  pub value_length : ℕ
  pub parts : List TakenPart

-- whether a part of the member was taken
abbrev pub is_taken : List TakenPart → ℕ → Bool
is_taken parts member = list_any (λ part. part.member == member) parts

-- with one part more
abbrev pub with_part : Rebuilding → ℕ → List ℕ → Rebuilding
with_part rebuilding member bytes = record rebuilding {
  parts = rebuilding.parts ++ record { member = member; bytes = bytes } ∷ [];
}

-- each byte of the part is the value at its member's point of the polynomial of the joined pieces
abbrev pub LiesOn : ℕ → ℕ → List ℕ → TakenPart → Type 0
LiesOn need size joined part =
    EachIndex part.bytes (λ place.
    slice_index part.bytes place ≡ polynomial (coefficients joined size place) need (point_of part.member))

-- how long each part is
abbrev pub size_of : Rebuilding → ℕ
size_of rebuilding = part_length rebuilding.value_length rebuilding.need

-- the value is the beginning of joined pieces, as many as are needed, on which each part lies
pub record Solves (rebuilding : Rebuilding) (value : List ℕ) : Type 0 where
  pub joined : List ℕ
  pub bytes : All (λ b. b < 256) joined
  pub long : length joined ≡ rebuilding.need * size_of rebuilding
  pub through : All (LiesOn rebuilding.need (size_of rebuilding) joined) rebuilding.parts
  pub beginning : value ≡ take rebuilding.value_length joined

-- each part is the value's fragment for its member
abbrev pub AreFragments : Rebuilding → List ℕ → Type 0
AreFragments rebuilding value = All (λ part. part.bytes ≡ fragment value rebuilding.need part.member) rebuilding.parts
