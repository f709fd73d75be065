-- The places of a cluster as words: what reads them and what spells them say the same.
use Rattle.std.proofs.Common.{◌≡◌, ℕ, List, [], ◌∷◌, Bool, true, false, length, refl, ap, ◌∙◌, sym, arith, Option, None, Some}
use Rattle.std.specs.Prelude.{◌==◌, if◌then◌else◌}
use Rattle.std.specs.List.{All, AllZip}
use Rattle.std.proofs.lemmas.Bool.{eqb-true}
use Rattle.std.proofs.lemmas.Bool.Decides.{nat_tests}
use Rattle.std.proofs.lemmas.List.Elements.{All-cons, All-head, All-nil, All-tail}
use Rattle.craft_base.specs.Shape.{Shape, members_of}
use Rattle.command_words.specs.Places.{all_places, place_before, place_in, places_in}
use Rattle.command_words.specs.Spelling.{ArePlaces, IsPlace, SpellsPlace}
use Rattle.command_words.proofs.PlaceWords.{SpellsPlace-IsPlace, SpellsPlace-read, one_place, read-SpellsPlace, some_place}

all_read : (words : List (List ℕ)) (places : List ℕ) → AllZip SpellsPlace words places → all_places words ≡ Some places
all_read [] [] spelled = refl
all_read [] (place ∷ places) spelled = absurd spelled
all_read (word ∷ words) [] spelled = absurd spelled
all_read (word ∷ words) (place ∷ places) (first, others) =
    ap (λ o. place_before o (all_places words)) (SpellsPlace-read word place first) ∙ ap (place_before (Some place)) (all_read words places others)

read_all : (words : List (List ℕ)) (places : List ℕ) → all_places words ≡ Some places → AllZip SpellsPlace words places
read_all [] [] read = tt
read_all [] (place ∷ places) read = cc
read_all (word ∷ words) places read = by_parts (place_in word) (all_places words) places (λ tail. read_all words tail) refl refl read where
  by_parts : (first : Option ℕ) (others : Option (List ℕ)) (places : List ℕ)
      → ((tail : List ℕ) → all_places words ≡ Some tail → AllZip SpellsPlace words tail) → place_in word ≡ first → all_places words ≡ others
      → place_before first others ≡ Some places → AllZip SpellsPlace (word ∷ words) places
  by_parts None others places behind is_first are_others h = cc
  by_parts (Some place) None places behind is_first are_others h = cc
  by_parts (Some place) (Some more) [] behind is_first are_others h = cc
  by_parts (Some place) (Some more) (head ∷ tail) behind is_first are_others h =
      let same_head : place ≡ head = cc in
      let same_tail : more ≡ tail = cc in
      (read-SpellsPlace word head (is_first ∙ ap Some same_head), behind tail (are_others ∙ ap Some same_tail))

zip_length : (words : List (List ℕ)) (places : List ℕ) → AllZip SpellsPlace words places → length words ≡ length places
zip_length [] [] spelled = refl
zip_length [] (place ∷ places) spelled = absurd spelled
zip_length (word ∷ words) [] spelled = absurd spelled
zip_length (word ∷ words) (place ∷ places) (first, others) = let h = zip_length words places others in cc

zip_ranges : (words : List (List ℕ)) (places : List ℕ) → AllZip SpellsPlace words places → All IsPlace places
zip_ranges [] [] spelled = All-nil IsPlace
zip_ranges [] (place ∷ places) spelled = absurd spelled
zip_ranges (word ∷ words) [] spelled = absurd spelled
zip_ranges (word ∷ words) (place ∷ places) (first, others) =
    All-cons IsPlace place places (SpellsPlace-IsPlace word place first) (zip_ranges words places others)

pub one_all : (words others : List (List ℕ)) (places : List ℕ) → AllZip SpellsPlace words places → AllZip SpellsPlace others places → words ≡ others
one_all [] [] places spelled as_well = refl
one_all [] (other ∷ others) [] spelled as_well = absurd as_well
one_all [] (other ∷ others) (place ∷ places) spelled as_well = absurd spelled
one_all (word ∷ words) [] [] spelled as_well = absurd spelled
one_all (word ∷ words) [] (place ∷ places) spelled as_well = absurd as_well
one_all (word ∷ words) (other ∷ others) [] spelled as_well = absurd spelled
one_all (word ∷ words) (other ∷ others) (place ∷ places) (first, rest) (second, more) =
    ap (λ w. w ∷ words) (one_place word other place first second) ∙ ap (λ ws. other ∷ ws) (one_all words others places rest more)

pub some_all : (places : List ℕ) → All IsPlace places → (words : List (List ℕ)) × AllZip SpellsPlace words places
some_all [] are = ([], tt)
some_all (place ∷ places) are =
    let (word, first) = some_place place (All-head IsPlace place places are) in
    let (words, others) = some_all places (All-tail IsPlace place places are) in
    (word ∷ words, (first, others))

-- what a test lets through
pub let_through : {A : Type 0} (test : Bool) (found : Option A) (x : A) → (if test then found else None) ≡ Some x → (test ≡ true) × (found ≡ Some x)
let_through true found x h = (refl, h)
let_through false found x h = cc

-- one place for each member
pub places_read : (shape : Shape) (words : List (List ℕ)) (places : List ℕ) → AllZip SpellsPlace words places → length places ≡ members_of shape
    → places_in shape words ≡ Some places
places_read shape words places spelled many =
    ap (λ test. if test then all_places words else None) (same (length words) (members_of shape) (zip_length words places spelled ∙ many))
    ∙ all_read words places spelled where
      same : (n m : ℕ) → n ≡ m → (n == m) ≡ true
      same n m h = grind (arith, nat_tests)

pub read_places : (shape : Shape) (words : List (List ℕ)) (places : List ℕ) → places_in shape words ≡ Some places
    → AllZip SpellsPlace words places × ArePlaces shape places
read_places shape words places read =
    let parts = let_through (length words == members_of shape) (all_places words) places read in
    let spelled : AllZip SpellsPlace words places = read_all words places parts.1 in
    (spelled, (sym (zip_length words places spelled) ∙ eqb-true (length words) (members_of shape) parts.0, zip_ranges words places spelled))
