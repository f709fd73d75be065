-- Words that are too few or too many.
use Rattle.std.proofs.Common.{◌≡◌, ◌<◌, ℕ, List, [], ◌∷◌, length, map, refl, ap, ◌∙◌, sym, subst, arith, Option, None, Result, Ok, IfOk}
use Rattle.std.specs.Prelude.{◌==◌, string_bytes}
use Rattle.std.specs.List.{slice_split}
use Rattle.std.proofs.lemmas.List.{length-map}
use Rattle.std.specs.declared.string.String.{String}
use Rattle.craft_base.specs.Shape.{Shape}
use Rattle.command_words.specs.Places.{place_in, place_of_halves, place_of_octets, place_of_words}
use Rattle.command_words.specs.Words.{ask_in, plan}

pub not_two : (halves : List (List ℕ)) → (length halves ≡ 2 → ⊥) → place_of_halves halves ≡ None
not_two [] h = refl
not_two (a ∷ []) h = refl
not_two (a ∷ b ∷ []) h = absurd (h (omega arith))
not_two (a ∷ b ∷ c ∷ more) h = refl

pub not_four : (octets : List (List ℕ)) (port : List ℕ) → (length octets ≡ 4 → ⊥) → place_of_octets octets port ≡ None
not_four [] port h = refl
not_four (a ∷ []) port h = refl
not_four (a ∷ b ∷ []) port h = refl
not_four (a ∷ b ∷ c ∷ []) port h = refl
not_four (a ∷ b ∷ c ∷ d ∷ []) port h = absurd (h (omega arith))
not_four (a ∷ b ∷ c ∷ d ∷ e ∷ more) port h = refl

pub below_three : {Z : Type 0} (words : List (String Z)) → length words < 3 → None ≡ plan (map string_bytes words)
below_three [] h = refl
below_three (a ∷ []) h = refl
below_three (a ∷ b ∷ []) h = refl
below_three (a ∷ b ∷ c ∷ more) h = absurd (omega (arith, h))

pub below_five : {Z : Type 0} (shape : Shape) (words : List (String Z)) → length words < 5 → None ≡ ask_in shape (map string_bytes words)
below_five shape [] h = refl
below_five shape (a ∷ []) h = refl
below_five shape (a ∷ b ∷ []) h = refl
below_five shape (a ∷ b ∷ c ∷ []) h = refl
below_five shape (a ∷ b ∷ c ∷ d ∷ []) h = refl
below_five shape (a ∷ b ∷ c ∷ d ∷ e ∷ more) h = absurd (omega (arith, h))

-- another number of parts is no place
pub no_place : {X : Type 0} (f : X → List ℕ) (items shown : List X) (word : List ℕ) → map f items ≡ slice_split (λ byte. byte == 58) word
    → shown ≡ items → (length shown ≡ 2 → ⊥) → None ≡ place_in word
no_place f items shown word are same other =
    sym (ap place_of_halves (sym are) ∙ not_two (map f items) (λ two. other (ap length same ∙ sym (length-map items f) ∙ two)))

pub no_address : {X : Type 0} (f : X → List ℕ) (items shown : List X) (address port : List ℕ) → map f items ≡ slice_split (λ byte. byte == 46) address
    → shown ≡ items → (length shown ≡ 4 → ⊥) → None ≡ place_of_words address port
no_address f items shown address port are same other =
    sym (ap (λ parts. place_of_octets parts port) (sym are) ∙ not_four (map f items) port (λ four. other (ap length same ∙ sym (length-map items f) ∙ four)))

pub if_none : {A E : Type 0} (r : Result (Option A) E) (found : Option A) → r ≡ Ok None → None ≡ found → IfOk r (λ x. x ≡ found)
if_none r found is none = subst (λ s. IfOk s (λ x. x ≡ found)) (sym is) none
