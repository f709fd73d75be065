-- Places of words that are read one by one.
use Rattle.std.proofs.Common.{◌≡◌, ℕ, suc, ◌+◌, ◌<◌, List, [], ◌∷◌, ◌++◌, length, get_or, drop, map, refl, ap, ◌∙◌, sym, Option, None, Some, add-one, append_assoc, drop-cons}
use Rattle.std.specs.Prelude.{string_bytes}
use Rattle.std.specs.Option.{option_map}
use Rattle.std.specs.declared.string.String.{String}
use Rattle.command_words.specs.Places.{all_places, place_before, place_in}

behind : (before : List ℕ) (place : ℕ) (rest : Option (List ℕ))
    → option_map (λ more. (before ++ place ∷ []) ++ more) rest ≡ option_map (λ more. before ++ more) (place_before (Some place) rest)
behind before place None = refl
behind before place (Some more) = ap (λ list. Some list) (append_assoc before (place ∷ []) more)

pub one_more : {Z : Type 0} (words : List (String Z)) (i : ℕ) (word : String Z) (place : ℕ) (before after : List ℕ) (all : Option (List ℕ))
    → i < length words → word ≡ get_or words i word → place_in (string_bytes word) ≡ Some place → after ≡ before ++ place ∷ []
    → option_map (λ more. before ++ more) (all_places (map string_bytes (drop i words))) ≡ all
    → option_map (λ more. after ++ more) (all_places (map string_bytes (drop (i + 1) words))) ≡ all
one_more words i word place before after all below item found pushed so_far =
    let rest : Option (List ℕ) = all_places (map string_bytes (drop (suc i) words)) in
    let left : all_places (map string_bytes (drop i words)) ≡ place_before (Some place) rest =
    ap (λ list. all_places (map string_bytes list)) (drop-cons words i word below)
    ∙ ap (λ w. place_before (place_in (string_bytes w)) rest) (sym item) ∙ ap (λ o. place_before o rest) found in
    ap (λ k. option_map (λ more. after ++ more) (all_places (map string_bytes (drop k words)))) (add-one i)
    ∙ ap (λ list. option_map (λ more. list ++ more) rest) pushed
    ∙ behind before place rest ∙ ap (option_map (λ more. before ++ more)) (sym left) ∙ so_far
