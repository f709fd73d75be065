-- What a word of digits spells.
use Rattle.std.proofs.Common.{◌≡◌, ℕ, ◌<◌, ◌≤◌, ◌^◌, List, [], ◌∷◌, Bool, true, false, cond, ◌&&◌, length, refl, ap, ◌∙◌, sym, arith, rules, None, Some, Result, Ok, Err}
use Rattle.std.specs.Prelude.{nat_lt}
use Rattle.std.specs.Result.{result_ok, OkIff}
use Rattle.std.specs.Str.{all_ascii_digits, IsUtf8}
use Rattle.std.specs.Str.Parse.{ParsesUnsigned}
use Rattle.std.proofs.lemmas.Bool.Decides.{nat_tests}
use Rattle.std.proofs.lemmas.Str.Parse.{IsNumeralModel, numerals_by_fold, tells_all_ascii_digits, parse_digits}
use Rattle.std.proofs.lemmas.Fmt.{IsAscii-from_digits}
use Rattle.std.proofs.lemmas.Str.{IsUtf8-from_ascii}
use Rattle.world_model.specs.Numbers.{digits_after, is_numeral, number_of}

-- the digits of a word and the number that they make
pub own : IsNumeralModel (λ digits. all_ascii_digits digits ≡ true) (digits_after 0)
own = numerals_by_fold _ tells_all_ascii_digits digits_after (search rules)

-- a numeral is digits, at least one of them
pub numeral_digits : (word : List ℕ) → is_numeral word ≡ true → all_ascii_digits word ≡ true
numeral_digits [] h = cc
numeral_digits (digit ∷ []) h = grind (arith, h)
numeral_digits (first ∷ second ∷ digits) h = grind (arith, h)

pub numeral_length : (word : List ℕ) → is_numeral word ≡ true → 0 < length word
numeral_length [] h = cc
numeral_length (digit ∷ word) h = omega arith

passes : (numeral : Bool) (n : ℕ) → numeral ≡ true → n < 2 ^ 64 → (numeral && nat_lt n (2 ^ 64)) ≡ true
passes numeral n is_numeral fits = grind (arith, nat_tests)

fails : (numeral : Bool) (n : ℕ) → 2 ^ 64 ≤ n → (numeral && nat_lt n (2 ^ 64)) ≡ false
fails true n large = grind (arith, nat_tests)
fails false n large = refl

too_large : (n : ℕ) → (n < 2 ^ 64 → ⊥) → 2 ^ 64 ≤ n
too_large n not_below = omega (arith, not_below)

by_result : {E : Type 0} (word : List ℕ) (r : Result ℕ E) → is_numeral word ≡ true
    → OkIff r ((0 < length word) × (digits_after 0 word < 2 ^ 64)) (digits_after 0 word) → result_ok r ≡ number_of word
by_result word (Ok n) numeral (fits, value) =
    ap Some value ∙ sym (ap (λ b. cond b (Some (digits_after 0 word)) None) (passes (is_numeral word) (digits_after 0 word) numeral fits.1))
by_result word (Err e) numeral none =
    let large : 2 ^ 64 ≤ digits_after 0 word = too_large (digits_after 0 word) (λ fits. none (numeral_length word numeral, fits)) in
    sym (ap (λ b. cond b (Some (digits_after 0 word)) None) (fails (is_numeral word) (digits_after 0 word) large))

-- what std's parse finds in a numeral is what the numeral spells
pub parsed : {E : Type 0} (word : List ℕ) (r : Result ℕ E) → is_numeral word ≡ true → ParsesUnsigned 64 10 word r → result_ok r ≡ number_of word
parsed word r numeral parses = by_result word r numeral (parse_digits own 64 word r parses (numeral_digits word numeral))

-- a numeral is text
pub numeral_is_utf8 : (word : List ℕ) → is_numeral word ≡ true → IsUtf8 word
numeral_is_utf8 word numeral = IsUtf8-from_ascii word (IsAscii-from_digits word (own.to word (numeral_digits word numeral)))
