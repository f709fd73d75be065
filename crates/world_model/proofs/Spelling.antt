-- Words of digits: what reads a number and what spells it say the same.
use Rattle.std.proofs.Common.{◌≡◌, ℕ, zero, suc, ◌+◌, ◌-◌, ◌*◌, ◌<◌, ◌^◌, List, [], ◌∷◌, Bool, true, false, not, ◌&&◌, length, get_or, refl, ap, ◌∙◌, sym, subst, arith, rules, None, Some}
use Rattle.std.specs.Prelude.{◌≢◌, ◌==◌, ◌↔◌, nat_lt, if◌then◌else◌}
use Rattle.std.specs.Char.{is_ascii_digit}
use Rattle.std.specs.Fmt.{decimal}
use Rattle.std.specs.Int.{IsInRange}
use Rattle.std.specs.List.{All}
use Rattle.std.specs.Str.{all_ascii_digits}
use Rattle.std.proofs.lemmas.Bool.Decides.{nat_tests}
use Rattle.std.proofs.lemmas.List.Elements.{All-nil, All-cons}
use Rattle.std.proofs.lemmas.Fmt.{decimal_nonempty, decimal_digit, first_decimal, digits_decimal, digits_value-decimal, decimal-digits_value}
use Rattle.std.proofs.lemmas.Str.Parse.{IsNumeralModel, numerals_by_weight, tells_all_ascii_digits}
use Rattle.world_model.specs.Numbers.{digits_after, is_numeral, number_of}
use Rattle.world_model.specs.Spelling.{AreDigits, IsNumber}
use Rattle.world_model.proofs.Numerals.{own, numeral_digits, numeral_length}

-- what digits make, by the weight of their places
abbrev weighed : List ℕ → ℕ
weighed [] = 0
weighed (byte ∷ bytes) = (byte - 48) * 10 ^ length bytes + weighed bytes

by_weight : IsNumeralModel (λ digits. all_ascii_digits digits ≡ true) weighed
by_weight = numerals_by_weight _ tells_all_ascii_digits weighed (search rules)

folded_is_weighed : (digits : List ℕ) → all_ascii_digits digits ≡ true → digits_after 0 digits ≡ weighed digits
folded_is_weighed digits h = own.same digits (own.to digits h) ∙ sym (by_weight.same digits (by_weight.to digits h))

pub both : (a b : Bool) → a ≡ true → b ≡ true → (a && b) ≡ true
both true true p q = refl
both true false p q = q
both false b p q = p

pub both_parts : (a b : Bool) → (a && b) ≡ true → (a ≡ true) × (b ≡ true)
both_parts true b h = (refl, h)
both_parts false b h = cc

digit_test : (byte digit : ℕ) → digit < 10 → byte ≡ 48 + digit → is_ascii_digit byte ≡ true
digit_test byte digit small is = grind (arith, nat_tests)

AreDigits-test : (bytes : List ℕ) (n : ℕ) → AreDigits bytes n → all_ascii_digits bytes ≡ true
AreDigits-test [] n h = refl
AreDigits-test (byte ∷ bytes) n (digit, rest, small, is, others, sum) =
    both (is_ascii_digit byte) (all_ascii_digits bytes) (digit_test byte digit small is) (AreDigits-test bytes rest others)

AreDigits-value : (bytes : List ℕ) (n : ℕ) → AreDigits bytes n → n ≡ weighed bytes
AreDigits-value [] n h = h
AreDigits-value (byte ∷ bytes) n (digit, rest, small, is, others, sum) =
    let value : digit ≡ byte - 48 = omega arith in
    let after : rest ≡ weighed bytes = AreDigits-value bytes rest others in
    sum ∙ ap (λ d. d * 10 ^ length bytes + rest) value ∙ ap (λ r. (byte - 48) * 10 ^ length bytes + r) after

test-AreDigits : (bytes : List ℕ) → all_ascii_digits bytes ≡ true → AreDigits bytes (weighed bytes)
test-AreDigits [] h = refl
test-AreDigits (byte ∷ bytes) h =
    let parts = tells_all_ascii_digits.parts byte bytes h in
    let range : IsInRange 48 57 byte = parts.0 in
    (byte - 48, weighed bytes, omega (arith, range), omega (arith, range), test-AreDigits bytes parts.1, refl)

first_test : (byte : ℕ) → byte ≢ 48 → not (byte == 48) ≡ true
first_test byte other = grind (arith, nat_tests)

test_first : (byte : ℕ) → not (byte == 48) ≡ true → byte ≢ 48
test_first byte h is = grind (arith, nat_tests)

pub IsNumber-numeral : (word : List ℕ) (n : ℕ) → IsNumber word n → is_numeral word ≡ true
IsNumber-numeral [] n h = absurd h
IsNumber-numeral (byte ∷ []) n (small, is) = digit_test byte n small is
IsNumber-numeral (byte ∷ next ∷ bytes) n (first, digits, small) =
    both (not (byte == 48)) (all_ascii_digits (byte ∷ next ∷ bytes)) (first_test byte first) (AreDigits-test (byte ∷ next ∷ bytes) n digits)

IsNumber-value : (word : List ℕ) (n : ℕ) → IsNumber word n → digits_after 0 word ≡ n
IsNumber-value [] n h = absurd h
IsNumber-value (byte ∷ []) n (small, is) = omega arith
IsNumber-value (byte ∷ next ∷ bytes) n (first, digits, small) =
    folded_is_weighed (byte ∷ next ∷ bytes) (AreDigits-test (byte ∷ next ∷ bytes) n digits) ∙ sym (AreDigits-value (byte ∷ next ∷ bytes) n digits)

pub IsNumber-small : (word : List ℕ) (n : ℕ) → IsNumber word n → n < 2 ^ 64
IsNumber-small [] n h = absurd h
IsNumber-small (byte ∷ []) n (small, is) = omega arith
IsNumber-small (byte ∷ next ∷ bytes) n (first, digits, small) = small

numeral-IsNumber : (word : List ℕ) (n : ℕ) → is_numeral word ≡ true → digits_after 0 word ≡ n → n < 2 ^ 64 → IsNumber word n
numeral-IsNumber [] n numeral value small = cc
numeral-IsNumber (byte ∷ []) n numeral value small = one byte n numeral value where
  one : (byte n : ℕ) → is_ascii_digit byte ≡ true → 10 * 0 + (byte - 48) ≡ n → (n < 10) × (byte ≡ 48 + n)
  one byte n test value = grind (arith, nat_tests)
numeral-IsNumber (byte ∷ next ∷ bytes) n numeral value small =
    let word = byte ∷ next ∷ bytes in
    let parts = both_parts (not (byte == 48)) (all_ascii_digits word) numeral in
    let is : weighed word ≡ n = sym (folded_is_weighed word parts.1) ∙ value in
    (test_first byte parts.0, subst (λ m. AreDigits word m) is (test-AreDigits word parts.1), small)

taken : (numeral : Bool) (value n : ℕ) → numeral ≡ true → value ≡ n → n < 2 ^ 64
    → (if numeral && nat_lt value (2 ^ 64) then Some value else None) ≡ Some n
taken numeral value n is same small = grind (arith, nat_tests)

given : (numeral : Bool) (value n : ℕ) → (if numeral && nat_lt value (2 ^ 64) then Some value else None) ≡ Some n
    → (numeral ≡ true) × (value ≡ n) × (n < 2 ^ 64)
given numeral value n h = grind (arith, nat_tests)

-- what is spelled is read
pub IsNumber-read : (word : List ℕ) (n : ℕ) → IsNumber word n → number_of word ≡ Some n
IsNumber-read word n h =
    taken (is_numeral word) (digits_after 0 word) n (IsNumber-numeral word n h) (IsNumber-value word n h) (IsNumber-small word n h)

-- what is read is spelled
pub read-IsNumber : (word : List ℕ) (n : ℕ) → number_of word ≡ Some n → IsNumber word n
read-IsNumber word n h =
    let parts = given (is_numeral word) (digits_after 0 word) n h in
    numeral-IsNumber word n parts.0 parts.1 parts.2

-- a word is read as a number exactly where it spells it
pub number_is_read : (word : List ℕ) (n : ℕ) → (number_of word ≡ Some n) ↔ IsNumber word n
number_is_read word n = (read-IsNumber word n, IsNumber-read word n)

one_zero : (word : List ℕ) → is_numeral word ≡ true → get_or word 0 0 ≡ 48 → length word ≡ 1
one_zero [] numeral first = cc
one_zero (byte ∷ []) numeral first = refl
one_zero (byte ∷ next ∷ bytes) numeral first =
    absurd (test_first byte (both_parts (not (byte == 48)) (all_ascii_digits (byte ∷ next ∷ bytes)) numeral).0 first)

-- a number has one spelling, the one that is printed
pub IsNumber-decimal : (word : List ℕ) (n : ℕ) → IsNumber word n → word ≡ decimal n
IsNumber-decimal word n h =
    let numeral = IsNumber-numeral word n h in
    let value : digits_after 0 word ≡ n = IsNumber-value word n h in
    let small : digits_after 0 word < 2 ^ 64 = subst (λ m. m < 2 ^ 64) (sym value) (IsNumber-small word n h) in
    sym (decimal-digits_value own word (numeral_digits word numeral) (numeral_length word numeral) (one_zero word numeral) small) ∙ ap decimal value

digits-numeral : (word : List ℕ) → all_ascii_digits word ≡ true → 0 < length word → 48 < get_or word 0 0 → is_numeral word ≡ true
digits-numeral [] digits some first = absurd (omega arith)
digits-numeral (byte ∷ []) digits some first = (both_parts (is_ascii_digit byte) true digits).0
digits-numeral (byte ∷ next ∷ bytes) digits some first =
    both (not (byte == 48)) (all_ascii_digits (byte ∷ next ∷ bytes)) (first_test byte (λ is. omega (arith, is, first))) digits

-- what is printed is spelled
pub decimal-IsNumber : (n : ℕ) → n < 2 ^ 64 → IsNumber (decimal n) n
decimal-IsNumber zero small = subst (λ word. IsNumber word 0) (sym (decimal_digit 0 (omega arith))) (omega arith, refl)
decimal-IsNumber (suc n) small =
    let digits = digits_decimal own (suc n) small in
    let numeral : is_numeral (decimal (suc n)) ≡ true =
    digits-numeral (decimal (suc n)) digits (decimal_nonempty (suc n) small) (first_decimal (suc n) (omega arith) small) in
    numeral-IsNumber (decimal (suc n)) (suc n) numeral (digits_value-decimal own (suc n) small) small

-- a digit isn't a byte below 0, as a blank and a line feed are
no_digit : (c : ℕ) (bytes : List ℕ) → c < 48 → all_ascii_digits bytes ≡ true → All (λ byte. (byte == c) ≡ false) bytes
no_digit c [] low digits = All-nil (λ byte. (byte == c) ≡ false)
no_digit c (byte ∷ bytes) low digits =
    let parts = both_parts (is_ascii_digit byte) (all_ascii_digits bytes) digits in
    All-cons (λ byte. (byte == c) ≡ false) byte bytes (other byte c low parts.0) (no_digit c bytes low parts.1) where
      other : (byte c : ℕ) → c < 48 → is_ascii_digit byte ≡ true → (byte == c) ≡ false
      other byte c low digit = grind (arith, nat_tests)

pub number_without : (c : ℕ) (word : List ℕ) (n : ℕ) → c < 48 → IsNumber word n → All (λ byte. (byte == c) ≡ false) word
number_without c word n low h = no_digit c word low (numeral_digits word (IsNumber-numeral word n h))
