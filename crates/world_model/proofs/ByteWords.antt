-- Bytes as words of digits: what reads them and what spells them say the same.
use Rattle.std.proofs.Common.{◌≡◌, ◌⊎◌, inl, inr, ℕ, zero, suc, ◌+◌, ◌*◌, ◌/◌, ◌%◌, ◌<◌, ◌≤◌, List, [], ◌∷◌, Bool, true, false, not, ◌&&◌, ◌||◌, length, refl, ap, ◌∙◌, sym, subst, arith, Option, None, Some, Result, Ok, Err}
use Rattle.std.specs.Prelude.{◌==◌, nat_eq, nat_lt, slice_index, codes, if◌then◌else◌, All}
use Rattle.std.specs.Char.{is_ascii_uppercase}
use Rattle.std.specs.List.{list_any}
use Rattle.std.specs.Str.{bytes_eq}
use Rattle.std.proofs.lemmas.Bool.{and_parts, cases_lt}
use Rattle.std.proofs.lemmas.Bool.Decides.{nat_tests}
use Rattle.std.proofs.lemmas.List.Elements.{All-nil, All-cons}
use Rattle.std.proofs.lemmas.Slice.Eq.{bytes_eq-Decides}
use Rattle.hex.specs.Hex.{IsBytes, decode_of, decode_pairs, digit_or_error, encode_lower, encode_with, hex_digit_value, lower_digits, ◌>>=◌}
use Rattle.hex.specs.declared.error.FromHexError.{FromHexError}
use Rattle.hex.specs.declared.error.FromHexError.TheVariants.{OddLength}
use Rattle.hex.proofs.HexLemmas.{IsDigits-lower_digits, decode_of-encode_lower, decode_pairs-ok, length-encode_with}
use Rattle.world_model.specs.Calls.{bytes_in, digits_in, if_decoded}
use Rattle.world_model.specs.Lines.{bytes_word}

-- ---- digits

-- the lower case digit of a number below 16
abbrev IsDigit : ℕ → ℕ → Type 0
IsDigit byte n = ((n < 10) × (byte ≡ 48 + n)) ⊎ ((10 ≤ n) × (n < 16) × (byte ≡ 87 + n))

value_digit : (c v : ℕ) → is_ascii_uppercase c ≡ false → hex_digit_value c ≡ Some v → IsDigit c v
value_digit c v lower h = grind (arith, nat_tests)

digit_without : (c byte v : ℕ) → c < 48 → IsDigit byte v → (byte == c) ≡ false
digit_without c byte v low (inl (small, is)) = grind (arith, nat_tests)
digit_without c byte v low (inr (big, small, is)) = grind (arith, nat_tests)

digit_lower : (byte v : ℕ) → IsDigit byte v → is_ascii_uppercase byte ≡ false
digit_lower byte v (inl (small, is)) = grind (arith, nat_tests)
digit_lower byte v (inr (big, small, is)) = grind (arith, nat_tests)

digit_small : (byte v : ℕ) → IsDigit byte v → v < 16
digit_small byte v (inl (small, is)) = omega arith
digit_small byte v (inr (big, small, is)) = small

one_digit : (a b v : ℕ) → IsDigit a v → IsDigit b v → a ≡ b
one_digit a b v (inl (small, is)) (inl (_, as_well)) = is ∙ sym as_well
one_digit a b v (inl (small, is)) (inr (big, _, as_well)) = absurd (omega arith)
one_digit a b v (inr (big, _, is)) (inl (small, as_well)) = absurd (omega arith)
one_digit a b v (inr (big, _, is)) (inr (_, _, as_well)) = is ∙ sym as_well

-- ---- the digits that are printed

all_lower : ℕ → Bool
all_lower zero = true
all_lower (suc n) = not (is_ascii_uppercase (slice_index lower_digits n)) && all_lower n

is_not : (b : Bool) → not b ≡ true → b ≡ false
is_not true h = cc
is_not false h = refl

lower_at : (n k : ℕ) → all_lower n ≡ true → k < n → is_ascii_uppercase (slice_index lower_digits k) ≡ false
unfolding all_lower
lower_at zero k h lt = absurd (omega arith)
lower_at (suc n) k h lt =
    let parts = and_parts (not (is_ascii_uppercase (slice_index lower_digits n))) (all_lower n) h in
    elim (cases_lt k n) [
      | inl below ↦ lower_at n k parts.1 below
      | inr top ↦
          let same : k ≡ n = omega arith in
          subst (λ i. is_ascii_uppercase (slice_index lower_digits i) ≡ false) (sym same) (is_not (is_ascii_uppercase (slice_index lower_digits n)) parts.0)
    ]

all_are_lower : all_lower 16 ≡ true
unfolding all_lower
all_are_lower = refl

digit_of : (v : ℕ) → v < 16 → IsDigit (slice_index lower_digits v) v
digit_of v small = value_digit (slice_index lower_digits v) v (lower_at 16 v all_are_lower small) (IsDigits-lower_digits v small)

high_digit : (byte : ℕ) → byte < 256 → IsDigit (slice_index lower_digits (byte / 16)) (byte / 16)
high_digit byte small = digit_of (byte / 16) (omega arith)

low_digit : (byte : ℕ) → IsDigit (slice_index lower_digits (byte % 16)) (byte % 16)
low_digit byte = digit_of (byte % 16) (omega arith)

no_upper : (bytes : List ℕ) → IsBytes bytes → list_any is_ascii_uppercase (encode_lower bytes) ≡ false
unfolding encode_with
no_upper [] h = refl
no_upper (byte ∷ bytes) h =
    let small : byte < 256 = h 0 in
    let first : ℕ = slice_index lower_digits (byte / 16) in
    let second : ℕ = slice_index lower_digits (byte % 16) in
    ap (λ test. test || (is_ascii_uppercase second || list_any is_ascii_uppercase (encode_lower bytes))) (digit_lower first (byte / 16) (high_digit byte small))
    ∙ ap (λ test. test || list_any is_ascii_uppercase (encode_lower bytes)) (digit_lower second (byte % 16) (low_digit byte))
    ∙ no_upper bytes (λ k. h (suc k))

-- a word of bytes has no byte below 45, as a blank and a line feed are
digits_without : (c : ℕ) (bytes : List ℕ) → c < 48 → IsBytes bytes → All (λ byte. (byte == c) ≡ false) (encode_lower bytes)
unfolding encode_with
digits_without c [] low h = All-nil (λ byte. (byte == c) ≡ false)
digits_without c (byte ∷ bytes) low h =
    let small : byte < 256 = h 0 in
    let first : ℕ = slice_index lower_digits (byte / 16) in
    let second : ℕ = slice_index lower_digits (byte % 16) in
    All-cons (λ byte. (byte == c) ≡ false) first (second ∷ encode_lower bytes) (digit_without c first (byte / 16) low (high_digit byte small))
    (All-cons (λ byte. (byte == c) ≡ false) second (encode_lower bytes) (digit_without c second (byte % 16) low (low_digit byte)) (digits_without c bytes low (λ k. h (suc k))))

pub bytes_without : (c : ℕ) (bytes : List ℕ) → c < 45 → IsBytes bytes → All (λ byte. (byte == c) ≡ false) (bytes_word bytes)
bytes_without c [] low h = All-cons (λ byte. (byte == c) ≡ false) 45 [] (other c low) (All-nil (λ byte. (byte == c) ≡ false)) where
  other : (c : ℕ) → c < 45 → (45 == c) ≡ false
  other c low = grind (arith, nat_tests)
bytes_without c (byte ∷ bytes) low h = digits_without c (byte ∷ bytes) (omega arith) h

-- ---- what is spelled is read

no_dash : (word : List ℕ) → 2 ≤ length word → bytes_eq word (codes "-") ≡ false
no_dash [] h = absurd (omega (arith, h))
no_dash (first ∷ []) h = absurd (omega (arith, h))
no_dash (first ∷ second ∷ word) h = fails (nat_eq first 45) where
  fails : (test : Bool) → (test && false) ≡ false
  fails true = refl
  fails false = refl

digits_pass : (most : ℕ) (word bytes : List ℕ) → 0 < length word → length word / 2 ≤ most → list_any is_ascii_uppercase word ≡ false
    → decode_of word ≡ Ok bytes → digits_in most word ≡ Some bytes
digits_pass most word bytes some short lower decoded =
    ap (λ test. if test then None else if_decoded (decode_of word)) (passes (length word) (length word / 2) most (list_any is_ascii_uppercase word) some short lower)
    ∙ ap if_decoded decoded where
      passes : (size half most : ℕ) (upper : Bool) → 0 < size → half ≤ most → upper ≡ false → (size == 0 || nat_lt most half || upper) ≡ false
      passes size half most upper some short lower = grind (arith, nat_tests)

pub bytes_read : (most : ℕ) (bytes : List ℕ) → IsBytes bytes → length bytes ≤ most → bytes_in most (bytes_word bytes) ≡ Some bytes
bytes_read most [] h short = refl
bytes_read most (byte ∷ bytes) h short =
    let word : List ℕ = encode_lower (byte ∷ bytes) in
    let size : length word ≡ 2 * length (byte ∷ bytes) = length-encode_with lower_digits (byte ∷ bytes) in
    ap (λ test. if test then Some [] else digits_in most word) (no_dash word (omega (arith, size)))
    ∙ digits_pass most word (byte ∷ bytes) (omega (arith, size)) (omega (arith, size, short)) (no_upper (byte ∷ bytes) h) (decode_of-encode_lower (byte ∷ bytes) h)

-- ---- what is read is spelled

-- the digits and the bytes of what was decoded
record Decoded (high low : Option ℕ) (rest : Result (List ℕ) FromHexError) (bytes : List ℕ) : Type 0 where
  first : ℕ
  second : ℕ
  more : List ℕ
  is_first : high ≡ Some first
  is_second : low ≡ Some second
  is_rest : rest ≡ Ok more
  are : (first * 16 + second) ∷ more ≡ bytes

parts_of : (a b i : ℕ) (high low : Option ℕ) (rest : Result (List ℕ) FromHexError) (bytes : List ℕ)
    → ((digit_or_error a i high >>= (λ h. digit_or_error b (i + 1) low >>= (λ l. Ok (h * 16 + l)))) >>= (λ byte. rest >>= (λ more. Ok (byte ∷ more)))) ≡ Ok bytes
    → Decoded high low rest bytes
parts_of a b i None low rest bytes h = cc
parts_of a b i (Some high) None rest bytes h = cc
parts_of a b i (Some high) (Some low) (Err e) bytes h = cc
parts_of a b i (Some high) (Some low) (Ok more) bytes h =
    record { first = high; second = low; more = more; is_first = refl; is_second = refl; is_rest = refl; are = cc }

both_lower : (a b : Bool) → (a || b) ≡ false → (a ≡ false) × (b ≡ false)
both_lower true b h = cc
both_lower false b h = (refl, h)

-- the digits of a byte are printed of it
digits_printed : (a b high low : ℕ) → IsDigit a high → IsDigit b low
    → (a ≡ slice_index lower_digits ((high * 16 + low) / 16)) × (b ≡ slice_index lower_digits ((high * 16 + low) % 16))
digits_printed a b high low is_a is_b =
    let small_high = digit_small a high is_a in
    let small_low = digit_small b low is_b in
    let same_high : (high * 16 + low) / 16 ≡ high = omega arith in
    let same_low : (high * 16 + low) % 16 ≡ low = omega arith in (
      one_digit a (slice_index lower_digits high) high is_a (digit_of high small_high) ∙ sym (ap (slice_index lower_digits) same_high),
      one_digit b (slice_index lower_digits low) low is_b (digit_of low small_low) ∙ sym (ap (slice_index lower_digits) same_low),
    )

decoded_printed : (i : ℕ) (word bytes : List ℕ) → list_any is_ascii_uppercase word ≡ false → decode_pairs i word ≡ Ok bytes → word ≡ encode_lower bytes
unfolding decode_pairs encode_with
decoded_printed i [] [] lower h = refl
decoded_printed i [] (byte ∷ bytes) lower h = cc
decoded_printed i (first ∷ []) bytes lower h = cc
decoded_printed i (first ∷ second ∷ word) bytes lower h =
    let d = parts_of first second i (hex_digit_value first) (hex_digit_value second) (decode_pairs (i + 2) word) bytes h in
    let l = both_lower (is_ascii_uppercase first) (is_ascii_uppercase second || list_any is_ascii_uppercase word) lower in
    let m = both_lower (is_ascii_uppercase second) (list_any is_ascii_uppercase word) l.1 in
    let p = digits_printed first second d.first d.second (value_digit first d.first l.0 d.is_first) (value_digit second d.second m.0 d.is_second) in
    ap (λ x. x ∷ second ∷ word) p.0 ∙ ap (λ x. slice_index lower_digits ((d.first * 16 + d.second) / 16) ∷ x ∷ word) p.1
    ∙ ap (λ x. slice_index lower_digits ((d.first * 16 + d.second) / 16) ∷ slice_index lower_digits ((d.first * 16 + d.second) % 16) ∷ x)
    (decoded_printed (i + 2) word d.more m.1 d.is_rest)
    ∙ ap encode_lower d.are

-- how a word that was read is spelled, and that it is in range
pub record IsRead (most : ℕ) (word bytes : List ℕ) : Type 0 where
  pub is : word ≡ bytes_word bytes
  pub short : length bytes ≤ most
  pub are : IsBytes bytes

in_pairs : (word bytes : List ℕ) → decode_of word ≡ Ok bytes → decode_pairs 0 word ≡ Ok bytes
in_pairs word bytes = by_test (length word % 2 == 1) (decode_pairs 0 word) where
  by_test : (odd : Bool) (pairs : Result (List ℕ) FromHexError) → (if odd then Err OddLength else pairs) ≡ Ok bytes → pairs ≡ Ok bytes
  by_test true pairs h = cc
  by_test false pairs h = h

digits_taken : (size half most : ℕ) (upper : Bool) (decoded : Result (List ℕ) FromHexError) (bytes : List ℕ)
    → (if size == 0 || nat_lt most half || upper then None else if_decoded decoded) ≡ Some bytes
    → (0 < size) × (half ≤ most) × (upper ≡ false) × (decoded ≡ Ok bytes)
digits_taken size half most upper (Err e) bytes h = absurd (none (size == 0 || nat_lt most half || upper) h) where
  none : (test : Bool) → (if test then None else None) ≡ Some bytes → ⊥
  none true h = cc
  none false h = cc
digits_taken size half most upper (Ok decoded) bytes h = grind (arith, nat_tests)

digits_read : (most : ℕ) (word bytes : List ℕ) → digits_in most word ≡ Some bytes → IsRead most word bytes
digits_read most word bytes h =
    let t = digits_taken (length word) (length word / 2) most (list_any is_ascii_uppercase word) (decode_of word) bytes h in
    let pairs = in_pairs word bytes t.3 in
    let (_, size, are) = decode_pairs-ok 0 word bytes pairs in
    record { is = decoded_printed 0 word bytes t.2 pairs ∙ as_word bytes (omega (arith, size, t.0)); short = omega (arith, size, t.1); are = are } where
      as_word : (bytes : List ℕ) → 0 < length bytes → encode_lower bytes ≡ bytes_word bytes
      as_word [] some = absurd (omega (arith, some))
      as_word (byte ∷ bytes) some = refl

pub read_bytes : (most : ℕ) (word bytes : List ℕ) → bytes_in most word ≡ Some bytes → IsRead most word bytes
read_bytes most word bytes = by_test (bytes_eq word (codes "-")) refl where
  no_bytes : (bytes : List ℕ) → word ≡ codes "-" → [] ≡ bytes → IsRead most word bytes
  no_bytes [] dash same = record { is = dash; short = omega arith; are = λ i. omega arith }
  no_bytes (byte ∷ bytes) dash same = cc

  by_test : (test : Bool) → bytes_eq word (codes "-") ≡ test → (if test then Some [] else digits_in most word) ≡ Some bytes → IsRead most word bytes
  by_test true is h = no_bytes bytes ((bytes_eq-Decides word (codes "-")).0 is) cc
  by_test false is h = digits_read most word bytes h
