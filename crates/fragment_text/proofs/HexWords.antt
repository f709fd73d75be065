-- Words of hexadecimal digits: what reads them and what spells them say the same.
use Rattle.std.proofs.Common.{◌≡◌, ◌≢◌, inl, inr, cond, ℕ, zero, suc, ◌+◌, ◌*◌, ◌<◌, List, [], ◌∷◌, Bool, true, false, ◌||◌, length, refl, ap, ◌∙◌, sym, subst, arith, Option, None, Some, Result, Ok, Err}
use Rattle.std.specs.Prelude.{◌==◌, ◌%◌, codes, if◌then◌else◌, All}
use Rattle.std.specs.Char.{is_ascii_uppercase}
use Rattle.std.specs.List.{list_any}
use Rattle.std.specs.Str.{bytes_eq}
use Rattle.std.proofs.lemmas.Bool.{ne_eqb}
use Rattle.std.proofs.lemmas.Bool.Decides.{nat_tests}
use Rattle.std.proofs.lemmas.List.Elements.{All-nil, All-cons}
use Rattle.std.proofs.lemmas.Slice.Eq.{bytes_eq-Decides}
use Rattle.hex.specs.Hex.{decode_pairs, decode_sized, digit_or_error, hex_digit_value, ◌>>=◌}
use Rattle.hex.specs.declared.error.FromHexError.{FromHexError}
use Rattle.hex.proofs.HexLemmas.{decode_of-even, decode_sized-twice, decode_sized-ok}
use Rattle.fragment_text.specs.Said.{bytes_of, if_decoded}
use Rattle.fragment_text.specs.Spelling.{IsHexDigit, AreHexDigits, IsBytesWord}

-- ---- digits

digit_value : (c v : ℕ) → IsHexDigit c v → hex_digit_value c ≡ Some v
digit_value c v (inl (small, is)) = grind (arith, nat_tests)
digit_value c v (inr (big, small, is)) = grind (arith, nat_tests)

pub value_digit : (c v : ℕ) → is_ascii_uppercase c ≡ false → hex_digit_value c ≡ Some v → IsHexDigit c v
value_digit c v lower h = grind (arith, nat_tests)

-- a digit is no byte below 48, as a blank and a line feed are
digit_without : (c byte v : ℕ) → c < 48 → IsHexDigit byte v → (byte == c) ≡ false
digit_without c byte v low (inl (small, is)) = grind (arith, nat_tests)
digit_without c byte v low (inr (big, small, is)) = grind (arith, nat_tests)

digit_lower : (byte v : ℕ) → IsHexDigit byte v → is_ascii_uppercase byte ≡ false
digit_lower byte v (inl (small, is)) = grind (arith, nat_tests)
digit_lower byte v (inr (big, small, is)) = grind (arith, nat_tests)

digit_small : (byte v : ℕ) → IsHexDigit byte v → v < 16
digit_small byte v (inl (small, is)) = omega arith
digit_small byte v (inr (big, small, is)) = small

one_digit : (a b v : ℕ) → IsHexDigit a v → IsHexDigit b v → a ≡ b
one_digit a b v (inl (small, is)) (inl (_, as_well)) = is ∙ sym as_well
one_digit a b v (inl (small, is)) (inr (big, _, as_well)) = absurd (omega arith)
one_digit a b v (inr (big, _, is)) (inl (small, as_well)) = absurd (omega arith)
one_digit a b v (inr (big, _, is)) (inr (_, _, as_well)) = is ∙ sym as_well

-- ---- pairs of digits

pub digits_length : (digits bytes : List ℕ) → AreHexDigits digits bytes → length digits ≡ 2 * length bytes
digits_length [] [] h = refl
digits_length [] (byte ∷ bytes) h = absurd h
digits_length (first ∷ []) [] h = absurd h
digits_length (first ∷ []) (byte ∷ bytes) h = absurd h
digits_length (first ∷ second ∷ digits) [] h = absurd h
digits_length (first ∷ second ∷ digits) (byte ∷ bytes) (high, low, is_high, is_low, is, others) = omega (arith, digits_length digits bytes others)

digits_without : (c : ℕ) (digits bytes : List ℕ) → c < 48 → AreHexDigits digits bytes → All (λ byte. (byte == c) ≡ false) digits
digits_without c [] bytes small h = All-nil (λ byte. (byte == c) ≡ false)
digits_without c (first ∷ []) [] small h = absurd h
digits_without c (first ∷ []) (byte ∷ bytes) small h = absurd h
digits_without c (first ∷ second ∷ digits) [] small h = absurd h
digits_without c (first ∷ second ∷ digits) (byte ∷ bytes) small (high, low, is_high, is_low, is, others) =
    All-cons (λ byte. (byte == c) ≡ false) first (second ∷ digits) (digit_without c first high small is_high)
    (All-cons (λ byte. (byte == c) ≡ false) second digits (digit_without c second low small is_low) (digits_without c digits bytes small others))

digits_lower : (digits bytes : List ℕ) → AreHexDigits digits bytes → list_any is_ascii_uppercase digits ≡ false
digits_lower [] bytes h = refl
digits_lower (first ∷ []) [] h = absurd h
digits_lower (first ∷ []) (byte ∷ bytes) h = absurd h
digits_lower (first ∷ second ∷ digits) [] h = absurd h
digits_lower (first ∷ second ∷ digits) (byte ∷ bytes) (high, low, is_high, is_low, is, others) =
    ap (λ test. test || (is_ascii_uppercase second || list_any is_ascii_uppercase digits)) (digit_lower first high is_high)
    ∙ ap (λ test. test || list_any is_ascii_uppercase digits) (digit_lower second low is_low)
    ∙ digits_lower digits bytes others

-- bytes have one spelling
pub one_hex : (digits other bytes : List ℕ) → AreHexDigits digits bytes → AreHexDigits other bytes → digits ≡ other
one_hex [] [] bytes h k = refl
one_hex [] (first ∷ []) [] h k = absurd k
one_hex [] (first ∷ []) (byte ∷ bytes) h k = absurd k
one_hex [] (first ∷ second ∷ other) [] h k = absurd k
one_hex [] (first ∷ second ∷ other) (byte ∷ bytes) h k = absurd h
one_hex (first ∷ []) other [] h k = absurd h
one_hex (first ∷ []) other (byte ∷ bytes) h k = absurd h
one_hex (first ∷ second ∷ digits) other [] h k = absurd h
one_hex (first ∷ second ∷ digits) [] (byte ∷ bytes) h k = absurd k
one_hex (first ∷ second ∷ digits) (a ∷ []) (byte ∷ bytes) h k = absurd k
one_hex (first ∷ second ∷ digits) (a ∷ b ∷ other) (byte ∷ bytes) (high, low, is_high, is_low, is, others) (h, l, is_h, is_l, as_well, others_too) =
    let small_l = digit_small second low is_low in
    let small_m = digit_small b l is_l in
    let same_high : h ≡ high = omega arith in
    let same_low : l ≡ low = omega arith in
    ap (λ x. x ∷ second ∷ digits) (one_digit first a high is_high (subst (IsHexDigit a) same_high is_h))
    ∙ ap (λ x. a ∷ x ∷ digits) (one_digit second b low is_low (subst (IsHexDigit b) same_low is_l))
    ∙ ap (λ x. a ∷ b ∷ x) (one_hex digits other bytes others others_too)

-- what is spelled is decoded
digits_decoded : (i : ℕ) (digits bytes : List ℕ) → AreHexDigits digits bytes → decode_pairs i digits ≡ Ok bytes
unfolding decode_pairs
digits_decoded i [] [] h = refl
digits_decoded i [] (byte ∷ bytes) h = absurd h
digits_decoded i (first ∷ []) [] h = absurd h
digits_decoded i (first ∷ []) (byte ∷ bytes) h = absurd h
digits_decoded i (first ∷ second ∷ digits) [] h = absurd h
digits_decoded i (first ∷ second ∷ digits) (byte ∷ bytes) (high, low, is_high, is_low, is, others) =
    let whole : high * 16 + low ≡ byte = omega arith in
    let is_first = digit_value first high is_high in
    let is_second = digit_value second low is_low in
    let is_rest = digits_decoded (i + 2) digits bytes others in
    rw (is_first, is_second, is_rest) (ap (λ (b : ℕ). Ok (b ∷ bytes)) whole)

-- the digits and the bytes of what was decoded
record Decoded (high low : Option ℕ) (rest : Result (List ℕ) FromHexError) (bytes : List ℕ) : Type 0 where
  first : ℕ
  second : ℕ
  more : List ℕ
  is_first : high ≡ Some first
  is_second : low ≡ Some second
  is_rest : rest ≡ Ok more
  are : (first * 16 + second) ∷ more ≡ bytes

parts_of : (a b i : ℕ) (high low : Option ℕ) (rest : Result (List ℕ) FromHexError) (bytes : List ℕ)
    → ((digit_or_error a i high >>= (λ h. digit_or_error b (i + 1) low >>= (λ l. Ok (h * 16 + l)))) >>= (λ byte. rest >>= (λ more. Ok (byte ∷ more)))) ≡ Ok bytes
    → Decoded high low rest bytes
parts_of a b i None low rest bytes h = cc
parts_of a b i (Some high) None rest bytes h = cc
parts_of a b i (Some high) (Some low) (Err e) bytes h = cc
parts_of a b i (Some high) (Some low) (Ok more) bytes h =
    record { first = high; second = low; more = more; is_first = refl; is_second = refl; is_rest = refl; are = cc }

both_lower : (a b : Bool) → (a || b) ≡ false → (a ≡ false) × (b ≡ false)
both_lower true b h = cc
both_lower false b h = (refl, h)

-- what is decoded is spelled, where the digits are lower case
decoded_digits : (i : ℕ) (digits bytes : List ℕ) → list_any is_ascii_uppercase digits ≡ false → decode_pairs i digits ≡ Ok bytes → AreHexDigits digits bytes
unfolding decode_pairs
decoded_digits i [] [] lower h = tt
decoded_digits i [] (byte ∷ bytes) lower h = cc
decoded_digits i (first ∷ []) bytes lower h = cc
decoded_digits i (first ∷ second ∷ digits) bytes lower h =
    let d = parts_of first second i (hex_digit_value first) (hex_digit_value second) (decode_pairs (i + 2) digits) bytes h in
    let l = both_lower (is_ascii_uppercase first) (is_ascii_uppercase second || list_any is_ascii_uppercase digits) lower in
    let m = both_lower (is_ascii_uppercase second) (list_any is_ascii_uppercase digits) l.1 in
    let whole : d.first * 16 + d.second ≡ 16 * d.first + d.second = omega arith in
    subst (AreHexDigits (first ∷ second ∷ digits)) d.are
    (d.first, d.second, value_digit first d.first l.0 d.is_first, value_digit second d.second m.0 d.is_second, whole, decoded_digits (i + 2) digits d.more m.1 d.is_rest)

-- ---- words

-- a word of bytes has no byte below 45, as a blank and a line feed are
pub word_without : (c : ℕ) (word bytes : List ℕ) → c < 45 → IsBytesWord word bytes → All (λ byte. (byte == c) ≡ false) word
word_without c word [] small h = subst (All (λ byte. (byte == c) ≡ false)) (sym h) (All-cons (λ byte. (byte == c) ≡ false) 45 [] (other c small) (All-nil (λ byte. (byte == c) ≡ false))) where
  other : (c : ℕ) → c < 45 → (45 == c) ≡ false
  other c small = grind (arith, nat_tests)
word_without c word (byte ∷ bytes) small h = digits_without c word (byte ∷ bytes) (omega arith) h

pub one_word : (word other bytes : List ℕ) → IsBytesWord word bytes → IsBytesWord other bytes → word ≡ other
one_word word other [] h k = h ∙ sym k
one_word word other (byte ∷ bytes) h k = one_hex word other (byte ∷ bytes) h k

-- the bytes of a word where there are some
bytes_of-some : (size : ℕ) (word : List ℕ) → 0 < size → bytes_of size word ≡ (if list_any is_ascii_uppercase word then None else if_decoded (decode_sized word size))
bytes_of-some size word some =
    let ne : size ≢ 0 = omega arith in
    let none : Option (List ℕ) = if bytes_eq word (codes "-") then Some [] else None in
    ap (λ test. cond test none (cond (list_any is_ascii_uppercase word) None (if_decoded (decode_sized word size)))) (ne_eqb size 0 ne)

-- what is spelled is read
pub word_read : (word bytes : List ℕ) → IsBytesWord word bytes → bytes_of (length bytes) word ≡ Some bytes
word_read word [] h = ap (λ test. if test then Some [] else None) ((bytes_eq-Decides word (codes "-")).1 h)
word_read word (byte ∷ bytes) h =
    let size = digits_length word (byte ∷ bytes) h in
    let even : length word % 2 ≡ 0 = omega arith in
    let decoded : decode_sized word (length (byte ∷ bytes)) ≡ Ok (byte ∷ bytes) =
    decode_sized-twice word (length (byte ∷ bytes)) size ∙ decode_of-even word even ∙ digits_decoded 0 word (byte ∷ bytes) h in
    bytes_of-some (length (byte ∷ bytes)) word (omega arith)
    ∙ ap (λ test. if test then None else if_decoded (decode_sized word (length (byte ∷ bytes)))) (digits_lower word (byte ∷ bytes) h)
    ∙ ap if_decoded decoded

-- the bytes of digits are spelled by them, as many as were asked for
digits_word : (size : ℕ) (word bytes : List ℕ) → 0 < size → (if list_any is_ascii_uppercase word then None else if_decoded (decode_sized word size)) ≡ Some bytes
    → IsBytesWord word bytes × (length bytes ≡ size)
digits_word size word bytes some h =
    by_test (list_any is_ascii_uppercase word) (decode_sized word size) refl refl h where
      decoded : (d : Result (List ℕ) FromHexError) → if_decoded d ≡ Some bytes → d ≡ Ok bytes
      decoded (Ok all) h = cc
      decoded (Err e) h = cc

      as_word : (bytes : List ℕ) → AreHexDigits word bytes → length bytes ≡ size → IsBytesWord word bytes
      as_word [] h is = absurd (omega arith)
      as_word (byte ∷ bytes) h is = h

      by_test : (upper : Bool) (d : Result (List ℕ) FromHexError) → list_any is_ascii_uppercase word ≡ upper → decode_sized word size ≡ d
          → (if upper then None else if_decoded d) ≡ Some bytes → IsBytesWord word bytes × (length bytes ≡ size)
      by_test true d lower is h = cc
      by_test false d lower is h =
          let ok : decode_sized word size ≡ Ok bytes = is ∙ decoded d h in
          let len : length word ≡ 2 * size = decode_sized-ok word size bytes ok in
          let even : length word % 2 ≡ 0 = omega arith in
          let pairs : decode_pairs 0 word ≡ Ok bytes = sym (decode_of-even word even) ∙ sym (decode_sized-twice word size len) ∙ ok in
          let spelled = decoded_digits 0 word bytes lower pairs in
          let long : length word ≡ 2 * length bytes = digits_length word bytes spelled in
          let same : length bytes ≡ size = omega arith in
          (as_word bytes spelled same, same)

-- what is read is spelled
pub read_word : (size : ℕ) (word bytes : List ℕ) → bytes_of size word ≡ Some bytes → IsBytesWord word bytes × (length bytes ≡ size)
read_word zero word bytes h = by_test (bytes_eq word (codes "-")) refl h where
  by_test : (test : Bool) → bytes_eq word (codes "-") ≡ test → (if test then Some [] else None) ≡ Some bytes → IsBytesWord word bytes × (length bytes ≡ 0)
  by_test true is h =
      let none : [] ≡ bytes = cc in
      (subst (IsBytesWord word) none ((bytes_eq-Decides word (codes "-")).0 is), ap length (sym none))
  by_test false is h = cc
read_word (suc size) word bytes h = digits_word (suc size) word bytes (omega arith) (sym (bytes_of-some (suc size) word (omega arith)) ∙ h)
