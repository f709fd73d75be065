-- The text of a value spells its length and its fragments, and they give the value back.
use Rattle.std.proofs.Common.{◌≡◌, inl, inr, ℕ, zero, suc, ◌+◌, ◌*◌, ◌<◌, ◌≤◌, List, [], ◌∷◌, ◌++◌, Bool, true, false, not, ◌&&◌, length, map, refl, ap, ◌∙◌, sym, subst, arith, append_assoc, length-append}
use Rattle.std.specs.Prelude.{◌/◌, ◌%◌, ◌^◌, codes, All, slice_index}
use Rattle.std.specs.Char.{is_ascii_uppercase}
use Rattle.std.specs.Fmt.{decimal}
use Rattle.std.specs.List.{concat, range_with_len}
use Rattle.std.proofs.lemmas.Bool.{and_parts, cases_lt}
use Rattle.std.proofs.lemmas.Fmt.{length-decimal-le}
use Rattle.std.proofs.lemmas.List.Elements.{All-nil, All-cons, All-head, All-tail, All-take}
use Rattle.std.proofs.lemmas.Nat.{mul-le}
use Rattle.std.proofs.lemmas.List.FromFn.{length-map-range_with_len}
use Rattle.hex.specs.Hex.{encode_lower, encode_with, lower_digits}
use Rattle.hex.proofs.HexLemmas.{IsDigits-lower_digits}
use Rattle.craft_base.specs.Parts.{part_length}
use Rattle.craft_base.specs.Shape.{Shape, IsShape, members_of}
use Rattle.entry_frames.specs.Limits.{longest_value}
use Rattle.rs_code.specs.Fragments.{fragment, coefficients, point_of}
use Rattle.rs_code.specs.Polynomials.{polynomial}
use Rattle.rs_code.proofs.Polynomials.{polynomial_lt}
use Rattle.world_model.specs.Lines.{line_of, bytes_word}
use Rattle.world_model.specs.Schedule.{longest_line}
use Rattle.world_model.specs.Spelling.{spaced}
use Rattle.world_model.proofs.Spelling.{decimal-IsNumber}
use Rattle.fragment_text.specs.Joining.{IsJoined}
use Rattle.fragment_text.specs.Said.{Said, Good, reading, first_parts}
use Rattle.fragment_text.specs.Spelling.{IsHexDigit, AreHexDigits, IsBytesWord, IsPartLine, ArePartLines, SpellsText, next_after}
use Rattle.fragment_text.specs.Texts.{fragment_line, split_text, fragment_part, said_of}
use Rattle.fragment_text.proofs.HexWords.{value_digit, digits_length}
use Rattle.fragment_text.proofs.Spelled.{text_is_read}

-- ---- digits that are printed

all_lower : ℕ → Bool
all_lower zero = true
all_lower (suc n) = not (is_ascii_uppercase (slice_index lower_digits n)) && all_lower n

lower_at : (n k : ℕ) → all_lower n ≡ true → k < n → is_ascii_uppercase (slice_index lower_digits k) ≡ false
unfolding all_lower
lower_at zero k h lt = absurd (omega arith)
lower_at (suc n) k h lt =
    let parts = and_parts (not (is_ascii_uppercase (slice_index lower_digits n))) (all_lower n) h in
    elim (cases_lt k n) [
      | inl below ↦ lower_at n k parts.1 below
      | inr top ↦
          let same : k ≡ n = omega arith in
          subst (λ i. is_ascii_uppercase (slice_index lower_digits i) ≡ false) (sym same) (is_not (is_ascii_uppercase (slice_index lower_digits n)) parts.0)
    ] where
      is_not : (b : Bool) → not b ≡ true → b ≡ false
      is_not true h = cc
      is_not false h = refl

all_are_lower : all_lower 16 ≡ true
unfolding all_lower
all_are_lower = refl

digit_of : (v : ℕ) → v < 16 → IsHexDigit (slice_index lower_digits v) v
digit_of v small = value_digit (slice_index lower_digits v) v (lower_at 16 v all_are_lower small) (IsDigits-lower_digits v small)

printed_digits : (bytes : List ℕ) → All (λ b. b < 256) bytes → AreHexDigits (encode_lower bytes) bytes
unfolding encode_with
printed_digits [] h = tt
printed_digits (byte ∷ bytes) h =
    let small : byte < 256 = All-head (λ b. b < 256) byte bytes h in
    (byte / 16, byte % 16, digit_of (byte / 16) (omega arith), digit_of (byte % 16) (omega arith), omega arith, printed_digits bytes (All-tail (λ b. b < 256) byte bytes h))

printed_word : (bytes : List ℕ) → All (λ b. b < 256) bytes → IsBytesWord (bytes_word bytes) bytes
printed_word [] h = refl
printed_word (byte ∷ bytes) h = printed_digits (byte ∷ bytes) h

printed_length : (bytes : List ℕ) → All (λ b. b < 256) bytes → length (bytes_word bytes) ≤ 2 * length bytes + 1
printed_length [] h = omega arith
printed_length (byte ∷ bytes) h = omega (arith, digits_length (encode_lower (byte ∷ bytes)) (byte ∷ bytes) (printed_digits (byte ∷ bytes) h))

-- ---- fragments

fragment_bytes : (f : ℕ → ℕ) (start n : ℕ) → ((place : ℕ) → f place < 256) → All (λ b. b < 256) (map f (range_with_len start n))
fragment_bytes f start zero small = All-nil (λ b. b < 256)
fragment_bytes f start (suc n) small = All-cons (λ b. b < 256) (f start) (map f (range_with_len (start + 1) n)) (small start) (fragment_bytes f (start + 1) n small)

are_bytes : (value : List ℕ) (need member : ℕ) → All (λ b. b < 256) (fragment value need member)
are_bytes value need member =
    let size = part_length (length value) need in
    fragment_bytes (λ place. polynomial (coefficients value size place) need (point_of member)) 0 size (λ place. polynomial_lt (coefficients value size place) need (point_of member))

fragment_length : (value : List ℕ) (need member : ℕ) → length (fragment value need member) ≡ part_length (length value) need
fragment_length value need member =
    let size = part_length (length value) need in
    length-map-range_with_len (λ place. polynomial (coefficients value size place) need (point_of member)) 0 size

-- ---- lines

-- words with their line feed, before more bytes
line_rest : (words : List (List ℕ)) (rest : List ℕ) → line_of words ++ rest ≡ spaced words ++ 10 ∷ rest
line_rest [] rest = refl
line_rest (word ∷ []) rest = append_assoc word (codes "\n") rest
line_rest (word ∷ next ∷ words) rest =
    append_assoc word (32 ∷ line_of (next ∷ words)) rest
    ∙ ap (λ l. word ++ 32 ∷ l) (line_rest (next ∷ words) rest)
    ∙ sym (append_assoc word (32 ∷ spaced (next ∷ words)) (10 ∷ rest))

few_members : (shape : Shape) → IsShape shape → members_of shape ≤ 15
few_members shape is = omega (arith, is.1)

-- a fragment is no longer than its value
fragment_short : (count need : ℕ) → 1 ≤ need → part_length count need ≤ count
fragment_short count need some =
    let quotient : 1 * (count / need) ≤ need * (count / need) = mul-le 1 (count / need) need (count / need) some (omega arith) in
    let whole : need * (count / need) + count % need ≡ count = omega arith in
    omega (arith, quotient, whole)

-- the line of a member's fragment is good
part_is_good : (shape : Shape) (value : List ℕ) (member : ℕ) → IsShape shape → length value ≤ longest_value → member < members_of shape
    → IsPartLine shape (length value) member (spaced (codes "part" ∷ decimal member ∷ bytes_word (fragment value shape.need member) ∷ [])) (fragment_part shape value member)
part_is_good shape value member is long inside =
    let bytes = fragment value shape.need member in
    let are = are_bytes value shape.need member in
    let few : members_of shape ≤ 15 = few_members shape is in
    let small : member < 2 ^ 64 = omega arith in
    let size = fragment_length value shape.need member in
    let fits = fragment_short (length value) shape.need is.2 in
    ((decimal member, bytes_word bytes, decimal-IsNumber member small, printed_word bytes are, refl), (omega arith, inside, size), short (decimal member) (bytes_word bytes) (length bytes) (length-decimal-le 2 member (omega arith) (omega arith) small) (printed_length bytes are) (omega (arith, size, fits, long))) where
      short : (number word : List ℕ) (count : ℕ) → length number ≤ 2 → length word ≤ 2 * count + 1 → count ≤ longest_value
          → length (spaced (codes "part" ∷ number ∷ word ∷ [])) + 1 ≤ longest_line
      short number word count few long most = omega (arith, length-append number (32 ∷ word))

-- the lines of the members from one on
parts_are_good : (shape : Shape) (value : List ℕ) (start n : ℕ) → IsShape shape → length value ≤ longest_value → start + n ≤ members_of shape
    → ArePartLines shape (length value) start (concat (map (fragment_line shape value) (range_with_len start n))) (map (fragment_part shape value) (range_with_len start n)) []
parts_are_good shape value start zero is long inside = refl
parts_are_good shape value start (suc n) is long inside =
    let bytes = fragment value shape.need start in
    let words = codes "part" ∷ decimal start ∷ bytes_word bytes ∷ [] in
    let others = concat (map (fragment_line shape value) (range_with_len (start + 1) n)) in (
      spaced words,
      others,
      line_rest words others,
      part_is_good shape value start is long (omega arith),
      parts_are_good shape value (start + 1) n is long (omega arith),
    )

last_next : (shape : Shape) (value : List ℕ) (start n : ℕ) → next_after start (map (fragment_part shape value) (range_with_len start n)) ≡ start + n
last_next shape value start zero = omega arith
last_next shape value start (suc n) = last_next shape value (start + 1) n ∙ omega arith

-- the text of a value spells its length and its fragments
pub split_is_spelled : (shape : Shape) (value : List ℕ) → IsShape shape → length value ≤ longest_value → SpellsText shape (split_text shape value) (said_of shape value)
split_is_spelled shape value is long =
    let words = codes "value" ∷ decimal (length value) ∷ [] in
    let others = concat (map (fragment_line shape value) (range_with_len 0 (members_of shape))) in
    let small : length value < 2 ^ 64 = omega arith in
    let digits = length-decimal-le 5 (length value) (omega arith) (omega arith) small in (
      (
        spaced words,
        others,
        line_rest words others,
        ((decimal (length value), decimal-IsNumber (length value) small, refl), long, short (decimal (length value)) digits),
        parts_are_good shape value 0 (members_of shape) is long (omega arith),
      ),
      omega (arith, last_next shape value 0 (members_of shape)),
    ) where
      short : (number : List ℕ) → length number ≤ 5 → length (spaced (codes "value" ∷ number ∷ [])) + 1 ≤ longest_line
      short number few = omega arith

-- and so it is read as them
pub split_is_read : (shape : Shape) (value : List ℕ) → IsShape shape → length value ≤ longest_value → reading shape (split_text shape value) ≡ Good (said_of shape value)
split_is_read shape value is long = (text_is_read shape (split_text shape value) (said_of shape value)).1 (split_is_spelled shape value is long)

-- fragments of a value give nothing but the value
pub value_comes_back : (shape : Shape) (value : List ℕ) (said : Said) (joined : List ℕ) → All (λ b. b < 256) value → said.value_length ≡ length value
    → All (λ part. part.bytes ≡ fragment value shape.need part.member) said.parts → IsJoined (first_parts shape said) joined → joined ≡ value
value_comes_back shape value said joined bytes long are j =
    j.fragments value bytes (sym long) (All-take (λ part. part.bytes ≡ fragment value shape.need part.member) shape.need said.parts are)
