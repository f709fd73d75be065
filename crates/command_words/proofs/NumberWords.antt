-- Numbers in a range as words, and words without a mark.
use Rattle.std.proofs.Common.{◌≡◌, ℕ, ◌<◌, ◌≤◌, ◌^◌, List, [], ◌∷◌, ◌++◌, true, false, ap, ◌∙◌, sym, arith, Option, None, Some}
use Rattle.std.specs.Prelude.{◌==◌}
use Rattle.std.specs.Char.{is_ascii_digit}
use Rattle.std.specs.Fmt.{decimal}
use Rattle.std.specs.List.{All, slice_split}
use Rattle.std.specs.Str.{all_ascii_digits}
use Rattle.std.proofs.lemmas.Bool.Decides.{nat_tests}
use Rattle.std.proofs.lemmas.List.Elements.{All-nil, All-cons}
use Rattle.std.proofs.lemmas.List.Splits.{slice_split_at, slice_split_none}
use Rattle.world_model.specs.Calls.{number_within}
use Rattle.world_model.specs.Numbers.{number_of}
use Rattle.world_model.specs.Spelling.{IsNumber}
use Rattle.world_model.proofs.CallWords.{number_read}
use Rattle.world_model.proofs.Numerals.{numeral_digits}
use Rattle.world_model.proofs.Spelling.{IsNumber-decimal, IsNumber-numeral, both_parts, decimal-IsNumber, read-IsNumber}
use Rattle.command_words.specs.Spelling.{SpellsWithin}

pub one_number : (word other : List ℕ) (n m : ℕ) → IsNumber word n → IsNumber other m → n ≡ m → word ≡ other
one_number word other n m is as_well same = IsNumber-decimal word n is ∙ ap decimal same ∙ sym (IsNumber-decimal other m as_well)

pub within_read : (least most : ℕ) (word : List ℕ) (n : ℕ) → SpellsWithin least most word n → number_within least most (number_of word) ≡ Some n
within_read least most word n (is, low, high) = number_read least most word n is low high

pub read_within : (least most : ℕ) (word : List ℕ) (n : ℕ) → number_within least most (number_of word) ≡ Some n → SpellsWithin least most word n
read_within least most word n h = let parts = by_found (number_of word) h in (read-IsNumber word n parts.0, parts.1, parts.2) where
  by_test : (m : ℕ) → number_within least most (Some m) ≡ Some n → (Some m ≡ Some n) × (least ≤ n) × (n ≤ most)
  by_test m h = passed least most m n h where
    passed : (least most m n : ℕ) → number_within least most (Some m) ≡ Some n → (Some m ≡ Some n) × (least ≤ n) × (n ≤ most)
    passed least most m n h = grind (arith, nat_tests)

  by_found : (found : Option ℕ) → number_within least most found ≡ Some n → (found ≡ Some n) × (least ≤ n) × (n ≤ most)
  by_found None h = cc
  by_found (Some m) h = by_test m h

pub some_within : (least most n : ℕ) → least ≤ n → n ≤ most → n < 2 ^ 64 → SpellsWithin least most (decimal n) n
some_within least most n low high small = (decimal-IsNumber n small, low, high)

-- ---- marks

no_digit : (mark : ℕ) (bytes : List ℕ) → is_ascii_digit mark ≡ false → all_ascii_digits bytes ≡ true → All (λ byte. (byte == mark) ≡ false) bytes
no_digit mark [] other digits = All-nil (λ byte. (byte == mark) ≡ false)
no_digit mark (byte ∷ bytes) other digits =
    let parts = both_parts (is_ascii_digit byte) (all_ascii_digits bytes) digits in
    All-cons (λ byte. (byte == mark) ≡ false) byte bytes (differ byte mark other parts.0) (no_digit mark bytes other parts.1) where
      differ : (byte mark : ℕ) → is_ascii_digit mark ≡ false → is_ascii_digit byte ≡ true → (byte == mark) ≡ false
      differ byte mark other digit = grind (arith, nat_tests)

-- a number has no mark that isn't a digit
pub number_unmarked : (mark : ℕ) (word : List ℕ) (n : ℕ) → is_ascii_digit mark ≡ false → IsNumber word n → All (λ byte. (byte == mark) ≡ false) word
number_unmarked mark word n other is = no_digit mark word other (numeral_digits word (IsNumber-numeral word n is))

same_itself : (mark : ℕ) → (mark == mark) ≡ true
same_itself mark = grind (arith, nat_tests)

-- a part before a mark, and the last part
pub part_first : (mark : ℕ) (word rest : List ℕ) → All (λ byte. (byte == mark) ≡ false) word
    → slice_split (λ byte. byte == mark) (word ++ mark ∷ rest) ≡ word ∷ slice_split (λ byte. byte == mark) rest
part_first mark word rest h = slice_split_at (λ byte. byte == mark) word mark rest h (same_itself mark)

pub part_last : (mark : ℕ) (word : List ℕ) → All (λ byte. (byte == mark) ≡ false) word → slice_split (λ byte. byte == mark) word ≡ word ∷ []
part_last mark word h = slice_split_none (λ byte. byte == mark) word h
