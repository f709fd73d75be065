-- Numbers as words: decimal, without a sign and without leading zeros.
use Rattle.std.specs.Prelude.{ℕ, ◌+◌, ◌-◌, ◌*◌, ◌^◌, List, [], ◌∷◌, Option, None, Some, Bool, false, not, ◌&&◌, ◌==◌, if◌then◌else◌, nat_lt}
use Rattle.std.specs.Char.{is_ascii_digit}
use Rattle.std.specs.Str.{all_ascii_digits}

-- the number whose digits follow those of n
abbrev pub digits_after : ℕ → List ℕ → ℕ
digits_after n [] = n
digits_after n (digit ∷ digits) = digits_after (10 * n + (digit - 48)) digits

-- one digit, or several of which the first isn't 0
abbrev pub is_numeral : List ℕ → Bool
is_numeral [] = false
is_numeral (digit ∷ []) = is_ascii_digit digit
is_numeral (first ∷ second ∷ digits) = not (first == 48) && all_ascii_digits (first ∷ second ∷ digits)

-- what a word that spells a number below 2^64 spells
abbrev pub number_of : List ℕ → Option ℕ
number_of word = if is_numeral word && nat_lt (digits_after 0 word) (2 ^ 64) then Some (digits_after 0 word) else None
