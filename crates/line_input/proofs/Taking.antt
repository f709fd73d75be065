-- What a line that was taken says of the lines of the whole input.
use Rattle.std.proofs.Common.{◌≡◌, ◌⊎◌, inl, inr, true, false, Bool, ◌&&◌, ℕ, ◌+◌, ◌<◌, ◌≤◌, List, [], ◌∷◌, ◌++◌, length, refl, ap, ◌∙◌, arith, append_assoc, append-nil}
use Rattle.std.specs.Prelude.{nat_le}
use Rattle.std.proofs.lemmas.Bool.Decides.{nat_tests}
use Rattle.line_input.specs.Lines.{HasNoLineFeed, is_whole}
use Rattle.world_model.specs.Schedule.{TextLine, lines_of, longest_line}
use Rattle.world_model.proofs.Inputs.{lines_of-line, lines_of-unended, lines_of-long}

-- an input whose first line isn't whole
pub record BrokenFirst (bytes : List ℕ) : Type 0 where
  pub first : TextLine
  pub others : List TextLine
  pub are : lines_of bytes ≡ first ∷ others
  pub broken : is_whole first ≡ false

-- a line that was taken without a line feed isn't whole: the input ends within it, or it is too long
pub broken_first : (before text rest : List ℕ) → before ≡ text ++ rest → HasNoLineFeed text → ((rest ≡ []) × (0 < length text)) ⊎ (length text ≡ longest_line) → BrokenFirst before
broken_first before [] rest is_before none (inl (end, some)) = absurd (omega (arith, some))
broken_first before [] rest is_before none (inr long) = absurd (omega (arith, long))
broken_first before (byte ∷ text) rest is_before none (inl (end, some)) =
    record {
      first = record { text = byte ∷ text; ended = false };
      others = [];
      are = ap lines_of (is_before ∙ ap (λ bytes. (byte ∷ text) ++ bytes) end ∙ append-nil (byte ∷ text)) ∙ lines_of-unended byte text none;
      broken = refl;
    }
broken_first before (byte ∷ text) rest is_before none (inr long) =
    let begins = lines_of-long byte text rest none in
    record {
      first = begins.first;
      others = begins.others;
      are = ap lines_of is_before ∙ begins.are;
      broken = too_long begins.first.ended (length begins.first.text) (omega (arith, long, begins.long));
    } where
      too_long : (ended : Bool) (len : ℕ) → longest_line ≤ len → (ended && nat_le (len + 1) longest_line) ≡ false
      too_long true len h = grind (arith, nat_tests)
      too_long false len h = refl

-- the lines of an input of which a line was taken with its line feed
pub lines_taken : (before text rest : List ℕ) → before ≡ (text ++ 10 ∷ []) ++ rest → HasNoLineFeed text → lines_of before ≡ record { text = text; ended = true } ∷ lines_of rest
lines_taken before text rest is_before none = ap lines_of (is_before ∙ append_assoc text (10 ∷ []) rest) ∙ lines_of-line text rest none

-- a line with its line feed that isn't too long is whole
pub whole_line : (text : List ℕ) → length text < longest_line → is_whole (record { text = text; ended = true }) ≡ true
whole_line text short = passes (length text) short where
  passes : (len : ℕ) → len < longest_line → nat_le (len + 1) longest_line ≡ true
  passes len short = grind (arith, nat_tests)
