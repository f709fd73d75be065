-- The lines of an input, by its bytes.
use Rattle.std.proofs.Common.{◌≡◌, ℕ, suc, ◌+◌, ◌<◌, ◌≤◌, List, [], ◌∷◌, ◌++◌, Bool, true, false, cond, ◌||◌, ◌&&◌, length, refl, ap, ◌∙◌, arith, None, Some}
use Rattle.std.specs.Prelude.{◌==◌, nat_le}
use Rattle.std.specs.List.{list_any}
use Rattle.std.proofs.lemmas.Bool.Decides.{nat_tests}
use Rattle.craft_base.specs.Shape.{Shape}
use Rattle.world_model.specs.Schedule.{TextLine, lines_of, onto_first, line_in, line_at, reading_with, reading_from, most_lines, longest_line}

first_is_none : (byte : ℕ) (bytes : List ℕ) → list_any (λ b. b == 10) (byte ∷ bytes) ≡ false → (byte == 10) ≡ false
first_is_none byte bytes none = either_false (byte == 10) (list_any (λ b. b == 10) bytes) none where
  either_false : (a b : Bool) → (a || b) ≡ false → a ≡ false
  either_false false b h = refl
  either_false true b h = cc

rest_is_none : (byte : ℕ) (bytes : List ℕ) → list_any (λ b. b == 10) (byte ∷ bytes) ≡ false → list_any (λ b. b == 10) bytes ≡ false
rest_is_none byte bytes none = either_false (byte == 10) (list_any (λ b. b == 10) bytes) none where
  either_false : (a b : Bool) → (a || b) ≡ false → b ≡ false
  either_false false b h = h
  either_false true b h = cc

-- a byte that is no line feed goes onto the first line
lines_of-more : (byte : ℕ) (bytes : List ℕ) → (byte == 10) ≡ false → lines_of (byte ∷ bytes) ≡ onto_first byte (lines_of bytes)
lines_of-more byte bytes none = ap (λ feed. cond feed (record { text = []; ended = true } ∷ lines_of bytes) (onto_first byte (lines_of bytes))) none

-- a line with its line feed is the first line
pub lines_of-line : (text rest : List ℕ) → list_any (λ b. b == 10) text ≡ false → lines_of (text ++ 10 ∷ rest) ≡ record { text = text; ended = true } ∷ lines_of rest
lines_of-line [] rest none = refl
lines_of-line (byte ∷ text) rest none =
    lines_of-more byte (text ++ 10 ∷ rest) (first_is_none byte text none)
    ∙ ap (onto_first byte) (lines_of-line text rest (rest_is_none byte text none))

-- bytes at the end without a line feed are a line that hasn't ended
pub lines_of-unended : (byte : ℕ) (text : List ℕ) → list_any (λ b. b == 10) (byte ∷ text) ≡ false → lines_of (byte ∷ text) ≡ record { text = byte ∷ text; ended = false } ∷ []
lines_of-unended byte [] none = lines_of-more byte [] (first_is_none byte [] none)
lines_of-unended byte (next ∷ text) none =
    lines_of-more byte (next ∷ text) (first_is_none byte (next ∷ text) none)
    ∙ ap (onto_first byte) (lines_of-unended next text (rest_is_none byte (next ∷ text) none))

-- a first line that is at least that long
pub record BeginsWith (bytes : List ℕ) (count : ℕ) : Type 0 where
  pub first : TextLine
  pub others : List TextLine
  pub are : lines_of bytes ≡ first ∷ others
  pub long : count ≤ length first.text

onto_long : (byte count : ℕ) (bytes : List ℕ) → (byte == 10) ≡ false → BeginsWith bytes count → BeginsWith (byte ∷ bytes) (suc count)
onto_long byte count bytes none b =
    record {
      first = record { text = byte ∷ b.first.text; ended = b.first.ended };
      others = b.others;
      are = lines_of-more byte bytes none ∙ ap (onto_first byte) b.are;
      long = omega (arith, b.long);
    }

onto_some : (byte : ℕ) (lines : List TextLine) → (first : TextLine) × (others : List TextLine) × (onto_first byte lines ≡ first ∷ others) × (1 ≤ length first.text)
onto_some byte [] = (record { text = byte ∷ []; ended = false }, [], refl, omega arith)
onto_some byte (line ∷ lines) = (record line { text = byte ∷ line.text }, lines, refl, omega arith)

-- bytes without a line feed are the front of one line, whatever follows
pub lines_of-long : (byte : ℕ) (text rest : List ℕ) → list_any (λ b. b == 10) (byte ∷ text) ≡ false → BeginsWith ((byte ∷ text) ++ rest) (suc (length text))
lines_of-long byte [] rest none =
    let s = onto_some byte (lines_of rest) in
    record { first = s.0; others = s.1; are = lines_of-more byte rest (first_is_none byte [] none) ∙ s.2; long = s.3 }
lines_of-long byte (next ∷ text) rest none =
    onto_long byte (suc (length text)) ((next ∷ text) ++ rest) (first_is_none byte (next ∷ text) none)
    (lines_of-long next text rest (rest_is_none byte (next ∷ text) none))

-- the reading of lines of which the first is bad
pub reading-bad : (shape : Shape) (number : ℕ) (line : TextLine) (lines : List TextLine) → line_at shape number line ≡ None
    → reading_from shape number (line ∷ lines) ≡ record { events = []; bad = Some number }
reading-bad shape number line lines none = ap (λ event. reading_with number event (reading_from shape (number + 1) lines)) none

-- a line that hasn't ended, is too long or comes too late is bad
pub unended_is_bad : (shape : Shape) (number : ℕ) (text : List ℕ) → line_at shape number (record { text = text; ended = false }) ≡ None
unended_is_bad shape number text = refl

pub long_is_bad : (shape : Shape) (number : ℕ) (line : TextLine) → longest_line ≤ length line.text → line_at shape number line ≡ None
long_is_bad shape number line long = ap (λ test. cond test (line_in shape line.text) None) (too_long line.ended (length line.text) (nat_le number most_lines) long) where
  too_long : (ended : Bool) (len : ℕ) (early : Bool) → longest_line ≤ len → (ended && nat_le (len + 1) longest_line && early) ≡ false
  too_long true len early h = grind (arith, nat_tests)
  too_long false len early h = refl

pub late_is_bad : (shape : Shape) (number : ℕ) (line : TextLine) → most_lines < number → line_at shape number line ≡ None
late_is_bad shape number line late = ap (λ test. cond test (line_in shape line.text) None) (too_late (line.ended && nat_le (length line.text + 1) longest_line) number late) where
  too_late : (good : Bool) (n : ℕ) → most_lines < n → (good && nat_le n most_lines) ≡ false
  too_late true n h = grind (arith, nat_tests)
  too_late false n h = refl

-- a line with its line feed that is short enough and early enough is what its text says
pub good_line : (shape : Shape) (number : ℕ) (text : List ℕ) → length text < longest_line → number ≤ most_lines
    → line_at shape number (record { text = text; ended = true }) ≡ line_in shape text
good_line shape number text short early = ap (λ test. cond test (line_in shape text) None) (passes (length text) number short early) where
  passes : (len n : ℕ) → len < longest_line → n ≤ most_lines → (nat_le (len + 1) longest_line && nat_le n most_lines) ≡ true
  passes len n short early = grind (arith, nat_tests)
