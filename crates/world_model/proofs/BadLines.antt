-- The lines of a schedule: what reads them and what spells them say the same.
use Rattle.std.proofs.Common.{◌≡◌, ℕ, ◌+◌, ◌≤◌, List, [], ◌∷◌, ◌++◌, Bool, true, false, ◌||◌, ◌&&◌, length, refl, ap, ◌∙◌, arith, Option, None, Some}
use Rattle.std.specs.Prelude.{◌==◌, nat_le, if◌then◌else◌}
use Rattle.std.specs.List.{list_any}
use Rattle.std.proofs.lemmas.Bool.Decides.{nat_tests}
use Rattle.std.proofs.lemmas.List.Folds.{list_any_none}
use Rattle.craft_base.specs.Shape.{Shape}
use Rattle.world_model.specs.Schedule.{TextLine, lines_of, onto_first, line_in, line_at, most_lines, longest_line}
use Rattle.world_model.specs.Lines.{bytes_word}
use Rattle.world_model.specs.Spelling.{IsNumber, IsInnerOf, IsLineOf, SpellsInner, SpellsLine, IsGoodLine, keep_word}
use Rattle.world_model.specs.declared.line.Inner.{Inner}
use Rattle.world_model.specs.declared.line.Inner.TheVariants.{Tick, Take, Call}
use Rattle.world_model.specs.declared.line.Line.{Line}
use Rattle.world_model.specs.declared.line.Line.TheVariants.{Do, Down, Up, Show, Stop}
use Rattle.world_model.proofs.ByteWords.{bytes_without}
use Rattle.world_model.proofs.CallWords.{op_without}
use Rattle.world_model.proofs.Spelling.{number_without}
use Rattle.world_model.proofs.ScheduleLines.{SpellsLine-read, read-SpellsLine}
use Rattle.world_model.proofs.Inputs.{lines_of-line, good_line}

abbrev is_feed : ℕ → Bool
is_feed byte = byte == 10

either_false : (a b : Bool) → (a || b) ≡ false → (a ≡ false) × (b ≡ false)
either_false true b h = cc
either_false false b h = (refl, h)

none_of_both : (xs ys : List ℕ) → list_any is_feed xs ≡ false → list_any is_feed ys ≡ false → list_any is_feed (xs ++ ys) ≡ false
none_of_both [] ys none others = others
none_of_both (x ∷ xs) ys none others =
    let parts = either_false (is_feed x) (list_any is_feed xs) none in
    ap (λ here. here || list_any is_feed (xs ++ ys)) parts.0 ∙ none_of_both xs ys parts.1 others

number_on_line : (word : List ℕ) (n : ℕ) → IsNumber word n → list_any is_feed word ≡ false
number_on_line word n h = list_any_none is_feed word (number_without 10 word n (omega arith) h)

-- a spelling has no line feed
SpellsInner-no_feed : (shape : Shape) (text : List ℕ) (inner : Inner) → SpellsInner text inner → IsInnerOf shape inner → list_any is_feed text ≡ false
SpellsInner-no_feed shape text (Tick member word) (i, w, is_i, is_w, is) inside =
    ap (list_any is_feed) is ∙ none_of_both i (32 ∷ w) (number_on_line i member is_i) (number_on_line w word is_w)
SpellsInner-no_feed shape text (Take frame) (m, is_m, is) inside = ap (list_any is_feed) is ∙ number_on_line m frame is_m
SpellsInner-no_feed shape text (Call member r) (i, c, s, o, is_i, is_c, is_s, is_o, is) (_, _, ranges) =
    let k : List ℕ = bytes_word r.key in
    let v : List ℕ = bytes_word r.value in
    let on_key : list_any is_feed k ≡ false = list_any_none is_feed k (bytes_without 10 r.key (omega arith) ranges.key_bytes.each) in
    let on_value : list_any is_feed v ≡ false = list_any_none is_feed v (bytes_without 10 r.value (omega arith) ranges.value_bytes.each) in
    let on_op : list_any is_feed o ≡ false = list_any_none is_feed o (op_without 10 o r.op (omega arith) is_o) in
    ap (list_any is_feed) is
    ∙ none_of_both i (32 ∷ (c ++ 32 ∷ (s ++ 32 ∷ (o ++ 32 ∷ (k ++ 32 ∷ v))))) (number_on_line i member is_i)
    (none_of_both c (32 ∷ (s ++ 32 ∷ (o ++ 32 ∷ (k ++ 32 ∷ v)))) (number_on_line c r.client is_c)
    (none_of_both s (32 ∷ (o ++ 32 ∷ (k ++ 32 ∷ v))) (number_on_line s r.seq is_s)
    (none_of_both o (32 ∷ (k ++ 32 ∷ v)) on_op (none_of_both k (32 ∷ v) on_key on_value))))

keep_word-no_feed : (keep : Bool) (text : List ℕ) → list_any is_feed text ≡ false → list_any is_feed (keep_word keep ++ 32 ∷ text) ≡ false
keep_word-no_feed false text none = none
keep_word-no_feed true text none = none

SpellsLine-no_feed : (shape : Shape) (text : List ℕ) (line : Line) → SpellsLine text line → IsLineOf shape line → list_any is_feed text ≡ false
SpellsLine-no_feed shape text (Do inner) spelled inside = SpellsInner-no_feed shape text inner spelled inside
SpellsLine-no_feed shape text (Down member) (i, is_i, is) inside = ap (list_any is_feed) is ∙ number_on_line i member is_i
SpellsLine-no_feed shape text (Up member) (i, is_i, is) inside = ap (list_any is_feed) is ∙ number_on_line i member is_i
SpellsLine-no_feed shape text (Show member) (i, is_i, is) inside = ap (list_any is_feed) is ∙ number_on_line i member is_i
SpellsLine-no_feed shape text (Stop call keep inner) (c, e, is_c, is_e, is) inside =
    ap (list_any is_feed) is
    ∙ none_of_both c (32 ∷ (keep_word keep ++ 32 ∷ e)) (number_on_line c call is_c) (keep_word-no_feed keep e (SpellsInner-no_feed shape e inner is_e inside.2))

-- the bytes of a first line that has its line feed, and what comes after them
abbrev EndsAt : List ℕ → TextLine → List TextLine → Type 0
EndsAt bytes line lines = (rest : List ℕ) × (bytes ≡ line.text ++ 10 ∷ rest) × (lines_of rest ≡ lines)

is_ten : (byte : ℕ) → (byte == 10) ≡ true → byte ≡ 10
is_ten byte h = grind (arith, nat_tests)

at_feed : (byte : ℕ) (bytes : List ℕ) (line : TextLine) (lines : List TextLine) → (byte == 10) ≡ true
    → record { text = []; ended = true } ∷ lines_of bytes ≡ line ∷ lines → EndsAt (byte ∷ bytes) line lines
at_feed byte bytes line lines feed h =
    let first : record { text = []; ended = true } ≡ line = cc in
    let text : [] ≡ line.text = ap (λ l. l.text) first in
    (bytes, ap (λ b. b ∷ bytes) (is_ten byte feed) ∙ ap (λ t. t ++ 10 ∷ bytes) text, cc)

in_line : (byte : ℕ) (bytes : List ℕ) (line : TextLine) (lines firsts : List TextLine) → lines_of bytes ≡ firsts
    → onto_first byte firsts ≡ line ∷ lines → line.ended ≡ true
    → ((first : TextLine) (others : List TextLine) → lines_of bytes ≡ first ∷ others → first.ended ≡ true → EndsAt bytes first others)
    → EndsAt (byte ∷ bytes) line lines
in_line byte bytes line lines [] are h ended cut = absurd (open_line line lines h ended) where
  open_line : (line : TextLine) (lines : List TextLine) → record { text = byte ∷ []; ended = false } ∷ [] ≡ line ∷ lines → line.ended ≡ true → ⊥
  open_line line lines h ended =
      let first : record { text = byte ∷ []; ended = false } ≡ line = cc in
      let open_end : false ≡ line.ended = ap (λ l. l.ended) first in
      cc
in_line byte bytes line lines (first ∷ others) are h ended cut =
    let same : record first { text = byte ∷ first.text } ≡ line = cc in
    let text : byte ∷ first.text ≡ line.text = ap (λ l. l.text) same in
    let ends : first.ended ≡ line.ended = ap (λ l. l.ended) same in
    let (rest, is, after) = cut first others are (ends ∙ ended) in
    (rest, ap (λ bs. byte ∷ bs) is ∙ ap (λ t. t ++ 10 ∷ rest) text, after ∙ cc)

pub lines_of-cut : (bytes : List ℕ) (line : TextLine) (lines : List TextLine) → lines_of bytes ≡ line ∷ lines → line.ended ≡ true → EndsAt bytes line lines
lines_of-cut [] line lines h ended = cc
lines_of-cut (byte ∷ bytes) line lines h ended = by_feed (byte == 10) refl h (lines_of-cut bytes) where
  by_feed : (feed : Bool) → (byte == 10) ≡ feed → (if feed then record { text = []; ended = true } ∷ lines_of bytes else onto_first byte (lines_of bytes)) ≡ line ∷ lines
      → ((first : TextLine) (others : List TextLine) → lines_of bytes ≡ first ∷ others → first.ended ≡ true → EndsAt bytes first others)
      → EndsAt (byte ∷ bytes) line lines
  by_feed true is h cut = at_feed byte bytes line lines is h
  by_feed false is h cut = in_line byte bytes line lines (lines_of bytes) refl h ended cut

-- only no bytes have no lines
pub lines_of-empty : (bytes : List ℕ) → lines_of bytes ≡ [] → bytes ≡ []
lines_of-empty [] h = refl
lines_of-empty (byte ∷ bytes) h = absurd (by_feed (byte == 10) (lines_of bytes) h) where
  by_feed : (feed : Bool) (lines : List TextLine) → (if feed then record { text = []; ended = true } ∷ lines else onto_first byte lines) ≡ [] → ⊥
  by_feed true lines h = cc
  by_feed false [] h = cc
  by_feed false (line ∷ lines) h = cc

-- a good line is the first line, and its event is read
pub good_is_read : (shape : Shape) (number : ℕ) (text after : List ℕ) (event : Line) → IsGoodLine shape number text event
    → (lines_of (text ++ 10 ∷ after) ≡ record { text = text; ended = true } ∷ lines_of after) × (line_at shape number (record { text = text; ended = true }) ≡ Some event)
good_is_read shape number text after event (spelled, inside, short, early) = (
  lines_of-line text after (SpellsLine-no_feed shape text event spelled inside),
  good_line shape number text (omega (arith, short)) early ∙ SpellsLine-read shape text event spelled inside,
)

-- a line that is read as an event is good
pub read_is_good : (shape : Shape) (number : ℕ) (line : TextLine) (event : Line) → line_at shape number line ≡ Some event
    → (line.ended ≡ true) × IsGoodLine shape number line.text event
read_is_good shape number line event h =
    let (ended, short, early, found) = tested line.ended (length line.text) number (line_in shape line.text) event h in
    let (spelled, inside) = read-SpellsLine shape line.text event found in
    (ended, (spelled, inside, short, early)) where
      tested : (ended : Bool) (len number : ℕ) (found : Option Line) (event : Line)
          → (if ended && nat_le (len + 1) longest_line && nat_le number most_lines then found else None) ≡ Some event
          → (ended ≡ true) × (len + 1 ≤ longest_line) × (number ≤ most_lines) × (found ≡ Some event)
      tested ended len number found event h = grind (arith, nat_tests)
