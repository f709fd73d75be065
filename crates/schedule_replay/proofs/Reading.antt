-- What a line that was read says of the whole input.
use Rattle.std.proofs.Common.{◌≡◌, ◌⊎◌, inl, inr, true, false, ℕ, ◌+◌, ◌<◌, ◌≤◌, List, [], ◌∷◌, ◌++◌, length, refl, ap, ◌∙◌, subst, arith, append-nil, Option, None, Some}
use Rattle.std.specs.Prelude.{IfSome}
use Rattle.craft_base.specs.Shape.{Shape}
use Rattle.world_model.specs.Schedule.{line_in, line_at, with_event, reading_with, reading_from, lines_of, most_lines, longest_line}
use Rattle.world_model.proofs.Inputs.{lines_of-unended, lines_of-long, reading-bad, unended_is_bad, long_is_bad, late_is_bad, good_line}
use Rattle.line_input.specs.declared.line.LineEnd.{LineEnd}
use Rattle.line_input.specs.declared.line.LineEnd.TheVariants.{LineFeed, Broken}
use Rattle.world_model.specs.declared.line.Line.{Line}
use Rattle.line_input.proofs.Taking.{lines_taken}
use Rattle.line_input.specs.Lines.{TakesLine, HasNoLineFeed}
use Rattle.craft_edge.specs.Streams.{WhereBothTold}
use Rattle.schedule_replay.specs.Replaying.{TakesLineOf}

-- the reading of an input whose first line is bad
abbrev pub BadFirst : Shape → ℕ → List ℕ → Type 0
BadFirst shape number bytes = reading_from shape number (lines_of bytes) ≡ record { events = []; bad = Some number }

broken : (shape : Shape) (number : ℕ) (before text rest : List ℕ) → before ≡ text ++ rest → HasNoLineFeed text
    → ((rest ≡ []) × (0 < length text)) ⊎ (length text ≡ longest_line) → BadFirst shape number before
broken shape number before [] rest is_before none (inl (end, some)) = absurd (omega (arith, some))
broken shape number before [] rest is_before none (inr long) = absurd (omega (arith, long))
broken shape number before (byte ∷ text) rest is_before none (inl (end, some)) =
    ap (λ bytes. reading_from shape number (lines_of bytes)) (is_before ∙ ap (λ bytes. (byte ∷ text) ++ bytes) end ∙ append-nil (byte ∷ text))
    ∙ ap (reading_from shape number) (lines_of-unended byte text none)
    ∙ reading-bad shape number (record { text = byte ∷ text; ended = false }) [] (unended_is_bad shape number (byte ∷ text))
broken shape number before (byte ∷ text) rest is_before none (inr long) =
    let begins = lines_of-long byte text rest none in
    ap (λ bytes. reading_from shape number (lines_of bytes)) is_before
    ∙ ap (reading_from shape number) begins.are
    ∙ reading-bad shape number begins.first begins.others (long_is_bad shape number begins.first (omega (arith, long, begins.long)))

-- a line that is broken off is bad
pub broken_line : (shape : Shape) (number : ℕ) (old new : Option (List ℕ)) (text : List ℕ) → TakesLine old new text Broken → IfSome old (BadFirst shape number)
broken_line shape number None new text taken = tt
broken_line shape number (Some before) None text taken = absurd taken.0
broken_line shape number (Some before) (Some rest) text taken = broken shape number before text rest taken.0 taken.1 taken.2

-- a line that is no event is bad
pub bad_line : (shape : Shape) (number : ℕ) (old new : Option (List ℕ)) (text : List ℕ) → TakesLine old new text LineFeed → line_at shape number (record { text = text; ended = true }) ≡ None
    → IfSome old (BadFirst shape number)
bad_line shape number None new text taken none = tt
bad_line shape number (Some before) None text taken none = absurd taken.0
bad_line shape number (Some before) (Some rest) text taken none =
    ap (reading_from shape number) (lines_taken before text rest taken.0 taken.1) ∙ reading-bad shape number (record { text = text; ended = true }) (lines_of rest) none

-- an event was read, and the rest is read after it
pub event_line : (shape : Shape) (number : ℕ) (old new : Option (List ℕ)) (text : List ℕ) (event : Line) → TakesLine old new text LineFeed → number ≤ most_lines
    → line_in shape text ≡ Some event
    → WhereBothTold old new (TakesLineOf shape number event)
event_line shape number None new text event taken early says = tt
event_line shape number (Some before) None text event taken early says = absurd taken.0
event_line shape number (Some before) (Some left) text event taken early says = (
  text ++ 10 ∷ [],
  taken.0,
  λ rest.
      ap (reading_from shape number) (lines_taken ((text ++ 10 ∷ []) ++ rest) text rest refl taken.1)
      ∙ ap (λ said. reading_with number said (reading_from shape (number + 1) (lines_of rest))) (good_line shape number text taken.2 early ∙ says),
)

-- any line past the last is bad
pub late_line : (shape : Shape) (old new : Option (List ℕ)) (text : List ℕ) (end : LineEnd) → (end ≡ Broken) ⊎ (end ≡ LineFeed) → TakesLine old new text end
    → IfSome old (BadFirst shape 1_000_001)
late_line shape old new text end (inl is_broken) taken = broken_line shape 1_000_001 old new text (subst (TakesLine old new text) is_broken taken)
late_line shape old new text end (inr is_line) taken =
    bad_line shape 1_000_001 old new text (subst (TakesLine old new text) is_line taken)
    (late_is_bad shape 1_000_001 (record { text = text; ended = true }) (omega arith))
