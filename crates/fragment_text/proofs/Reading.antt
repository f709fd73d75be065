-- What a line that was read says of the whole input.
use Rattle.std.proofs.Common.{◌≡◌, ◌⊎◌, inl, inr, true, cond, ℕ, ◌+◌, ◌<◌, List, ◌∷◌, length, ap, ◌∙◌, subst, sym, Option, None, Some}
use Rattle.std.specs.Prelude.{IfSome}
use Rattle.craft_base.specs.Shape.{Shape}
use Rattle.line_input.specs.declared.line.LineEnd.{LineEnd}
use Rattle.line_input.specs.declared.line.LineEnd.TheVariants.{LineFeed, Broken, End}
use Rattle.line_input.specs.Lines.{TakesLine}
use Rattle.world_model.specs.Schedule.{TextLine, lines_of, longest_line}
use Rattle.craft_edge.specs.Streams.{WhereBothTold}
use Rattle.line_input.proofs.Taking.{broken_first, lines_taken, whole_line}
use Rattle.fragment_text.specs.Said.{Said, BadAt, reading, text_from, parts_from, then_rest, only_length, with_line, length_at, length_of_words, part_of_words, words_of}
use Rattle.fragment_text.specs.Kept.{ReadsLength}

-- ---- the first line

first_line : (shape : Shape) (before : List ℕ) (line : TextLine) (lines : List TextLine) (told : Option ℕ) → lines_of before ≡ line ∷ lines → length_at line ≡ told
    → reading shape before ≡ then_rest 1 told (λ count. parts_from shape (only_length count) lines)
first_line shape before line lines told are is_told = ap (text_from shape) are ∙ ap (λ t. then_rest 1 t (λ count. parts_from shape (only_length count) lines)) is_told

-- a first line that is broken off, and no line at all, tell no length
pub no_length : (shape : Shape) (old new : Option (List ℕ)) (text : List ℕ) (end : LineEnd) → (end ≡ End) ⊎ (end ≡ Broken) → TakesLine old new text end → IfSome old (λ bytes. reading shape bytes ≡ BadAt 1)
no_length shape None new text end which taken = tt
no_length shape (Some before) None text end (inl is_end) taken = absurd ((subst (TakesLine (Some before) None text) is_end taken).0)
no_length shape (Some before) None text end (inr is_broken) taken = absurd ((subst (TakesLine (Some before) None text) is_broken taken).0)
no_length shape (Some before) (Some rest) text end (inl is_end) taken =
    let t = subst (TakesLine (Some before) (Some rest) text) is_end taken in
    ap (reading shape) (t.0 ∙ t.1)
no_length shape (Some before) (Some rest) text end (inr is_broken) taken =
    let t = subst (TakesLine (Some before) (Some rest) text) is_broken taken in
    let b = broken_first before text rest t.0 t.1 t.2 in
    first_line shape before b.first b.others None b.are (ap (λ test. cond test (length_of_words (words_of b.first.text)) None) b.broken)

length_told : (text : List ℕ) → length text < longest_line → length_at (record { text = text; ended = true }) ≡ length_of_words (words_of text)
length_told text short = ap (λ test. cond test (length_of_words (words_of text)) None) (whole_line text short)

-- a first line whose words tell no length is bad
pub other_first : (shape : Shape) (old new : Option (List ℕ)) (text : List ℕ) → TakesLine old new text LineFeed → length_of_words (words_of text) ≡ None → IfSome old (λ bytes. reading shape bytes ≡ BadAt 1)
other_first shape None new text taken none = tt
other_first shape (Some before) None text taken none = absurd taken.0
other_first shape (Some before) (Some rest) text taken none =
    first_line shape before (record { text = text; ended = true }) (lines_of rest) None (lines_taken before text rest taken.0 taken.1) (length_told text taken.2 ∙ none)

-- the others are lines of parts
pub length_read : (old new : Option (List ℕ)) (text : List ℕ) (count : ℕ) → TakesLine old new text LineFeed → length_of_words (words_of text) ≡ Some count → ReadsLength old new count
length_read None new text count taken told = tt
length_read (Some before) None text count taken told = absurd taken.0
length_read (Some before) (Some rest) text count taken told = λ shape.
    first_line shape before (record { text = text; ended = true }) (lines_of rest) (Some count) (lines_taken before text rest taken.0 taken.1) (length_told text taken.2 ∙ told)

-- ---- the line of a part

next_line : (shape : Shape) (said : Said) (before : List ℕ) (line : TextLine) (lines : List TextLine) (told : Option Said) → lines_of before ≡ line ∷ lines → with_line shape said line ≡ told
    → parts_from shape said (lines_of before) ≡ then_rest (length said.parts + 2) told (λ next. parts_from shape next lines)
next_line shape said before line lines told are is_told =
    ap (parts_from shape said) are ∙ ap (λ t. then_rest (length said.parts + 2) t (λ next. parts_from shape next lines)) is_told

part_told : (shape : Shape) (said : Said) (text : List ℕ) → length text < longest_line → with_line shape said (record { text = text; ended = true }) ≡ part_of_words shape said (words_of text)
part_told shape said text short = ap (λ test. cond test (part_of_words shape said (words_of text)) None) (whole_line text short)

-- a line that is broken off is bad
pub no_part : (shape : Shape) (said : Said) (number : ℕ) (old new : Option (List ℕ)) (text : List ℕ) → number ≡ length said.parts + 2 → TakesLine old new text Broken
    → IfSome old (λ bytes. parts_from shape said (lines_of bytes) ≡ BadAt number)
no_part shape said number None new text is taken = tt
no_part shape said number (Some before) None text is taken = absurd taken.0
no_part shape said number (Some before) (Some rest) text is taken =
    let b = broken_first before text rest taken.0 taken.1 taken.2 in
    next_line shape said before b.first b.others None b.are (ap (λ test. cond test (part_of_words shape said (words_of b.first.text)) None) b.broken)
    ∙ ap BadAt (sym is)

-- a line whose words are those of no part that may come next is bad
pub other_line : (shape : Shape) (said : Said) (number : ℕ) (old new : Option (List ℕ)) (text : List ℕ) → number ≡ length said.parts + 2 → TakesLine old new text LineFeed
    → part_of_words shape said (words_of text) ≡ None → IfSome old (λ bytes. parts_from shape said (lines_of bytes) ≡ BadAt number)
other_line shape said number None new text is taken none = tt
other_line shape said number (Some before) None text is taken none = absurd taken.0
other_line shape said number (Some before) (Some rest) text is taken none =
    next_line shape said before (record { text = text; ended = true }) (lines_of rest) None (lines_taken before text rest taken.0 taken.1) (part_told shape said text taken.2 ∙ none)
    ∙ ap BadAt (sym is)

-- a part was read, and the rest is read after it
pub part_read : (shape : Shape) (said next : Said) (old new : Option (List ℕ)) (text : List ℕ) → TakesLine old new text LineFeed → part_of_words shape said (words_of text) ≡ Some next
    → WhereBothTold old new (λ before after. parts_from shape said (lines_of before) ≡ parts_from shape next (lines_of after))
part_read shape said next None new text taken told = tt
part_read shape said next (Some before) None text taken told = absurd taken.0
part_read shape said next (Some before) (Some rest) text taken told =
    next_line shape said before (record { text = text; ended = true }) (lines_of rest) (Some next) (lines_taken before text rest taken.0 taken.1) (part_told shape said text taken.2 ∙ told)
