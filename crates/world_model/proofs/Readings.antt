-- A reading, by what the bytes spell.
use Rattle.std.proofs.Common.{◌≡◌, ℕ, suc, ◌+◌, List, [], ◌∷◌, ◌++◌, true, length, refl, ap, ◌∙◌, sym, subst, arith, Option, None, Some}
use Rattle.std.specs.Prelude.{◌≢◌, ◌↔◌}
use Rattle.craft_base.specs.Shape.{Shape}
use Rattle.world_model.specs.declared.line.Line.{Line}
use Rattle.world_model.specs.Schedule.{TextLine, Reading, lines_of, line_at, reading_with, reading_from, reading, with_event}
use Rattle.std.specs.List.{All}
use Rattle.std.proofs.lemmas.List.Elements.{All-nil, All-cons}
use Rattle.world_model.specs.Spelling.{IsGoodLine, IsLineOf, AreLines, IsBadFrom, IsAllGood, IsFirstBad}
use Rattle.world_model.proofs.BadLines.{good_is_read, read_is_good, lines_of-cut, lines_of-empty}
use Rattle.world_model.proofs.Inputs.{reading-bad}

-- what the reading stops at: nothing is left, or a bad line begins there, which has that number
abbrev StopsAt : Shape → ℕ → List ℕ → Option ℕ → Type 0
StopsAt shape number rest None = rest ≡ []
StopsAt shape number rest (Some n) = (n ≡ number) × IsBadFrom shape number rest

-- what is read of bytes, by what they spell: good lines of these events, and where the reading stops
abbrev IsReadAs : Shape → ℕ → List ℕ → Reading → Type 0
IsReadAs shape number bytes r = (rest : List ℕ) × AreLines shape number bytes r.events rest × StopsAt shape (number + length r.events) rest r.bad

module _ (shape : Shape) where
  -- no good line begins where the first line is bad
  bad_begins : (number : ℕ) (bytes : List ℕ) (line : TextLine) (lines : List TextLine) → lines_of bytes ≡ line ∷ lines
      → line_at shape number line ≡ None → IsBadFrom shape number bytes
  bad_begins number bytes line lines are bad = (some_bytes, no_good) where
    some_bytes : bytes ≢ []
    some_bytes none = cc (are, ap lines_of none)

    no_good : (text after : List ℕ) (event : Line) → bytes ≡ text ++ 10 ∷ after → IsGoodLine shape number text event → ⊥
    no_good text after event is good =
        let (begins, found) = good_is_read shape number text after event good in
        let same : line ∷ lines ≡ record { text = text; ended = true } ∷ lines_of after = sym are ∙ ap lines_of is ∙ begins in
        let first : line ≡ record { text = text; ended = true } = cc in
        cc (sym bad ∙ ap (line_at shape number) first ∙ found)

  -- where a bad line begins, the first line is bad
  begins_bad : (number : ℕ) (bytes : List ℕ) (line : TextLine) (lines : List TextLine) (found : Option Line) → lines_of bytes ≡ line ∷ lines
      → IsBadFrom shape number bytes → line_at shape number line ≡ found → found ≡ None
  begins_bad number bytes line lines None are bad is = refl
  begins_bad number bytes line lines (Some event) are (some_bytes, no_good) is =
      let (ended, good) = read_is_good shape number line event is in
      let (rest, whole, after) = lines_of-cut bytes line lines are ended in
      absurd (no_good line.text rest event whole good)

  -- the reading of lines of which the first is good
  reading-good : (number : ℕ) (line : TextLine) (lines : List TextLine) (event : Line) → line_at shape number line ≡ Some event
      → reading_from shape number (line ∷ lines) ≡ with_event event (reading_from shape (number + 1) lines)
  reading-good number line lines event is = ap (λ found. reading_with number found (reading_from shape (number + 1) lines)) is

  one_more : (number : ℕ) (events : List Line) (rest : List ℕ) (bad : Option ℕ) → StopsAt shape ((number + 1) + length events) rest bad
      → StopsAt shape (number + suc (length events)) rest bad
  one_more number events rest bad h =
      let same : (number + 1) + length events ≡ number + suc (length events) = omega arith in
      subst (λ n. StopsAt shape n rest bad) same h

  one_less : (number : ℕ) (events : List Line) (rest : List ℕ) (bad : Option ℕ) → StopsAt shape (number + suc (length events)) rest bad
      → StopsAt shape ((number + 1) + length events) rest bad
  one_less number events rest bad h =
      let same : number + suc (length events) ≡ (number + 1) + length events = omega arith in
      subst (λ n. StopsAt shape n rest bad) same h

  stops_here : (number : ℕ) (rest : List ℕ) (bad : Option ℕ) → StopsAt shape number rest bad → StopsAt shape (number + 0) rest bad
  stops_here number rest bad h =
      let same : number ≡ number + 0 = omega arith in
      subst (λ n. StopsAt shape n rest bad) same h

  -- what is read is spelled
  read_is_spelled : (lines : List TextLine) (number : ℕ) (bytes : List ℕ) → lines_of bytes ≡ lines → IsReadAs shape number bytes (reading_from shape number lines)
  read_is_spelled [] number bytes are = (bytes, refl, lines_of-empty bytes are)
  read_is_spelled (line ∷ lines) number bytes are = by_event (line_at shape number line) refl (read_is_spelled lines (number + 1)) where
    by_event : (found : Option Line) → line_at shape number line ≡ found
        → ((rest : List ℕ) → lines_of rest ≡ lines → IsReadAs shape (number + 1) rest (reading_from shape (number + 1) lines))
        → IsReadAs shape number bytes (reading_from shape number (line ∷ lines))
    by_event None is others =
        subst (λ r. IsReadAs shape number bytes r) (sym (reading-bad shape number line lines is))
        (bytes, refl, stops_here number bytes (Some number) (refl, bad_begins number bytes line lines are is))
    by_event (Some event) is others =
        let (ended, good) = read_is_good shape number line event is in
        let (after, whole, begin) = lines_of-cut bytes line lines are ended in
        let (rest, goods, stop) = others after begin in
        let r = reading_from shape (number + 1) lines in
        subst (λ r. IsReadAs shape number bytes r) (sym (reading-good number line lines event is))
        (rest, (line.text, after, whole, good, goods), one_more number r.events rest r.bad stop)

  -- what is spelled is read
  spelled_is_read : (events : List Line) (number : ℕ) (bytes rest : List ℕ) (bad : Option ℕ) → AreLines shape number bytes events rest
      → StopsAt shape (number + length events) rest bad → reading_from shape number (lines_of bytes) ≡ record { events = events; bad = bad }
  spelled_is_read [] number bytes rest None is stop = ap (λ b. reading_from shape number (lines_of b)) (is ∙ stop)
  spelled_is_read [] number bytes rest (Some n) is (same, bad) =
      let here : number + 0 ≡ number = omega arith in
      let begins : IsBadFrom shape number bytes = subst (λ m. IsBadFrom shape m bytes) here (subst (λ b. IsBadFrom shape (number + 0) b) (sym is) bad) in
      by_lines (lines_of bytes) refl begins ∙ ap (λ m. record { events = []; bad = Some m }) (sym (same ∙ here)) where
        by_lines : (lines : List TextLine) → lines_of bytes ≡ lines → IsBadFrom shape number bytes
            → reading_from shape number lines ≡ record { events = []; bad = Some number }
        by_lines [] are begins = absurd (begins.0 (lines_of-empty bytes are))
        by_lines (line ∷ lines) are begins = reading-bad shape number line lines (begins_bad number bytes line lines (line_at shape number line) are begins refl)
  spelled_is_read (event ∷ events) number bytes rest bad (text, after, whole, good, goods) stop =
      let (begins, found) = good_is_read shape number text after event good in
      let others = spelled_is_read events (number + 1) after rest bad goods (one_less number events rest bad stop) in
      ap (reading_from shape number) (ap lines_of whole ∙ begins)
      ∙ reading-good number (record { text = text; ended = true }) (lines_of after) event found
      ∙ ap (with_event event) others

  -- every line is good exactly where the bytes spell the events
  pub all_good : (bytes : List ℕ) (events : List Line) → (reading shape bytes ≡ record { events = events; bad = None }) ↔ IsAllGood shape bytes events
  all_good bytes events = (to, λ goods. spelled_is_read events 1 bytes [] None goods refl) where
    to : reading shape bytes ≡ record { events = events; bad = None } → IsAllGood shape bytes events
    to h =
        let (rest, goods, stop) = subst (λ r. IsReadAs shape 1 bytes r) h (read_is_spelled (lines_of bytes) 1 bytes refl) in
        subst (λ b. AreLines shape 1 bytes events b) stop goods

  -- and the first bad line is where they stop
  pub first_bad : (bytes : List ℕ) (events : List Line) (n : ℕ) → (reading shape bytes ≡ record { events = events; bad = Some n }) ↔ IsFirstBad shape bytes events n
  first_bad bytes events n = (to, from) where
    number : n ≡ length events + 1 → n ≡ 1 + length events
    number h = omega (arith, h)

    to : reading shape bytes ≡ record { events = events; bad = Some n } → IsFirstBad shape bytes events n
    to h =
        let (rest, goods, stop) = subst (λ r. IsReadAs shape 1 bytes r) h (read_is_spelled (lines_of bytes) 1 bytes refl) in
        let is : n ≡ length events + 1 = omega (arith, stop.0) in
        (rest, goods, is, subst (λ m. IsBadFrom shape m rest) (sym stop.0) stop.1)

    from : IsFirstBad shape bytes events n → reading shape bytes ≡ record { events = events; bad = Some n }
    from (rest, goods, is, bad) = spelled_is_read events 1 bytes rest (Some n) goods (number is, subst (λ m. IsBadFrom shape m rest) (number is) bad)

-- what is read is in range
module _ (shape : Shape) where
  line_in_range :
      (number : ℕ) (line : TextLine) (rest : Reading) → All (IsLineOf shape) rest.events → (found : Option Line) → line_at shape number line ≡ found →
      All (IsLineOf shape) (reading_with number found rest).events
  line_in_range number line rest others None none = All-nil (IsLineOf shape)
  line_in_range number line rest others (Some event) found =
      let good = read_is_good shape number line event found in All-cons (IsLineOf shape) event rest.events good.1.1 others

  lines_in_range : (number : ℕ) (lines : List TextLine) → All (IsLineOf shape) (reading_from shape number lines).events
  lines_in_range number [] = All-nil (IsLineOf shape)
  lines_in_range number (line ∷ lines) =
      line_in_range number line (reading_from shape (number + 1) lines) (lines_in_range (number + 1) lines) (line_at shape number line) refl

  pub reading_in_range : (bytes : List ℕ) → All (IsLineOf shape) (reading shape bytes).events
  reading_in_range bytes = lines_in_range 1 (lines_of bytes)
