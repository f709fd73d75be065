-- A reading of a text of parts, by what the bytes spell.
use Rattle.std.proofs.Common.{◌≡◌, ◌≢◌, inl, inr, ℕ, ◌+◌, List, [], ◌∷◌, ◌++◌, true, length, refl, ap, ◌∙◌, sym, subst, arith, append_assoc, append-nil, length-append, Option, None, Some}
use Rattle.std.specs.Prelude.{◌↔◌}
use Rattle.craft_base.specs.Shape.{Shape}
use Rattle.rs_code.specs.Rebuilding.{TakenPart}
use Rattle.world_model.specs.Schedule.{TextLine, lines_of}
use Rattle.world_model.proofs.BadLines.{lines_of-cut, lines_of-empty}
use Rattle.world_model.proofs.Inputs.{lines_of-line}
use Rattle.fragment_text.specs.Said.{Said, Reading, Good, BadAt, reading, text_from, parts_from, then_rest, only_length, with_line, with_part, length_at}
use Rattle.fragment_text.specs.Spelling.{IsLengthLine, IsPartLine, next_after, ArePartLines, AreLines, SpellsText, HasNoLength, HasNoPart, IsFirstBad}
use Rattle.fragment_text.proofs.TextLines.{length_no_feed, length_is_read, read_is_length, one_length, part_no_feed, part_is_read, read_is_part, one_part}

-- with the parts of more lines
abbrev with_parts : Said → List TakenPart → Said
with_parts said [] = said
with_parts said (part ∷ parts) = with_parts (with_part said part.member part.bytes) parts

with_parts-is : (said : Said) (parts : List TakenPart)
    → with_parts said parts ≡ record { value_length = said.value_length; parts = said.parts ++ parts; next = next_after said.next parts }
with_parts-is said [] = ap (λ all. record { value_length = said.value_length; parts = all; next = said.next }) (sym (append-nil said.parts))
with_parts-is said (part ∷ parts) =
    with_parts-is (with_part said part.member part.bytes) parts
    ∙ ap (λ all. record { value_length = said.value_length; parts = all; next = next_after (part.member + 1) parts }) (append_assoc said.parts (part ∷ []) parts)

-- what is said of bytes, by what they spell: good lines of some parts, and where the reading stops
abbrev IsReadAs : Shape → Said → List ℕ → Reading → Type 0
IsReadAs shape said bytes (Good all) = (parts : List TakenPart) × ArePartLines shape said.value_length said.next bytes parts [] × (all ≡ with_parts said parts)
IsReadAs shape said bytes (BadAt n) =
    (parts : List TakenPart) × (rest : List ℕ) × ArePartLines shape said.value_length said.next bytes parts rest
    × (n ≡ length said.parts + length parts + 2) × HasNoPart shape said.value_length (next_after said.next parts) rest

module _ (shape : Shape) where
  -- lines begin with the text of a good line
  part_begins : (said : Said) (text after : List ℕ) (part : TakenPart) → IsPartLine shape said.value_length said.next text part
      → lines_of (text ++ 10 ∷ after) ≡ record { text = text; ended = true } ∷ lines_of after
  part_begins said text after part good = lines_of-line text after (part_no_feed text part good.0)

  -- the reading of lines of which the first is good, and of which it isn't
  reading-good : (said next : Said) (line : TextLine) (lines : List TextLine) → with_line shape said line ≡ Some next → parts_from shape said (line ∷ lines) ≡ parts_from shape next lines
  reading-good said next line lines is = ap (λ told. then_rest (length said.parts + 2) told (λ next. parts_from shape next lines)) is

  reading-bad : (said : Said) (line : TextLine) (lines : List TextLine) → with_line shape said line ≡ None → parts_from shape said (line ∷ lines) ≡ BadAt (length said.parts + 2)
  reading-bad said line lines is = ap (λ told. then_rest (length said.parts + 2) told (λ next. parts_from shape next lines)) is

  -- no good line begins where the first line is bad
  bad_begins : (said : Said) (bytes : List ℕ) (line : TextLine) (lines : List TextLine) → lines_of bytes ≡ line ∷ lines → with_line shape said line ≡ None
      → HasNoPart shape said.value_length said.next bytes
  bad_begins said bytes line lines are bad = (some_bytes, no_good) where
    some_bytes : bytes ≢ []
    some_bytes none = cc (are, ap lines_of none)

    no_good : (text after : List ℕ) (part : TakenPart) → bytes ≡ text ++ 10 ∷ after → IsPartLine shape said.value_length said.next text part → ⊥
    no_good text after part is good =
        let same : line ∷ lines ≡ record { text = text; ended = true } ∷ lines_of after = sym are ∙ ap lines_of is ∙ part_begins said text after part good in
        let first : line ≡ record { text = text; ended = true } = cc in
        cc (sym bad ∙ ap (with_line shape said) first ∙ part_is_read shape said text part good)

  -- where no good line begins, the first line is bad
  begins_bad : (said : Said) (bytes : List ℕ) (line : TextLine) (lines : List TextLine) (told : Option Said) → lines_of bytes ≡ line ∷ lines
      → HasNoPart shape said.value_length said.next bytes → with_line shape said line ≡ told → told ≡ None
  begins_bad said bytes line lines None are bad is = refl
  begins_bad said bytes line lines (Some next) are (some_bytes, no_good) is =
      let r = read_is_part shape said line next is in
      let (rest, whole, after) = lines_of-cut bytes line lines are r.ended in
      absurd (no_good line.text rest r.part whole r.good)

  -- one line more, before what was read
  one_before : (said : Said) (part : TakenPart) (line bytes after : List ℕ) (r : Reading) → bytes ≡ line ++ 10 ∷ after → IsPartLine shape said.value_length said.next line part
      → IsReadAs shape (with_part said part.member part.bytes) after r → IsReadAs shape said bytes r
  one_before said part line bytes after (Good all) is good (parts, are, same) = (part ∷ parts, (line, after, is, good, are), same)
  one_before said part line bytes after (BadAt n) is good (parts, rest, are, number, none) =
      let counted : n ≡ length said.parts + length (part ∷ parts) + 2 = omega (arith, number, length-append said.parts (part ∷ [])) in
      (part ∷ parts, rest, (line, after, is, good, are), counted, none)

  -- what is read is spelled
  read_is_spelled : (lines : List TextLine) (said : Said) (bytes : List ℕ) → lines_of bytes ≡ lines → IsReadAs shape said bytes (parts_from shape said lines)
  read_is_spelled [] said bytes are = ([], lines_of-empty bytes are, refl)
  read_is_spelled (line ∷ lines) said bytes are = by_line (with_line shape said line) refl (read_is_spelled lines) where
    by_line : (told : Option Said) → with_line shape said line ≡ told
        → ((next : Said) (rest : List ℕ) → lines_of rest ≡ lines → IsReadAs shape next rest (parts_from shape next lines))
        → IsReadAs shape said bytes (parts_from shape said (line ∷ lines))
    by_line None is others =
        let counted : length said.parts + 2 ≡ length said.parts + 0 + 2 = omega arith in
        subst (IsReadAs shape said bytes) (sym (reading-bad said line lines is))
        ([], bytes, refl, counted, bad_begins said bytes line lines are is)
    by_line (Some next) is others =
        let r = read_is_part shape said line next is in
        let (after, whole, begin) = lines_of-cut bytes line lines are r.ended in
        let own = with_part said r.part.member r.part.bytes in
        subst (IsReadAs shape said bytes) (sym (reading-good said own line lines (is ∙ ap (λ s. Some s) r.told)))
        (one_before said r.part line.text bytes after (parts_from shape own lines) whole r.good (others own after begin))

  -- lines that are spelled are read
  spelled_is_read : (parts : List TakenPart) (said : Said) (bytes rest : List ℕ) → ArePartLines shape said.value_length said.next bytes parts rest
      → parts_from shape said (lines_of bytes) ≡ parts_from shape (with_parts said parts) (lines_of rest)
  spelled_is_read [] said bytes rest is = ap (λ b. parts_from shape said (lines_of b)) is
  spelled_is_read (part ∷ parts) said bytes rest (text, after, whole, good, goods) =
      let own = with_part said part.member part.bytes in
      ap (parts_from shape said) (ap lines_of whole ∙ part_begins said text after part good)
      ∙ reading-good said own (record { text = text; ended = true }) (lines_of after) (part_is_read shape said text part good)
      ∙ spelled_is_read parts own after rest goods

  -- where no good line begins, the reading ends
  stops_at : (said : Said) (bytes : List ℕ) → HasNoPart shape said.value_length said.next bytes → parts_from shape said (lines_of bytes) ≡ BadAt (length said.parts + 2)
  stops_at said bytes bad = by_lines (lines_of bytes) refl where
    by_lines : (lines : List TextLine) → lines_of bytes ≡ lines → parts_from shape said lines ≡ BadAt (length said.parts + 2)
    by_lines [] are = absurd (bad.0 (lines_of-empty bytes are))
    by_lines (line ∷ lines) are = reading-bad said line lines (begins_bad said bytes line lines (with_line shape said line) are bad refl)

  -- ---- the whole text

  -- what is said where these parts follow the length
  told_parts : (count : ℕ) (parts : List TakenPart) → with_parts (only_length count) parts ≡ record { value_length = count; parts = parts; next = next_after 0 parts }
  told_parts count parts = with_parts-is (only_length count) parts

  after_length : (bytes line after : List ℕ) (count : ℕ) → bytes ≡ line ++ 10 ∷ after → IsLengthLine line count
      → reading shape bytes ≡ parts_from shape (only_length count) (lines_of after)
  after_length bytes line after count whole good =
      ap (λ b. text_from shape (lines_of b)) whole
      ∙ ap (text_from shape) (lines_of-line line after (length_no_feed line count good.0))
      ∙ ap (λ told. then_rest 1 told (λ n. parts_from shape (only_length n) (lines_of after))) (length_is_read line count good)

  -- the lines of a text are read
  lines_are_read : (bytes : List ℕ) (count : ℕ) (parts : List TakenPart) (rest : List ℕ) → AreLines shape bytes count parts rest
      → reading shape bytes ≡ parts_from shape (record { value_length = count; parts = parts; next = next_after 0 parts }) (lines_of rest)
  lines_are_read bytes count parts rest (line, after, whole, good, goods) =
      after_length bytes line after count whole good ∙ spelled_is_read parts (only_length count) after rest goods
      ∙ ap (λ said. parts_from shape said (lines_of rest)) (told_parts count parts)

  no_length : (bytes : List ℕ) → HasNoLength bytes → reading shape bytes ≡ BadAt 1
  no_length bytes none = by_lines (lines_of bytes) refl where
    first_bad : (line : TextLine) (lines : List TextLine) (told : Option ℕ) → lines_of bytes ≡ line ∷ lines → length_at line ≡ told → told ≡ None
    first_bad line lines None are is = refl
    first_bad line lines (Some count) are is =
        let (ended, good) = read_is_length line count is in
        let (rest, whole, after) = lines_of-cut bytes line lines are ended in
        absurd (none line.text rest count whole good)

    by_lines : (lines : List TextLine) → lines_of bytes ≡ lines → text_from shape lines ≡ BadAt 1
    by_lines [] are = refl
    by_lines (line ∷ lines) are = ap (λ told. then_rest 1 told (λ n. parts_from shape (only_length n) lines)) (first_bad line lines (length_at line) are refl)

  -- what a whole reading says of the bytes
  abbrev IsTextAs : List ℕ → Reading → Type 0
  IsTextAs bytes (Good said) = SpellsText shape bytes said
  IsTextAs bytes (BadAt n) = IsFirstBad shape bytes n

  text_as : (bytes line after : List ℕ) (count : ℕ) (r : Reading) → bytes ≡ line ++ 10 ∷ after → IsLengthLine line count → IsReadAs shape (only_length count) after r → IsTextAs bytes r
  text_as bytes line after count (Good said) whole good (parts, are, same) =
      subst (SpellsText shape bytes) (sym (same ∙ told_parts count parts)) ((line, after, whole, good, are), refl)
  text_as bytes line after count (BadAt n) whole good (parts, rest, are, number, none) =
      let counted : n ≡ length parts + 2 = omega (arith, number) in
      inr (count, parts, rest, (line, after, whole, good, are), counted, none)

  text_is_spelled : (bytes : List ℕ) → IsTextAs bytes (reading shape bytes)
  text_is_spelled bytes = by_lines (lines_of bytes) refl where
    by_first : (line : TextLine) (lines : List TextLine) (told : Option ℕ) → lines_of bytes ≡ line ∷ lines → length_at line ≡ told
        → IsTextAs bytes (then_rest 1 told (λ n. parts_from shape (only_length n) lines))
    by_first line lines None are is = inl (refl, no_good) where
      no_good : HasNoLength bytes
      no_good text after count whole good =
          let same : line ∷ lines ≡ record { text = text; ended = true } ∷ lines_of after =
          sym are ∙ ap lines_of whole ∙ lines_of-line text after (length_no_feed text count good.0) in
          let first : line ≡ record { text = text; ended = true } = cc in
          cc (sym is ∙ ap length_at first ∙ length_is_read text count good)
    by_first line lines (Some count) are is =
        let (ended, good) = read_is_length line count is in
        let (after, whole, begin) = lines_of-cut bytes line lines are ended in
        text_as bytes line.text after count (parts_from shape (only_length count) lines) whole good (read_is_spelled lines (only_length count) after begin)

    by_lines : (lines : List TextLine) → lines_of bytes ≡ lines → IsTextAs bytes (text_from shape lines)
    by_lines [] are = inl (refl, empty) where
      empty : HasNoLength bytes
      empty text after count whole good =
          cc (sym are ∙ ap lines_of whole ∙ lines_of-line text after (length_no_feed text count good.0))
    by_lines (line ∷ lines) are = by_first line lines (length_at line) are refl

  -- a text is read as what it spells, and as nothing else
  pub text_is_read : (bytes : List ℕ) (said : Said) → (reading shape bytes ≡ Good said) ↔ SpellsText shape bytes said
  text_is_read bytes said = (λ h. subst (IsTextAs bytes) h (text_is_spelled bytes), from) where
    from : SpellsText shape bytes said → reading shape bytes ≡ Good said
    from (are, next) = lines_are_read bytes said.value_length said.parts [] are ∙ ap (λ n. Good (record { value_length = said.value_length; parts = said.parts; next = n })) (sym next)

  -- and its first bad line is where the bytes spell no more
  pub first_bad_is_read : (bytes : List ℕ) (n : ℕ) → (reading shape bytes ≡ BadAt n) ↔ IsFirstBad shape bytes n
  first_bad_is_read bytes n = (λ h. subst (IsTextAs bytes) h (text_is_spelled bytes), from) where
    from : IsFirstBad shape bytes n → reading shape bytes ≡ BadAt n
    from (inl (is, none)) = no_length bytes none ∙ ap BadAt (sym is)
    from (inr (count, parts, rest, are, number, none)) =
        lines_are_read bytes count parts rest are
        ∙ stops_at (record { value_length = count; parts = parts; next = next_after 0 parts }) rest none ∙ ap BadAt (sym number)

  -- lines of parts have one spelling
  one_lines : (count next : ℕ) (parts : List TakenPart) (bytes other : List ℕ) → ArePartLines shape count next bytes parts [] → ArePartLines shape count next other parts [] → bytes ≡ other
  one_lines count next [] bytes other is as_well = is ∙ sym as_well
  one_lines count next (part ∷ parts) bytes other (line, after, whole, good, goods) (text, rest, is, good_too, others) =
      whole ∙ ap (λ l. l ++ 10 ∷ after) (one_part line text part good.0 good_too.0)
      ∙ ap (λ bs. text ++ 10 ∷ bs) (one_lines count (part.member + 1) parts after rest goods others) ∙ sym is

  -- what is said has one spelling
  pub one_text : (bytes other : List ℕ) (said : Said) → SpellsText shape bytes said → SpellsText shape other said → bytes ≡ other
  one_text bytes other said ((line, after, whole, good, goods), _) ((text, rest, is, good_too, others), _) =
      whole ∙ ap (λ l. l ++ 10 ∷ after) (one_length line text said.value_length good.0 good_too.0)
      ∙ ap (λ bs. text ++ 10 ∷ bs) (one_lines said.value_length 0 said.parts after rest goods others) ∙ sym is
