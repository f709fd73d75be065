-- The lines of a text of parts: what reads them and what spells them say the same.
use Rattle.std.proofs.Common.{◌≡◌, ℕ, ◌+◌, ◌<◌, ◌≤◌, List, [], ◌∷◌, ◌++◌, Bool, true, false, ◌||◌, ◌&&◌, length, refl, ap, ◌∙◌, sym, subst, arith, Option, None, Some}
use Rattle.std.specs.Prelude.{◌==◌, nat_le, nat_lt, codes, if◌then◌else◌}
use Rattle.std.specs.List.{list_any, slice_split}
use Rattle.std.specs.Str.{bytes_eq}
use Rattle.std.proofs.lemmas.Bool.Decides.{nat_tests}
use Rattle.std.proofs.lemmas.List.Folds.{list_any_none}
use Rattle.std.proofs.lemmas.List.Splits.{slice_split_none, slice_split_at, join_with_byte-slice_split}
use Rattle.std.proofs.lemmas.Slice.Eq.{bytes_eq-Decides}
use Rattle.craft_base.specs.Parts.{part_length}
use Rattle.craft_base.specs.Shape.{Shape, members_of}
use Rattle.entry_frames.specs.Limits.{longest_value}
use Rattle.rs_code.specs.Rebuilding.{TakenPart}
use Rattle.line_input.specs.Lines.{HasNoLineFeed, is_whole}
use Rattle.world_model.specs.Numbers.{number_of}
use Rattle.world_model.specs.Schedule.{TextLine, longest_line}
use Rattle.world_model.specs.Spelling.{IsNumber, spaced}
use Rattle.world_model.proofs.InnerLines.{number_without}
use Rattle.world_model.proofs.Spelling.{IsNumber-decimal, IsNumber-read, read-IsNumber}
use Rattle.fragment_text.specs.Said.{Said, words_of, length_of, length_of_words, length_at, bytes_of, rising_member, with_part, with_part_of, part_line_of, part_of_words, with_line}
use Rattle.fragment_text.specs.Spelling.{IsBytesWord, SpellsLength, SpellsPart, IsLengthLine, IsPartLine}
use Rattle.fragment_text.proofs.HexWords.{word_without, word_read, read_word, one_word}

abbrev is_blank : ℕ → Bool
is_blank byte = byte == 32

abbrev is_feed : ℕ → Bool
is_feed byte = byte == 10

none_of_both : (xs ys : List ℕ) → list_any is_feed xs ≡ false → list_any is_feed ys ≡ false → list_any is_feed (xs ++ ys) ≡ false
none_of_both [] ys none others = others
none_of_both (x ∷ xs) ys none others =
    let parts = either (is_feed x) (list_any is_feed xs) none in
    ap (λ here. here || list_any is_feed (xs ++ ys)) parts.0 ∙ none_of_both xs ys parts.1 others where
      either : (a b : Bool) → (a || b) ≡ false → (a ≡ false) × (b ≡ false)
      either true b h = cc
      either false b h = (refl, h)

-- what a test lets through
let_through : {A : Type 0} (test : Bool) (found : Option A) (told : A) → (if test then found else None) ≡ Some told → (test ≡ true) × (found ≡ Some told)
let_through true found told h = (refl, h)
let_through false found told h = cc

whole_parts : (ended : Bool) (len : ℕ) → (ended && nat_le (len + 1) longest_line) ≡ true → (ended ≡ true) × (len + 1 ≤ longest_line)
whole_parts ended len h = grind (arith, nat_tests)

is_short : (len : ℕ) → len + 1 ≤ longest_line → nat_le (len + 1) longest_line ≡ true
is_short len h = grind (arith, nat_tests)

-- ---- the line of the length

pub length_no_feed : (line : List ℕ) (count : ℕ) → SpellsLength line count → HasNoLineFeed line
length_no_feed line count (n, is_n, is) = ap (list_any is_feed) is ∙ list_any_none is_feed n (number_without 10 n count (omega arith) is_n)

length_words : (n : List ℕ) (count : ℕ) → IsNumber n count → words_of (spaced (codes "value" ∷ n ∷ [])) ≡ codes "value" ∷ n ∷ []
length_words n count is_n = ap (λ words. codes "value" ∷ words) (slice_split_none is_blank n (number_without 32 n count (omega arith) is_n))

pub length_is_read : (line : List ℕ) (count : ℕ) → IsLengthLine line count → length_at (record { text = line; ended = true }) ≡ Some count
length_is_read line count ((n, is_n, is), few, short) =
    ap (λ test. if test then length_of_words (words_of line) else None) (is_short (length line) short)
    ∙ ap (λ text. length_of_words (words_of text)) is
    ∙ ap length_of_words (length_words n count is_n)
    ∙ ap length_of (IsNumber-read n count is_n)
    ∙ within count few where
      within : (count : ℕ) → count ≤ longest_value → length_of (Some count) ≡ Some count
      within count few = grind (arith, nat_tests)

pub read_is_length : (line : TextLine) (count : ℕ) → length_at line ≡ Some count → (line.ended ≡ true) × IsLengthLine line.text count
read_is_length line count h =
    let whole = let_through (is_whole line) (length_of_words (words_of line.text)) count h in
    let parts = whole_parts line.ended (length line.text) whole.0 in
    let spelled = by_words (words_of line.text) (join_with_byte-slice_split 32 line.text) whole.1 in
    (parts.0, (spelled.0, spelled.1, parts.1)) where
      within : (read : Option ℕ) → length_of read ≡ Some count → (read ≡ Some count) × (count ≤ longest_value)
      within None h = cc
      within (Some n) h =
          let t = let_through (nat_le n longest_value) (Some n) count h in
          let same : n ≡ count = cc (t.1) in
          (t.1, subst (λ m. m ≤ longest_value) same (few n t.0)) where
            few : (n : ℕ) → nat_le n longest_value ≡ true → n ≤ longest_value
            few n h = grind (arith, nat_tests)

      named : (name n : List ℕ) → spaced (name ∷ n ∷ []) ≡ line.text → length_of_words (name ∷ n ∷ []) ≡ Some count → SpellsLength line.text count × (count ≤ longest_value)
      named name n is h =
          let t = let_through (bytes_eq name (codes "value")) (length_of (number_of n)) count h in
          let is_name = (bytes_eq-Decides name (codes "value")).0 t.0 in
          let w = within (number_of n) t.1 in
          ((n, read-IsNumber n count w.0, sym is ∙ ap (λ first. spaced (first ∷ n ∷ [])) is_name), w.1)

      by_words : (words : List (List ℕ)) → spaced words ≡ line.text → length_of_words words ≡ Some count → SpellsLength line.text count × (count ≤ longest_value)
      by_words [] is h = cc
      by_words (name ∷ []) is h = cc
      by_words (name ∷ n ∷ []) is h = named name n is h
      by_words (name ∷ n ∷ more ∷ words) is h = cc

pub one_length : (line other : List ℕ) (count : ℕ) → SpellsLength line count → SpellsLength other count → line ≡ other
one_length line other count (n, is_n, is) (m, is_m, as_well) =
    is ∙ ap (λ x. spaced (codes "value" ∷ x ∷ [])) (IsNumber-decimal n count is_n ∙ sym (IsNumber-decimal m count is_m)) ∙ sym as_well

-- ---- the line of a part

pub part_no_feed : (line : List ℕ) (part : TakenPart) → SpellsPart line part → HasNoLineFeed line
part_no_feed line part (j, hex, is_j, is_hex, is) =
    ap (list_any is_feed) is
    ∙ none_of_both j (32 ∷ hex) (list_any_none is_feed j (number_without 10 j part.member (omega arith) is_j)) (list_any_none is_feed hex (word_without 10 hex part.bytes (omega arith) is_hex))

part_words : (j hex : List ℕ) (part : TakenPart) → IsNumber j part.member → IsBytesWord hex part.bytes → words_of (spaced (codes "part" ∷ j ∷ hex ∷ [])) ≡ codes "part" ∷ j ∷ hex ∷ []
part_words j hex part is_j is_hex =
    let last : slice_split is_blank hex ≡ hex ∷ [] = slice_split_none is_blank hex (word_without 32 hex part.bytes (omega arith) is_hex) in
    let after : slice_split is_blank (j ++ 32 ∷ hex) ≡ j ∷ hex ∷ [] =
    slice_split_at is_blank j 32 hex (number_without 32 j part.member (omega arith) is_j) refl ∙ ap (λ words. j ∷ words) last in
    ap (λ words. codes "part" ∷ words) after

rises : (next members member : ℕ) → next ≤ member → member < members → rising_member next members (Some member) ≡ Some member
rises next members member later few = grind (arith, nat_tests)

pub part_is_read : (shape : Shape) (said : Said) (line : List ℕ) (part : TakenPart) → IsPartLine shape said.value_length said.next line part
    → with_line shape said (record { text = line; ended = true }) ≡ Some (with_part said part.member part.bytes)
part_is_read shape said line part ((j, hex, is_j, is_hex, is), (later, few, size), short) =
    ap (λ test. if test then part_of_words shape said (words_of line) else None) (is_short (length line) short)
    ∙ ap (λ text. part_of_words shape said (words_of text)) is
    ∙ ap (part_of_words shape said) (part_words j hex part is_j is_hex)
    ∙ ap (λ m. with_part_of said (rising_member said.next (members_of shape) m) (bytes_of (part_length said.value_length shape.need) hex)) (IsNumber-read j part.member is_j)
    ∙ ap (λ m. with_part_of said m (bytes_of (part_length said.value_length shape.need) hex)) (rises said.next (members_of shape) part.member later few)
    ∙ ap (λ n. with_part_of said (Some part.member) (bytes_of n hex)) (sym size)
    ∙ ap (with_part_of said (Some part.member)) (word_read hex part.bytes is_hex)

-- a line that was read as a part, and that part
pub record ReadPart (shape : Shape) (said : Said) (line : TextLine) (next : Said) : Type 0 where
  pub part : TakenPart
  pub ended : line.ended ≡ true
  pub good : IsPartLine shape said.value_length said.next line.text part
  pub told : next ≡ with_part said part.member part.bytes

pub read_is_part : (shape : Shape) (said : Said) (line : TextLine) (next : Said) → with_line shape said line ≡ Some next → ReadPart shape said line next
read_is_part shape said line next h =
    let whole = let_through (is_whole line) (part_of_words shape said (words_of line.text)) next h in
    let parts = whole_parts line.ended (length line.text) whole.0 in
    by_words parts.0 parts.1 (words_of line.text) (join_with_byte-slice_split 32 line.text) whole.1 where
      risen : (read : Option ℕ) (member : ℕ) → rising_member said.next (members_of shape) read ≡ Some member
          → (read ≡ Some member) × (said.next ≤ member) × (member < members_of shape)
      risen None member h = cc
      risen (Some m) member h =
          let t = let_through (nat_le said.next m && nat_lt m (members_of shape)) (Some m) member h in
          let same : m ≡ member = cc (t.1) in
          let f = few m t.0 in
          (t.1, subst (λ x. said.next ≤ x) same f.0, subst (λ x. x < members_of shape) same f.1) where
            few : (m : ℕ) → (nat_le said.next m && nat_lt m (members_of shape)) ≡ true → (said.next ≤ m) × (m < members_of shape)
            few m h = grind (arith, nat_tests)

      both : (member : Option ℕ) (bytes : Option (List ℕ)) → with_part_of said member bytes ≡ Some next
          → (m : ℕ) × (b : List ℕ) × (member ≡ Some m) × (bytes ≡ Some b) × (next ≡ with_part said m b)
      both None bytes h = cc
      both (Some m) None h = cc
      both (Some m) (Some b) h = (m, b, refl, refl, cc)

      named : line.ended ≡ true → length line.text + 1 ≤ longest_line → (name j hex : List ℕ) → spaced (name ∷ j ∷ hex ∷ []) ≡ line.text
          → part_line_of shape said name j hex ≡ Some next → ReadPart shape said line next
      named ended short name j hex is h =
          let size = part_length said.value_length shape.need in
          let t = let_through (bytes_eq name (codes "part")) (with_part_of said (rising_member said.next (members_of shape) (number_of j)) (bytes_of size hex)) next h in
          let is_name = (bytes_eq-Decides name (codes "part")).0 t.0 in
          let (m, b, is_m, is_b, told) = both (rising_member said.next (members_of shape) (number_of j)) (bytes_of size hex) t.1 in
          let (is_j, later, few) = risen (number_of j) m is_m in
          let w = read_word size hex b is_b in
          record {
            part = record { member = m; bytes = b };
            ended = ended;
            good = ((j, hex, read-IsNumber j m is_j, w.0, sym is ∙ ap (λ first. spaced (first ∷ j ∷ hex ∷ [])) is_name), (later, few, w.1), short);
            told = told;
          }

      by_words : line.ended ≡ true → length line.text + 1 ≤ longest_line → (words : List (List ℕ)) → spaced words ≡ line.text
          → part_of_words shape said words ≡ Some next → ReadPart shape said line next
      by_words ended short [] is h = cc
      by_words ended short (name ∷ []) is h = cc
      by_words ended short (name ∷ j ∷ []) is h = cc
      by_words ended short (name ∷ j ∷ hex ∷ []) is h = named ended short name j hex is h
      by_words ended short (name ∷ j ∷ hex ∷ more ∷ words) is h = cc

pub one_part : (line other : List ℕ) (part : TakenPart) → SpellsPart line part → SpellsPart other part → line ≡ other
one_part line other part (j, hex, is_j, is_hex, is) (i, word, is_i, is_word, as_well) =
    is ∙ ap (λ x. spaced (codes "part" ∷ x ∷ hex ∷ [])) (IsNumber-decimal j part.member is_j ∙ sym (IsNumber-decimal i part.member is_i))
    ∙ ap (λ x. spaced (codes "part" ∷ i ∷ x ∷ [])) (one_word hex word part.bytes is_hex is_word) ∙ sym as_well
