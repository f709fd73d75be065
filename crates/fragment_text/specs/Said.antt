-- What a text of parts says, line by line.
use Rattle.std.specs.Prelude.{ℕ, ◌+◌, List, [], ◌∷◌, ◌++◌, length, take, Option, None, Some, Result, Ok, Err, ◌&&◌, ◌==◌, if◌then◌else◌, nat_le, nat_lt, codes}
use Rattle.std.specs.Char.{is_ascii_uppercase}
use Rattle.std.specs.List.{slice_split, list_any}
use Rattle.std.specs.Str.{bytes_eq}
use Rattle.hex.specs.Hex.{decode_sized}
use Rattle.hex.specs.declared.error.FromHexError.{FromHexError}
use Rattle.craft_base.specs.Shape.{Shape, members_of}
use Rattle.craft_base.specs.Parts.{part_length}
use Rattle.entry_frames.specs.Limits.{longest_value}
use Rattle.rs_code.specs.Rebuilding.{TakenPart, Rebuilding}
use Rattle.line_input.specs.Lines.{is_whole}
use Rattle.world_model.specs.Numbers.{number_of}
use Rattle.world_model.specs.Schedule.{TextLine, lines_of}

-- what the lines so far said: the value's length, its parts in order, and the least member whose part may come next
pub record Said : Type 0 where
  pub value_length : ℕ
  pub parts : List TakenPart
  pub next : ℕ

-- what all the lines say, or the number of the first bad one
pub data Reading : Type 0 where
  Good : Said → Reading
  BadAt : ℕ → Reading

-- the words of a line, between single blanks
abbrev pub words_of : List ℕ → List (List ℕ)
words_of text = slice_split (λ byte. byte == 32) text

abbrev pub length_of : Option ℕ → Option ℕ
length_of None = None
length_of (Some count) = if nat_le count longest_value then Some count else None

-- `value n`: a value has at most 32,768 bytes
abbrev pub length_of_words : List (List ℕ) → Option ℕ
length_of_words (name ∷ count ∷ []) = if bytes_eq name (codes "value") then length_of (number_of count) else None
length_of_words _ = None

-- the value's length that a line tells
abbrev pub length_at : TextLine → Option ℕ
length_at line = if is_whole line then length_of_words (words_of line.text) else None

abbrev pub if_decoded : Result (List ℕ) FromHexError → Option (List ℕ)
if_decoded (Ok bytes) = Some bytes
if_decoded (Err error) = None

-- that many bytes in lower case hexadecimal digits, and `-` for none
abbrev pub bytes_of : ℕ → List ℕ → Option (List ℕ)
bytes_of size digits =
    if size == 0 then (if bytes_eq digits (codes "-") then Some [] else None)
    else (if list_any is_ascii_uppercase digits then None else if_decoded (decode_sized digits size))

-- a member of a cluster of that many, and none of those before `next`
abbrev pub rising_member : ℕ → ℕ → Option ℕ → Option ℕ
rising_member next members None = None
rising_member next members (Some member) = if nat_le next member && nat_lt member members then Some member else None

-- with a member's part
abbrev pub with_part : Said → ℕ → List ℕ → Said
with_part said member bytes = record {
  value_length = said.value_length;
  parts = said.parts ++ record { member = member; bytes = bytes } ∷ [];
  next = member + 1;
}

abbrev pub with_part_of : Said → Option ℕ → Option (List ℕ) → Option Said
with_part_of said None bytes = None
with_part_of said (Some member) None = None
with_part_of said (Some member) (Some bytes) = Some (with_part said member bytes)

-- `part j hex`: members rise, and each part is as long as the value's length and the cluster's need say
abbrev pub part_line_of : Shape → Said → List ℕ → List ℕ → List ℕ → Option Said
part_line_of shape said name member digits =
    if bytes_eq name (codes "part")
    then with_part_of said (rising_member said.next (members_of shape) (number_of member)) (bytes_of (part_length said.value_length shape.need) digits)
    else None

abbrev pub part_of_words : Shape → Said → List (List ℕ) → Option Said
part_of_words shape said (name ∷ member ∷ digits ∷ []) = part_line_of shape said name member digits
part_of_words shape said _ = None

-- what the lines so far and one more said, or nothing where that one is bad
abbrev pub with_line : Shape → Said → TextLine → Option Said
with_line shape said line = if is_whole line then part_of_words shape said (words_of line.text) else None

-- the line with that number is bad, or the lines after it are read
abbrev pub then_rest : {A : Type 0} → ℕ → Option A → (A → Reading) → Reading
then_rest number None rest = BadAt number
then_rest number (Some told) rest = rest told

-- the lines of parts are read in order; before each stand the value's line and one for each part so far
abbrev pub parts_from : Shape → Said → List TextLine → Reading
parts_from shape said [] = Good said
parts_from shape said (line ∷ lines) = then_rest (length said.parts + 2) (with_line shape said line) (λ next. parts_from shape next lines)

-- nothing but the value's length
abbrev pub only_length : ℕ → Said
only_length count = record { value_length = count; parts = []; next = 0 }

-- the first line tells the value's length, and the others are lines of parts
abbrev pub text_from : Shape → List TextLine → Reading
text_from shape [] = BadAt 1
text_from shape (line ∷ lines) = then_rest 1 (length_at line) (λ count. parts_from shape (only_length count) lines)

-- what an input says to a cluster
abbrev pub reading : Shape → List ℕ → Reading
reading shape bytes = text_from shape (lines_of bytes)

-- as many of the first parts as the cluster needs
abbrev pub first_parts : Shape → Said → Rebuilding
first_parts shape said = record { need = shape.need; value_length = said.value_length; parts = take shape.need said.parts }
