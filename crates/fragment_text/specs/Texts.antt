-- The text of a value and its fragments.
use Rattle.std.specs.Prelude.{ℕ, List, [], ◌∷◌, ◌++◌, length, map, codes}
use Rattle.std.specs.List.{concat, range_with_len}
use Rattle.std.specs.Fmt.{decimal}
use Rattle.craft_base.specs.Shape.{Shape, members_of}
use Rattle.rs_code.specs.Fragments.{fragment}
use Rattle.rs_code.specs.Rebuilding.{TakenPart}
use Rattle.world_model.specs.Lines.{line_of, bytes_word}
use Rattle.fragment_text.specs.Said.{Said}

-- the first line: the value's length
abbrev pub value_line : ℕ → List ℕ
value_line count = line_of (codes "value" ∷ decimal count ∷ [])

-- the line of a member's fragment
abbrev pub part_line : ℕ → List ℕ → List ℕ
part_line member bytes = line_of (codes "part" ∷ decimal member ∷ bytes_word bytes ∷ [])

-- the line of a member's fragment of a value
abbrev pub fragment_line : Shape → List ℕ → ℕ → List ℕ
fragment_line shape value member = part_line member (fragment value shape.need member)

-- the text of a value: its length, and its fragment for each member, in order
abbrev pub split_text : Shape → List ℕ → List ℕ
split_text shape value = value_line (length value) ++ concat (map (fragment_line shape value) (range_with_len 0 (members_of shape)))

-- a member's fragment of a value, as a part
abbrev pub fragment_part : Shape → List ℕ → ℕ → TakenPart
fragment_part shape value member = record { member = member; bytes = fragment value shape.need member }

-- what the text of a value says: its length, and the part of each member, in order
abbrev pub said_of : Shape → List ℕ → Said
said_of shape value = record {
  value_length = length value;
  parts = map (fragment_part shape value) (range_with_len 0 (members_of shape));
  next = members_of shape;
}
