-- How a value's length and its parts are spelled as a text, by cases on bytes.
use Rattle.std.specs.Prelude.{◌≡◌, ◌≢◌, ◌⊎◌, ℕ, ◌+◌, ◌*◌, ◌<◌, ◌≤◌, List, [], ◌∷◌, ◌++◌, length, codes, ⊤}
use Rattle.craft_base.specs.Parts.{part_length}
use Rattle.craft_base.specs.Shape.{Shape, members_of}
use Rattle.entry_frames.specs.Limits.{longest_value}
use Rattle.rs_code.specs.Rebuilding.{TakenPart}
use Rattle.world_model.specs.Schedule.{longest_line}
use Rattle.world_model.specs.Spelling.{IsNumber, spaced}
use Rattle.fragment_text.specs.Said.{Said}

-- the digit of a number below 16: 0 to 9, and then a to f
abbrev pub IsHexDigit : ℕ → ℕ → Type 0
IsHexDigit byte n = ((n < 10) × (byte ≡ 48 + n)) ⊎ ((10 ≤ n) × (n < 16) × (byte ≡ 87 + n))

-- two digits for each byte, of which the first counts sixteen
abbrev pub AreHexDigits : List ℕ → List ℕ → Type 0
AreHexDigits [] [] = ⊤
AreHexDigits (first ∷ second ∷ digits) (byte ∷ bytes) =
    (high : ℕ) × (low : ℕ) × IsHexDigit first high × IsHexDigit second low × (byte ≡ 16 * high + low) × AreHexDigits digits bytes
AreHexDigits _ _ = ⊥

-- bytes as a word: their digits, and `-` for none
abbrev pub IsBytesWord : List ℕ → List ℕ → Type 0
IsBytesWord word [] = word ≡ codes "-"
IsBytesWord word (byte ∷ bytes) = AreHexDigits word (byte ∷ bytes)

-- `value n`, without its line feed: n is the value's length
abbrev pub SpellsLength : List ℕ → ℕ → Type 0
SpellsLength line count = (n : List ℕ) × IsNumber n count × (line ≡ spaced (codes "value" ∷ n ∷ []))

-- `part j hex`, without its line feed: j is the part's member, and hex its bytes
abbrev pub SpellsPart : List ℕ → TakenPart → Type 0
SpellsPart line part =
    (j : List ℕ) × (hex : List ℕ) × IsNumber j part.member × IsBytesWord hex part.bytes × (line ≡ spaced (codes "part" ∷ j ∷ hex ∷ []))

-- a part that may come where members rise from `next` on: of a member of the cluster, and as long as a part of such a value is
abbrev pub IsPartFrom : Shape → ℕ → ℕ → TakenPart → Type 0
IsPartFrom shape value_length next part =
    (next ≤ part.member) × (part.member < members_of shape) × (length part.bytes ≡ part_length value_length shape.need)

-- a good first line: a value has at most 32,768 bytes. The line feed counts in a line's length.
abbrev pub IsLengthLine : List ℕ → ℕ → Type 0
IsLengthLine line count = SpellsLength line count × (count ≤ longest_value) × (length line + 1 ≤ longest_line)

-- a good line of a part
abbrev pub IsPartLine : Shape → ℕ → ℕ → List ℕ → TakenPart → Type 0
IsPartLine shape value_length next line part =
    SpellsPart line part × IsPartFrom shape value_length next part × (length line + 1 ≤ longest_line)

-- the least member that may come after these parts, where `next` may come before them
abbrev pub next_after : ℕ → List TakenPart → ℕ
next_after next [] = next
next_after next (part ∷ parts) = next_after (part.member + 1) parts

-- the bytes are good lines of these parts, each with its line feed, and then the rest
abbrev pub ArePartLines : Shape → ℕ → ℕ → List ℕ → List TakenPart → List ℕ → Type 0
ArePartLines shape value_length next bytes [] rest = bytes ≡ rest
ArePartLines shape value_length next bytes (part ∷ parts) rest =
    (line : List ℕ) × (after : List ℕ) × (bytes ≡ line ++ 10 ∷ after) × IsPartLine shape value_length next line part
    × ArePartLines shape value_length (part.member + 1) after parts rest

-- the bytes are a line of the value's length and the lines of these parts, and then the rest
abbrev pub AreLines : Shape → List ℕ → ℕ → List TakenPart → List ℕ → Type 0
AreLines shape bytes value_length parts rest =
    (line : List ℕ) × (after : List ℕ) × (bytes ≡ line ++ 10 ∷ after) × IsLengthLine line value_length
    × ArePartLines shape value_length 0 after parts rest

-- the bytes spell what is said, and nothing else
abbrev pub SpellsText : Shape → List ℕ → Said → Type 0
SpellsText shape bytes said = AreLines shape bytes said.value_length said.parts [] × (said.next ≡ next_after 0 said.parts)

-- no line of a length begins the bytes
abbrev pub HasNoLength : List ℕ → Type 0
HasNoLength bytes = (line after : List ℕ) (count : ℕ) → bytes ≡ line ++ 10 ∷ after → IsLengthLine line count → ⊥

-- the bytes don't end here, and no line of a part that may come begins them
abbrev pub HasNoPart : Shape → ℕ → ℕ → List ℕ → Type 0
HasNoPart shape value_length next bytes =
    (bytes ≢ [])
    × ((line after : List ℕ) (part : TakenPart) → bytes ≡ line ++ 10 ∷ after → IsPartLine shape value_length next line part → ⊥)

-- the lines before the n-th are good, and the n-th isn't: the first is to be of the length, and the others of parts
abbrev pub IsFirstBad : Shape → List ℕ → ℕ → Type 0
IsFirstBad shape bytes n =
    ((n ≡ 1) × HasNoLength bytes)
    ⊎ ((value_length : ℕ) × (parts : List TakenPart) × (rest : List ℕ) × AreLines shape bytes value_length parts rest
    × (n ≡ length parts + 2) × HasNoPart shape value_length (next_after 0 parts) rest)
