-- Replies to clients as bytes: one row each in one table.
use Rattle.std.specs.Prelude.{ℕ, Bool, true, false, Option, None, Some, List, [], ◌∷◌, length, ◌==◌, ◌||◌, nat_lt, if◌then◌else◌}
use Rattle.craft_base.specs.declared.command.Reply.{Reply}
use Rattle.craft_base.specs.declared.command.Reply.TheVariants as replies
use Rattle.entry_frames.specs.declared.reply_kind.ReplyKind.{ReplyKind}
use Rattle.entry_frames.specs.declared.reply_kind.ReplyKind.TheVariants.{Done, Differs, Gone, Found, Nothing, Old, Elsewhere, Preparing, Busy, Full}
use Rattle.entry_frames.specs.Formats.{Format, Value, Number, Bytes, U8, U32, U64, within}
use Rattle.entry_frames.specs.Limits.{last_place, longest_value}

abbrev pub reply_byte : ReplyKind → ℕ
reply_byte Done = 1
reply_byte Differs = 2
reply_byte Gone = 3
reply_byte Found = 4
reply_byte Nothing = 5
reply_byte Old = 6
reply_byte Elsewhere = 7
reply_byte Preparing = 8
reply_byte Busy = 9
reply_byte Full = 10

abbrev pub reply_kinds : List ReplyKind
reply_kinds = Done ∷ Differs ∷ Gone ∷ Found ∷ Nothing ∷ Old ∷ Elsewhere ∷ Preparing ∷ Busy ∷ Full ∷ []

-- the kind in the list that is written as that byte, Old where there is none
abbrev pub reply_kind_in : List ReplyKind → ℕ → ReplyKind
reply_kind_in [] byte = Old
reply_kind_in (kind ∷ kinds) byte = if reply_byte kind == byte then kind else reply_kind_in kinds byte

abbrev pub reply_kind_with : ℕ → ReplyKind
reply_kind_with byte = reply_kind_in reply_kinds byte

abbrev pub is_reply_byte : ℕ → Bool
is_reply_byte byte = reply_byte (reply_kind_with byte) == byte

abbrev pub reply_kind : Reply → ReplyKind
reply_kind (replies.Done version) = Done
reply_kind (replies.Differs version) = Differs
reply_kind (replies.Gone was_there) = Gone
reply_kind (replies.Value version bytes) = Found
reply_kind replies.Nothing = Nothing
reply_kind replies.Old = Old
reply_kind (replies.Elsewhere hint) = Elsewhere
reply_kind replies.Preparing = Preparing
reply_kind replies.Busy = Busy
reply_kind replies.Full = Full

-- the version that a reply tells, if any
abbrev pub version_told : Reply → ℕ
version_told (replies.Done version) = version
version_told (replies.Differs version) = version
version_told (replies.Value version bytes) = version
version_told _ = 0

-- the value that it tells
abbrev pub value_told : Reply → List ℕ
value_told (replies.Value version bytes) = bytes
value_told _ = []

abbrev pub bool_byte : Bool → ℕ
bool_byte false = 0
bool_byte true = 1

abbrev pub bool_with : ℕ → Bool
bool_with byte = byte == 1

-- a member, or ff for none
abbrev pub member_byte : Option ℕ → ℕ
member_byte None = 255
member_byte (Some member) = member

abbrev pub member_with : ℕ → Option ℕ
member_with byte = if byte == 255 then None else Some byte

abbrev pub is_hint_byte : ℕ → ℕ → Bool
is_hint_byte members byte = nat_lt byte members || (byte == 255)

abbrev pub was_there_byte : Reply → ℕ
was_there_byte (replies.Gone was_there) = bool_byte was_there
was_there_byte _ = 0

abbrev pub hint_byte : Reply → ℕ
hint_byte (replies.Elsewhere hint) = member_byte hint
hint_byte _ = 0

-- the fields of a reply of each kind, in a cluster of so many members
abbrev pub reply_fields_of : ℕ → ReplyKind → Format Reply
reply_fields_of members Done = Number true U64 (within 0 last_place) version_told λ version. Value (replies.Done version)
reply_fields_of members Differs = Number true U64 (within 0 last_place) version_told λ version. Value (replies.Differs version)
reply_fields_of members Gone = Number true U8 (within 0 1) was_there_byte λ was_there. Value (replies.Gone (bool_with was_there))
reply_fields_of members Found =
    Number true U64 (within 0 last_place) version_told λ version.
    Number true U32 (within 0 longest_value) (λ r. length (value_told r)) λ value_length.
    Bytes value_length value_told λ bytes.
    Value (replies.Value version bytes)
reply_fields_of members Nothing = Value replies.Nothing
reply_fields_of members Old = Value replies.Old
reply_fields_of members Elsewhere =
    Number true U8 (is_hint_byte members) hint_byte λ hint. Value (replies.Elsewhere (member_with hint))
reply_fields_of members Preparing = Value replies.Preparing
reply_fields_of members Busy = Value replies.Busy
reply_fields_of members Full = Value replies.Full

abbrev pub reply_fields : ℕ → Format Reply
reply_fields members = Number true U8 is_reply_byte (λ r. reply_byte (reply_kind r)) λ byte. reply_fields_of members (reply_kind_with byte)
