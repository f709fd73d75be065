-- An entry of the log as bytes.
use Rattle.std.specs.Prelude.{ℕ, ◌+◌, Bool, true, false, not, ◌&&◌, ◌||◌, List, [], ◌∷◌, length, ◌==◌, if◌then◌else◌}
use Rattle.craft_base.specs.Parts.{part_length}
use Rattle.craft_base.specs.declared.command.Entry.{Entry}
use Rattle.craft_base.specs.declared.command.Form.{Form}
use Rattle.craft_base.specs.declared.command.Form.TheVariants as forms
use Rattle.entry_frames.specs.declared.op_kind.OpKind.{OpKind}
use Rattle.entry_frames.specs.declared.tag.Tag.{Tag}
use Rattle.entry_frames.specs.declared.tag.Tag.TheVariants.{Whole, Part}
use Rattle.entry_frames.specs.Formats.{Format, Value, Number, Bytes, Test, Unsigned, U8, U32, U64, size_of, within}
use Rattle.entry_frames.specs.Limits.{greatest, longest_value}
use Rattle.entry_frames.specs.Operations.{row, op_kind_with, is_op_byte, op_byte, op_kind, expected_version, op_with}

-- ---- tags: in which form an entry goes

abbrev pub tag_byte : Tag → ℕ
tag_byte Whole = 1
tag_byte Part = 2

abbrev pub tags : List Tag
tags = Whole ∷ Part ∷ []

-- the tag in the list that is written as that byte, Whole where there is none
abbrev pub tag_in : List Tag → ℕ → Tag
tag_in [] byte = Whole
tag_in (tag ∷ tags') byte = if tag_byte tag == byte then tag else tag_in tags' byte

abbrev pub tag_with : ℕ → Tag
tag_with byte = tag_in tags byte

abbrev pub is_tag_byte : ℕ → Bool
is_tag_byte byte = tag_byte (tag_with byte) == byte

abbrev pub is_part : Tag → Bool
is_part Whole = false
is_part Part = true

abbrev pub tag_of : Form → Tag
tag_of (forms.Whole bytes) = Whole
tag_of (forms.Part bytes) = Part

-- whether all bytes of the value are held
abbrev pub is_whole : Form → Bool
is_whole (forms.Whole bytes) = true
is_whole (forms.Part bytes) = false

abbrev pub form_bytes : Form → List ℕ
form_bytes (forms.Whole bytes) = bytes
form_bytes (forms.Part bytes) = bytes

abbrev pub form_with : Tag → List ℕ → Form
form_with Whole bytes = forms.Whole bytes
form_with Part bytes = forms.Part bytes

-- how many bytes of the value are held: all, or one of the fragments any `k` of which rebuild it
abbrev pub held_length : ℕ → Tag → ℕ → ℕ
held_length k Whole value_length = value_length
held_length k Part value_length = part_length value_length k

-- ---- ranges that depend on the tag and the operation

-- only what has a value can be held as a part, and only where that isn't empty
abbrev pub is_op_byte_under : Tag → ℕ → Bool
is_op_byte_under tag byte = is_op_byte byte && (not (is_part tag) || (row (op_kind_with byte)).sets)

-- from 1 on where a client asks, else 0
abbrev pub least_asked : OpKind → ℕ
least_asked kind = if (row kind).asked then 1 else 0

abbrev pub greatest_asked : OpKind → ℕ → ℕ
greatest_asked kind most = if (row kind).asked then most else 0

abbrev pub least_value : Tag → ℕ
least_value tag = if is_part tag then 1 else 0

-- ---- the fields

-- the fields from the term on; the term lies between two others
abbrev pub entry_fields_of : ℕ → ℕ → ℕ → Tag → OpKind → Format Entry
entry_fields_of k low high tag kind =
    Number true U64 (within 1 greatest) (λ e. e.term) λ term.
    Test (within low high term) 10 (
    Number true U64 (within (least_asked kind) (greatest_asked kind greatest)) (λ e. e.head.client) λ client.
    Number true U64 (within (least_asked kind) (greatest_asked kind greatest)) (λ e. e.head.seq) λ seq.
    Number (row kind).expects U64 (within 0 greatest) (λ e. expected_version e.head.op) λ expected.
    Number true U8 (within (least_asked kind) (greatest_asked kind 255)) (λ e. length e.head.key) λ key_length.
    Bytes key_length (λ e. e.head.key) λ key.
    Number (row kind).sets U32 (within (least_value tag) longest_value) (λ e. e.head.vlen) λ value_length.
    Bytes (held_length k tag value_length) (λ e. form_bytes e.form) λ bytes.
    Value (record {
      term = term;
      head = record { client = client; seq = seq; op = op_with kind expected; key = key; vlen = value_length };
      form = form_with tag bytes;
    }))

-- an entry, any `k` fragments of whose value rebuild it, with a term between two others
abbrev pub entry_fields_in : ℕ → ℕ → ℕ → Format Entry
entry_fields_in k low high =
    Number true U8 is_tag_byte (λ e. tag_byte (tag_of e.form)) λ tag.
    Number true U8 (is_op_byte_under (tag_with tag)) (λ e. op_byte e.head.op) λ op.
    entry_fields_of k low high (tag_with tag) (op_kind_with op)

-- the same with any term
abbrev pub entry_fields : ℕ → Format Entry
entry_fields k = entry_fields_in k 0 greatest

-- how many bytes a number takes
abbrev pub number_room : Bool → Unsigned → ℕ
number_room false unsigned = 0
number_room true unsigned = size_of unsigned

-- how many bytes an entry takes
abbrev pub entry_room : Entry → ℕ
entry_room e =
    27 + number_room (row (op_kind e.head.op)).expects U64 + length e.head.key + number_room (row (op_kind e.head.op)).sets U32
    + length (form_bytes e.form)
