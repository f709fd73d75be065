-- Records of a journal as bytes.
use Rattle.std.specs.Prelude.{◌≡◌, ℕ, ◌-◌, ◌^◌, ◌≤◌, Bool, true, Option, None, List, [], ◌∷◌, ◌++◌, length, take, drop, ◌==◌, if◌then◌else◌}
use Rattle.std.specs.Int.{w64, to_be_bytes}
use Rattle.craft_base.specs.declared.command.Entry.{Entry}
use Rattle.craft_base.specs.declared.command.Form.TheVariants as forms
use Rattle.craft_base.specs.declared.command.Op.TheVariants as ops
use Rattle.entry_frames.specs.declared.record_kind.RecordKind.{RecordKind}
use Rattle.entry_frames.specs.declared.record_kind.RecordKind.TheVariants as kinds
use Rattle.entry_frames.specs.Entries.{entry_fields}
use Rattle.entry_frames.specs.Formats.{Format, Value, Number, Bytes, U8, U32, U64, within, embed, spelling}
use Rattle.entry_frames.specs.Limits.{last_place, longest_value}
use Rattle.entry_frames.specs.Replies.{member_byte, member_with}

-- a change of what a member keeps
pub data Record : Type 0 where
  -- a term, and the vote in it
  Term : (term : ℕ) (vote : Option ℕ) → Record
  -- an entry at the end of the log
  Add : (entry : Entry) → Record
  -- the entries from that index on go
  Cut : (index : ℕ) → Record
  -- the entry at that index becomes whole
  Whole : (index : ℕ) (bytes : List ℕ) → Record
  -- the log is committed up to there
  Commit : (index : ℕ) → Record

abbrev pub record_byte : RecordKind → ℕ
record_byte kinds.Term = 1
record_byte kinds.Add = 2
record_byte kinds.Cut = 3
record_byte kinds.Whole = 4
record_byte kinds.Commit = 5

abbrev pub record_kinds : List RecordKind
record_kinds = kinds.Term ∷ kinds.Add ∷ kinds.Cut ∷ kinds.Whole ∷ kinds.Commit ∷ []

-- the kind in the list that is written as that byte, Commit where there is none
abbrev pub record_kind_in : List RecordKind → ℕ → RecordKind
record_kind_in [] byte = kinds.Commit
record_kind_in (kind ∷ others) byte = if record_byte kind == byte then kind else record_kind_in others byte

abbrev pub record_kind_with : ℕ → RecordKind
record_kind_with byte = record_kind_in record_kinds byte

abbrev pub is_record_byte : ℕ → Bool
is_record_byte byte = record_byte (record_kind_with byte) == byte

abbrev pub record_kind : Record → RecordKind
record_kind (Term term vote) = kinds.Term
record_kind (Add entry) = kinds.Add
record_kind (Cut index) = kinds.Cut
record_kind (Whole index bytes) = kinds.Whole
record_kind (Commit index) = kinds.Commit

-- the number that a record begins with: a term or an index
abbrev pub first_number : Record → ℕ
first_number (Term term vote) = term
first_number (Cut index) = index
first_number (Whole index bytes) = index
first_number (Commit index) = index
first_number _ = 0

abbrev pub vote_of : Record → Option ℕ
vote_of (Term term vote) = vote
vote_of _ = None

abbrev pub value_of : Record → List ℕ
value_of (Whole index bytes) = bytes
value_of _ = []

-- an entry that does nothing
abbrev pub blank : Entry
blank = record { term = 0; head = record { client = 0; seq = 0; op = ops.Noop; key = []; vlen = 0 }; form = forms.Whole [] }

abbrev pub added : Record → Entry
added (Add entry) = entry
added _ = blank

-- the fields of a record of each kind; a term and a vote may be any numbers here
abbrev pub term_fields : Format Record
term_fields =
    Number true U64 (within 0 (2 ^ 64 - 1)) first_number λ term.
    Number true U8 (within 0 255) (λ r. member_byte (vote_of r)) λ vote.
    Value (Term term (member_with vote))

abbrev pub value_fields : Format Record
value_fields =
    Number true U64 (within 1 last_place) first_number λ index.
    Number true U32 (within 1 longest_value) (λ r. length (value_of r)) λ value_length.
    Bytes value_length value_of λ bytes.
    Value (Whole index bytes)

abbrev pub record_fields_of : ℕ → RecordKind → Format Record
record_fields_of k kinds.Term = term_fields
record_fields_of k kinds.Add = embed (entry_fields k) added λ entry. Value (Add entry)
record_fields_of k kinds.Cut = Number true U64 (within 1 last_place) first_number λ index. Value (Cut index)
record_fields_of k kinds.Whole = value_fields
record_fields_of k kinds.Commit = Number true U64 (within 1 last_place) first_number λ index. Value (Commit index)

abbrev pub record_fields : ℕ → Format Record
record_fields k = Number true U8 is_record_byte (λ r. record_byte (record_kind r)) λ byte. record_fields_of k (record_kind_with byte)

-- a list of records, one after the other
abbrev pub record_spellings : ℕ → List Record → List ℕ
record_spellings k [] = []
record_spellings k (r ∷ records) = spelling (record_fields k) r ++ record_spellings k records

-- what stands behind a gate: the length of a body, the body, and the next gate, which is closed
abbrev pub group_bytes : List ℕ → List ℕ
group_bytes body = to_be_bytes w64 (length body) ++ (body ++ 0 ∷ [])

-- the body between the length and the next gate
abbrev pub body_within : List ℕ → List ℕ
body_within bytes = drop 8 (take (length bytes - 1) bytes)

-- these bytes are some body's
pub record IsGroup (bytes : List ℕ) : Type 0 where
  pub long : 9 ≤ length bytes
  pub is : bytes ≡ group_bytes (body_within bytes)
