-- What is written of the parts of a message.
use Rattle.std.specs.Prelude.{ℕ, true, List, ◌++◌, length}
use Rattle.std.specs.List.{flat_map}
use Rattle.craft_base.specs.Shape.{Shape}
use Rattle.craft_base.specs.declared.command.Entry.{Entry}
use Rattle.entry_frames.specs.Entries.{entry_fields}
use Rattle.entry_frames.specs.Formats.{U8, U64, number_bytes, spelling}
use Rattle.entry_frames.specs.declared.kind.Kind.{Kind}
use Rattle.entry_frames.specs.Kinds.{kind_byte}

abbrev pub byte_text : ℕ → List ℕ
byte_text n = number_bytes true U8 n

abbrev pub u64_text : ℕ → List ℕ
u64_text n = number_bytes true U64 n

-- the entries of a message, one after the other
abbrev pub entries_text : ℕ → List Entry → List ℕ
entries_text k entries = flat_map (spelling (entry_fields k)) entries

abbrev pub append_text : ℕ → ℕ → ℕ → ℕ → List Entry → List ℕ
append_text k prev prev_term commit entries =
    u64_text prev ++ (u64_text prev_term ++ (u64_text commit ++ (byte_text (length entries) ++ entries_text k entries)))

abbrev pub answer_text : ℕ → ℕ → ℕ → List Entry → List ℕ
answer_text k start last slots = u64_text start ++ (u64_text last ++ (byte_text (length slots) ++ entries_text k slots))

abbrev pub head_text : Shape → Kind → ℕ → ℕ → List ℕ
head_text shape kind sender receiver =
    byte_text 67 ++ (byte_text 82 ++ (byte_text 1 ++ (byte_text shape.faults ++ (byte_text shape.need ++ (byte_text (kind_byte kind)
    ++ (byte_text sender ++ byte_text receiver))))))
