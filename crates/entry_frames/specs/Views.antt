-- What a view of an entry shows.
use Rattle.std.specs.Prelude.{ℕ, ◌≤◌}
use Rattle.craft_base.specs.declared.command.Entry.{Entry}
use Rattle.entry_frames.specs.declared.entry_parts.EntryParts.{EntryParts}
use Rattle.entry_frames.specs.Entries.{entry_fields, form_with}
use Rattle.entry_frames.specs.Formats.{Fits}

-- the entry that its parts are
abbrev pub entry_of : EntryParts → Entry
entry_of parts =
    record {
      term = parts.term;
      head = record { client = parts.client; seq = parts.seq; op = parts.op; key = parts.key.now; vlen = parts.vlen };
      form = form_with parts.tag parts.bytes.now;
    }

-- how many fragments rebuild a value
abbrev pub IsK : ℕ → Type 0
IsK k = (1 ≤ k) × (k ≤ 8)

-- an entry, and how many fragments rebuild its value
pub record Viewed : Type 0 where
  pub k : ℕ
  pub entry : Entry

-- it meets the ranges
pub record IsInRange (viewed : Viewed) : Type 0 where
  pub k : IsK viewed.k
  pub fits : Fits (entry_fields viewed.k) viewed.entry
