-- What a member that prepares decides, index by index.
use Rattle.std.specs.Prelude.{ℕ, ◌+◌, List, [], ◌∷◌, drop, if◌then◌else◌, Option, None, Some}
use Rattle.craft_base.specs.Shape.{Shape}
use Rattle.craft_base.specs.declared.command.Entry.{Entry}
use Rattle.entry_frames.specs.Entries.{is_whole}
use Rattle.leader_prep.specs.Pages.{Page, is_shown, latest_slot}
use Rattle.leader_prep.specs.Verdicts.{Source, Verdict, Wait, Rebuild, Cut, verdict}

-- ---- what is to be decided

-- an entry that a log holds as a part, and its index
pub record OpenPart : Type 0 where
  pub index : ℕ
  pub entry : Entry

-- those among entries the first of which has that index
abbrev pub parts_from : ℕ → List Entry → List OpenPart
parts_from index [] = []
parts_from index (entry ∷ entries) =
    if is_whole entry.form then parts_from (index + 1) entries
    else record { index = index; entry = entry } ∷ parts_from (index + 1) entries

-- the entry, where it is a part
abbrev pub if_part : Option Entry → Option Entry
if_part None = None
if_part (Some entry) = if is_whole entry.form then None else Some entry

-- those of a log above its commit index, in order
abbrev pub open_parts : (commit : ℕ) → List Entry → List OpenPart
open_parts commit log = parts_from (commit + 1) (drop commit log)

abbrev pub first_index : List OpenPart → Option ℕ
first_index [] = None
first_index (part ∷ parts) = Some part.index

-- Cursor: the least index above the commit index that the log holds as a part, if there is one
abbrev pub cursor_of : (commit : ℕ) → List Entry → Option ℕ
cursor_of commit log = first_index (open_parts commit log)

-- ---- what is decided

-- an index whose value is had, and where from
pub record Rebuilt : Type 0 where
  pub index : ℕ
  pub source : Source

-- the values that are had, where the log is cut, if it is, and the cursor that is left, if there is one
pub record Decision : Type 0 where
  pub rebuilt : List Rebuilt
  pub cut : Option ℕ
  pub cursor : Option ℕ

-- A value is had, and it goes on with the rest. A cut leaves nothing to decide. What has to wait is the cursor.
abbrev pub decision_at : ℕ → Verdict → Decision → Decision
decision_at index Wait rest = record { rebuilt = []; cut = None; cursor = Some index }
decision_at index (Rebuild source) rest = record rest { rebuilt = record { index = index; source = source } ∷ rest.rebuilt }
decision_at index Cut rest = record { rebuilt = []; cut = Some index; cursor = None }

abbrev pub decided : (OpenPart → Verdict) → List OpenPart → Decision
decided verdict [] = record { rebuilt = []; cut = None; cursor = None }
decided verdict (part ∷ parts) = decision_at part.index (verdict part) (decided verdict parts)

abbrev pub verdict_at : Shape → (me : ℕ) → List Page → OpenPart → Verdict
verdict_at shape me pages part =
    verdict shape me part.entry (λ member. is_shown member pages part.index) (λ member. latest_slot member pages part.index)

-- Decision: what the member `me` decides by these pages, with that log
abbrev pub decision : Shape → (me : ℕ) → List Page → (commit : ℕ) → List Entry → Decision
decision shape me pages commit log = decided (verdict_at shape me pages) (open_parts commit log)
