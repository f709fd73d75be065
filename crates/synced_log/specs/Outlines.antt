-- What is kept of a state while a file is read: enough to tell where a record can be applied.
use Rattle.std.specs.Prelude.{ℕ, zero, suc, ◌-◌, Bool, true, false, not, ◌&&◌, ◌||◌, ◌==◌, List, [], ◌∷◌, ◌++◌, length, take, nat_le, nat_lt, None, Some, Option, is_some, slice_get}
use Rattle.craft_base.specs.Shape.{Shape, members_of}
use Rattle.craft_base.specs.declared.command.Entry.{Entry}
use Rattle.entry_frames.specs.Durable.{Durable}
use Rattle.entry_frames.specs.Entries.{is_whole}
use Rattle.entry_frames.specs.Limits.{greatest, last_place}
use Rattle.entry_frames.specs.Records.{Record, Term, Add, Cut, Whole, Commit}
use Rattle.synced_log.specs.declared.outline.EntryOutline.{EntryOutline}

-- of an entry its term, the length of its value and whether it has all of it
abbrev pub outline_of_entry : Entry → EntryOutline
outline_of_entry entry = record { term = entry.term; vlen = entry.head.vlen; whole = is_whole entry.form }

abbrev pub outlines_of : List Entry → List EntryOutline
outlines_of [] = []
outlines_of (entry ∷ log) = outline_of_entry entry ∷ outlines_of log

pub record Outline : Type 0 where
  pub term : ℕ
  pub vote : Option ℕ
  pub commit : ℕ
  pub entries : List EntryOutline

abbrev pub outline_of : Durable → Outline
outline_of d = record { term = d.term; vote = d.vote; commit = d.commit; entries = outlines_of d.log }

-- ---- the same tests on an outline

abbrev pub is_voter : Shape → Option ℕ → Bool
is_voter shape None = false
is_voter shape (Some member) = nat_lt member (members_of shape)

abbrev pub term_of_outline : Option EntryOutline → ℕ
term_of_outline None = 0
term_of_outline (Some entry) = entry.term

abbrev pub outline_at : List EntryOutline → ℕ → Option EntryOutline
outline_at entries zero = None
outline_at entries (suc before) = slice_get entries before

abbrev pub lacks_value : Option EntryOutline → ℕ → Bool
lacks_value None len = false
lacks_value (Some entry) len = not entry.whole && (entry.vlen == len)

abbrev pub can_apply_term : Shape → Outline → ℕ → Option ℕ → Bool
can_apply_term shape s term vote =
    (nat_le 1 term && nat_le term greatest && nat_lt s.term term) || ((term == s.term) && not (is_some s.vote) && is_voter shape vote)

abbrev pub can_apply_entry : Outline → ℕ → Bool
can_apply_entry s term =
    nat_lt (length s.entries) last_place && nat_le (term_of_outline (outline_at s.entries (length s.entries))) term && nat_le term s.term

abbrev pub is_uncommitted : Outline → ℕ → Bool
is_uncommitted s index = nat_lt s.commit index && nat_le index (length s.entries)

abbrev pub can_apply : Shape → Outline → Record → Bool
can_apply shape s (Term term vote) = can_apply_term shape s term vote
can_apply shape s (Add entry) = can_apply_entry s entry.term
can_apply shape s (Cut index) = is_uncommitted s index
can_apply shape s (Whole index bytes) = lacks_value (outline_at s.entries index) (length bytes)
can_apply shape s (Commit index) = is_uncommitted s index

-- ---- and what records do to it

abbrev pub whole_outline : EntryOutline → EntryOutline
whole_outline entry = record entry { whole = true }

abbrev pub make_whole : List EntryOutline → ℕ → List EntryOutline
make_whole [] index = []
make_whole (entry ∷ entries) zero = whole_outline entry ∷ entries
make_whole (entry ∷ entries) (suc index) = entry ∷ make_whole entries index

abbrev pub outline_after : Outline → Record → Outline
outline_after s (Term term vote) = record s { term = term; vote = vote }
outline_after s (Add entry) = record s { entries = s.entries ++ outline_of_entry entry ∷ [] }
outline_after s (Cut index) = record s { entries = take (index - 1) s.entries }
outline_after s (Whole index bytes) = record s { entries = make_whole s.entries (index - 1) }
outline_after s (Commit index) = record s { commit = index }
