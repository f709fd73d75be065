-- A log and how far it is committed, as a view of it tells.
use Rattle.std.specs.Prelude.{ℕ, zero, suc, ◌≤◌, List, length, Option, None, Some, slice_get}
use Rattle.craft_base.specs.declared.command.Entry.{Entry}
use Rattle.entry_frames.specs.Limits.{last_place}
use Rattle.entry_frames.specs.Views.{Viewed}

-- the log of a cluster with that k, and the index up to which it is committed
pub record Log : Type 0 where
  pub k : ℕ
  pub entries : List Entry
  pub commit : ℕ

-- a log isn't longer than indexes go, and isn't committed past its end
pub record IsLog (log : Log) : Type 0 where
  pub short : length log.entries ≤ last_place
  pub committed : log.commit ≤ length log.entries

-- the entry at an index, the first of which is 1
abbrev pub entry_at : List Entry → ℕ → Option Entry
entry_at entries zero = None
entry_at entries (suc before) = slice_get entries before

abbrev pub term_of_entry : Option Entry → ℕ
term_of_entry None = 0
term_of_entry (Some entry) = entry.term

-- the term at an index, 0 at 0
abbrev pub term_at : List Entry → ℕ → ℕ
term_at entries index = term_of_entry (entry_at entries index)

-- the index of the last entry, 0 where there is none
abbrev pub last_index : List Entry → ℕ
last_index entries = length entries

-- the term of the last entry, 0 where there is none
abbrev pub last_term : List Entry → ℕ
last_term entries = term_at entries (last_index entries)

abbrev pub viewed_with : ℕ → Option Entry → Option Viewed
viewed_with k None = None
viewed_with k (Some entry) = Some (record { k = k; entry = entry })
