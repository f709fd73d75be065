-- Which entries go, and in which form, as one loop takes all three ways.
use Rattle.std.specs.Prelude.{ℕ, List, map, Bool, true, ◌&&◌, nat_le, if◌then◌else◌, Option, None, Some}
use Rattle.craft_base.specs.declared.command.Entry.{Entry}
use Rattle.entry_frames.specs.Entries.{entry_room, is_whole}
use Rattle.entry_frames.specs.Views.{IsK}
use Rattle.coded_append.specs.Batches.{before_part, sent_to}
use Rattle.coded_append.specs.declared.forms.Way.{Way}
use Rattle.coded_append.specs.declared.forms.Way.TheVariants as ways

-- so many fragments can rebuild a value
abbrev pub IsWay : Way → Type 0
IsWay ways.Held = Unit {0}
IsWay ways.Whole = Unit {0}
IsWay (ways.Part need member) = IsK need

-- whether the entry goes, were there room for it
abbrev pub goes : Way → Entry → Bool
goes ways.Held entry = true
goes ways.Whole entry = is_whole entry.form
goes (ways.Part need member) entry = is_whole entry.form

-- the entry as it goes
abbrev pub sent_by : Way → Entry → Entry
sent_by ways.Held entry = entry
sent_by ways.Whole entry = entry
sent_by (ways.Part need member) entry = sent_to need member entry

-- those before the first that doesn't go
abbrev pub front : Way → List Entry → List Entry
front ways.Held entries = entries
front ways.Whole entries = before_part entries
front (ways.Part need member) entries = before_part entries

-- what goes of these entries, were there room for all
abbrev pub going : Way → List Entry → List Entry
going way entries = map (sent_by way) (front way entries)

-- the entry, where it goes and there is room for the bytes in which it does
abbrev pub sendable : Way → (room : ℕ) → Option Entry → Option Entry
sendable way room None = None
sendable way room (Some entry) = if goes way entry && nat_le (entry_room (sent_by way entry)) room then Some entry else None
