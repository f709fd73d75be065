-- What other members show of their logs to a member that prepares to lead.
use Rattle.std.specs.Prelude.{ℕ, ◌+◌, ◌-◌, List, [], ◌∷◌, length, Bool, false, ◌&&◌, ◌||◌, ◌==◌, nat_le, nat_lt, if◌then◌else◌, Option, None, Some, is_some, slice_get}
use Rattle.std.specs.Option.{option_or}
use Rattle.craft_base.specs.declared.command.Entry.{Entry}
use Rattle.entry_frames.specs.MessageParts.{body_of, entries_of, last_of, sender_byte, start_of}
use Rattle.entry_frames.specs.declared.message.Message.{Message}

-- a page: the entries of its sender's log from an index on, at most eight, and the last index of that log
pub record Page : Type 0 where
  pub sender : ℕ
  pub start : ℕ
  pub last : ℕ
  pub slots : List Entry

-- All pages of a preparation stand in a list, the latest first.

-- ---- one page

-- the page that an Answer is
abbrev pub page_of : Message → Page
page_of answer = record {
  sender = sender_byte answer;
  start = start_of (body_of answer);
  last = last_of (body_of answer);
  slots = entries_of (body_of answer);
}

-- its slot at an index: the entry that it shows there, if it shows one
abbrev pub slot_in : Page → ℕ → Option Entry
slot_in page index = if nat_le page.start index then slice_get page.slots (index - page.start) else None

-- whether it reaches the end of its sender's log
abbrev pub reaches_end : Page → Bool
reaches_end page = nat_lt page.last (page.start + length page.slots)

-- whether it covers an index: it has a slot there, or it reaches the end of a log that ends before
abbrev pub covers_in : Page → ℕ → Bool
covers_in page index = is_some (slot_in page index) || (reaches_end page && nat_lt page.last index)

-- ---- all pages

-- its slot at an index, where it is a page of that member
abbrev pub slot_of : ℕ → Page → ℕ → Option Entry
slot_of member page index = if page.sender == member then slot_in page index else None

-- the slot at an index of the latest page of that member that has one there
abbrev pub latest_slot : ℕ → List Page → ℕ → Option Entry
latest_slot member [] index = None
latest_slot member (page ∷ pages) index = option_or (slot_of member page index) (latest_slot member pages index)

-- whether a page of that member covers an index
abbrev pub is_shown : ℕ → List Page → ℕ → Bool
is_shown member [] index = false
is_shown member (page ∷ pages) index = ((page.sender == member) && covers_in page index) || is_shown member pages index

-- whether a member covers an index; the member `me` that prepares covers each
abbrev pub covers : (me : ℕ) → List Page → (index member : ℕ) → Bool
covers me pages index member = (member == me) || is_shown member pages index

-- ---- which pages join

-- whether a page joins: it begins at or before the index that is to be decided next, the cursor; none does where there is no cursor
abbrev pub joins : Option ℕ → Page → Bool
joins None page = false
joins (Some cursor) page = nat_le page.start cursor

abbrev pub joined : Option ℕ → Page → List Page → List Page
joined cursor page pages = if joins cursor page then page ∷ pages else pages

-- ---- the ends of logs

-- the last index of its sender's log, where it reaches the end
abbrev pub end_in : Page → Option ℕ
end_in page = if reaches_end page then Some page.last else None
