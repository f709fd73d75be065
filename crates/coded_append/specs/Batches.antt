-- Which entries of its log a leader sends in one message, and in which form.
use Rattle.std.specs.Prelude.{ℕ, Bool, zero, suc, ◌-◌, List, [], ◌∷◌, drop, map, nat_le, if◌then◌else◌}
use Rattle.craft_base.specs.declared.command.Entry.{Entry}
use Rattle.craft_base.specs.declared.command.Form.{Form}
use Rattle.craft_base.specs.declared.command.Form.TheVariants as forms
use Rattle.entry_frames.specs.Entries.{is_whole}
use Rattle.entry_frames.specs.Limits.{most_entries, most_entry_bytes}
use Rattle.entry_frames.specs.MessageFields.{entry_size}
use Rattle.rs_code.specs.Fragments.{fragment}

-- ---- one entry

-- whether its value has bytes
abbrev pub has_value : Entry → Bool
has_value entry = nat_le 1 entry.head.vlen

-- the fragment of a value for a member, in place of the value
abbrev pub part_for : (need member : ℕ) → Form → Form
part_for need member (forms.Whole value) = forms.Part (fragment value need member)
part_for need member (forms.Part bytes) = forms.Part bytes

-- an entry as it goes to a member in Coded mode: with the member's fragment where its value has bytes, and else as it is
abbrev pub sent_to : (need member : ℕ) → Entry → Entry
sent_to need member entry = if has_value entry then record entry { form = part_for need member entry.form } else entry

-- ---- a batch

-- those before the first that is held as a part
abbrev pub before_part : List Entry → List Entry
before_part [] = []
before_part (entry ∷ entries) = if is_whole entry.form then entry ∷ before_part entries else []

-- as many of these entries, in order, as there are places and room for their bytes
abbrev pub fitting : (k places room : ℕ) → List Entry → List Entry
fitting k zero room entries = []
fitting k (suc places) room [] = []
fitting k (suc places) room (entry ∷ entries) =
    if nat_le (entry_size k entry) room then entry ∷ fitting k places (room - entry_size k entry) entries else []

-- as many of these entries, in order, as one message has room for
abbrev pub batch_of : (k : ℕ) → List Entry → List Entry
batch_of k entries = fitting k most_entries most_entry_bytes entries

-- what goes from an index of the log on, in Coded mode: counted are the bytes of what goes
abbrev pub coded_batch : (need member : ℕ) → List Entry → (start : ℕ) → List Entry
coded_batch need member log start = batch_of need (map (sent_to need member) (before_part (drop (start - 1) log)))

-- and in Complete mode
abbrev pub whole_batch : (k : ℕ) → List Entry → (start : ℕ) → List Entry
whole_batch k log start = batch_of k (before_part (drop (start - 1) log))
