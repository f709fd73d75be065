-- How far a leader may commit, by what it knows of who holds its entries.
use Rattle.std.specs.Prelude.{ℕ, ◌+◌, ◌-◌, max, List, filter, Bool, true, false, ◌&&◌, ◌||◌, ◌==◌, if◌then◌else◌, nat_le, Option, None, Some}
use Rattle.std.specs.List.{count_by, fold, list_all, range_with_len}
use Rattle.coded_append.specs.Starts.{open_indexes}
use Rattle.craft_base.specs.Knowledge.{Heard, held_form, members}
use Rattle.craft_base.specs.Shape.{Shape, coded_quorum_of, majority_of}
use Rattle.craft_base.specs.declared.command.Entry.{Entry}
use Rattle.craft_base.specs.declared.command.Form.{Form}
use Rattle.craft_base.specs.declared.command.Form.TheVariants as forms
use Rattle.craft_base.specs.declared.command.Held.{Held}
use Rattle.craft_base.specs.declared.command.Held.TheVariants as helds
use Rattle.entry_frames.specs.Logs.{entry_at, term_at}

-- whether an entry has its whole value
abbrev pub is_whole : Form → Bool
is_whole (forms.Whole bytes) = true
is_whole (forms.Part bytes) = false

-- in which form a log holds the entry at an index
abbrev pub form_of : Option Entry → Held
form_of None = helds.Nothing
form_of (Some entry) = if is_whole entry.form then helds.Whole else helds.Part

-- in which form a member holds the entry at an index, as far as the member `me` with that log knows, which heard this: its own log
-- tells of itself
abbrev pub known_form : ℕ → List Entry → List Heard → (index member : ℕ) → Held
known_form me log heard index member = if member == me then form_of (entry_at log index) else held_form member index heard

abbrev pub is_held_whole : Held → Bool
is_held_whole helds.Whole = true
is_held_whole _ = false

-- in some form
abbrev pub is_held : Held → Bool
is_held helds.Nothing = false
is_held _ = true

-- how many members are known to hold the entry at an index so
abbrev pub holders : (Held → Bool) → Shape → ℕ → List Entry → List Heard → ℕ → ℕ
holders test shape me log heard index = count_by (λ member. test (known_form me log heard index member)) (members shape)

-- Whether enough members hold the entry at an index for it to be committed: F + 1 hold it whole, or F + k in some form. Of either,
-- any F + 1 members have the whole value among them, or k parts, which rebuild it.
abbrev pub is_enough : Shape → ℕ → List Entry → List Heard → ℕ → Bool
is_enough shape me log heard index =
    nat_le (majority_of shape) (holders is_held_whole shape me log heard index)
    || nat_le (coded_quorum_of shape) (holders is_held shape me log heard index)

-- whether the log may be committed up to an index by the leader of that term: the entry there is of this term, and enough members
-- hold it and each entry before it that isn't committed
abbrev pub may_commit : Shape → (me term commit : ℕ) → List Entry → List Heard → ℕ → Bool
may_commit shape me term commit log heard index =
    (term_at log index == term) && list_all (is_enough shape me log heard) (range_with_len (commit + 1) (index - commit))

-- the greatest such index, and the present commit index where there is none
abbrev pub new_commit : Shape → (me term commit : ℕ) → List Entry → List Heard → ℕ
new_commit shape me term commit log heard = fold max commit (filter (may_commit shape me term commit log heard) (open_indexes commit log))
