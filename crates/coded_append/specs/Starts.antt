-- From where on a leader sends to a member.
use Rattle.std.specs.Prelude.{ℕ, ◌+◌, ◌-◌, min, List, length, not, Option, None, Some}
use Rattle.std.specs.List.{find, range_with_len}
use Rattle.craft_base.specs.Knowledge.{Heard, is_held_whole, next_index}
use Rattle.craft_base.specs.declared.command.Entry.{Entry}
use Rattle.coded_append.specs.declared.modes.Mode.{Mode}
use Rattle.coded_append.specs.declared.modes.Mode.TheVariants as modes

-- the indexes above a commit index, up to the log's last
abbrev pub open_indexes : (commit : ℕ) → List Entry → List ℕ
open_indexes commit log = range_with_len (commit + 1) (length log - commit)

-- the least of them at which the member isn't known to hold the entry whole
abbrev pub first_lacking : (member commit : ℕ) → List Entry → List Heard → Option ℕ
first_lacking member commit log heard = find (λ index. not (is_held_whole member index heard)) (open_indexes commit log)

-- the lesser of the two, where there are two
abbrev pub no_later_than : Option ℕ → ℕ → ℕ
no_later_than None index = index
no_later_than (Some other) index = min index other

-- Next of the member in Coded mode; in Complete mode the lesser of Next and the first that the member lacks
abbrev pub start_for : Mode → (member commit : ℕ) → List Entry → List Heard → (first : ℕ) → ℕ
start_for modes.Coded member commit log heard first = next_index member heard first
start_for modes.Complete member commit log heard first = no_later_than (first_lacking member commit log heard) (next_index member heard first)
