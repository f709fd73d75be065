-- How a member that has won its term prepares to lead it.
use Rattle.std.specs.Prelude.{ℕ, List, Bool, false, not, ◌==◌, Option, None, Some}
use Rattle.entry_frames.specs.Records.{Record, Whole}
use Rattle.entry_frames.specs.declared.role.Role.TheVariants.{Preparing, Candidate}
use Rattle.leader_prep.specs.Pages.{Page}
use Rattle.world_model.specs.Nodes.{Node}

-- the node that prepares and was shown these pages
abbrev pub preparing_with : List Page → Node → Node
preparing_with pages n = record n { volatile = record n.volatile { role = Preparing; pages = pages } }

-- the node that has won, and doesn't prepare
abbrev pub won : Node → Node
won n = record n { volatile = record n.volatile { role = Candidate } }

-- whether the cursor is another than before, when there was one
abbrev pub has_moved : Option ℕ → ℕ → Bool
has_moved None cursor = false
has_moved (Some before) cursor = not (before == cursor)

-- a value that was had becomes whole at its index
abbrev pub value_given : ℕ × List ℕ → Record
value_given whole = Whole whole.0 whole.1
