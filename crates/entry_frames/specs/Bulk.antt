-- How many bytes the values of a log have.
use Rattle.std.specs.Prelude.{ℕ, ◌+◌, List, [], ◌∷◌}
use Rattle.craft_base.specs.declared.command.Entry.{Entry}

-- their lengths, in sum
abbrev pub bulk_of : List Entry → ℕ
bulk_of [] = 0
bulk_of (e ∷ log) = e.head.vlen + bulk_of log
