-- How long the fragments of a value are.
use Rattle.std.specs.Prelude.{ℕ}
use Rattle.std.specs.Int.{div_ceil}

-- the length of each fragment of a value of that length, any `need` of which rebuild it: the quotient, rounded up
abbrev pub part_length : ℕ → ℕ → ℕ
part_length value_length need = div_ceil value_length need
