-- The fragments of a value, after Reed and Solomon: a value is cut into pieces, the bytes at one place of the pieces are
-- the coefficients of a polynomial, and each member holds the polynomials' values at a point of its own.
use Rattle.std.specs.Prelude.{ℕ, ◌+◌, ◌*◌, List, length, map, slice_index}
use Rattle.std.specs.List.{range_with_len}
use Rattle.craft_base.specs.Parts.{part_length}
use Rattle.rs_code.specs.Polynomials.{polynomial}

-- the point of a member
abbrev pub point_of : ℕ → ℕ
point_of member = member + 1

-- the coefficients at a place of the pieces of that size, in which bytes past the end of the value are 0
abbrev pub coefficients : List ℕ → ℕ → ℕ → ℕ → ℕ
coefficients value size place r = slice_index value (r * size + place)

-- the fragment of a value for a member, where any `need` fragments rebuild it
abbrev pub fragment : List ℕ → ℕ → ℕ → List ℕ
fragment value need member =
    let size = part_length (length value) need in
    map (λ place. polynomial (coefficients value size place) need (point_of member)) (range_with_len 0 size)
