-- The value that parts give, as a function of the parts.
use Rattle.std.specs.Prelude.{ℕ, zero, suc, ◌*◌, List, [], ◌∷◌, length, map, replicate, take, Bool, ◌&&◌, ◌==◌, nat_lt, slice_index, unwrap_or}
use Rattle.std.specs.List.{find, flat_map, list_all, range_with_len}
use Rattle.leader_prep.specs.Decisions.{Rebuilt}
use Rattle.leader_prep.specs.Verdicts.{Parts, Source, Whole}
use Rattle.rs_code.specs.Fragments.{coefficients, point_of}
use Rattle.rs_code.specs.Polynomials.{polynomial}
use Rattle.rs_code.specs.Rebuilding.{Rebuilding, TakenPart, size_of}

-- whether each byte of the part is the value at its member's point of the polynomial of the joined pieces
abbrev pub lies_on : (need size : ℕ) → List ℕ → TakenPart → Bool
lies_on need size joined part =
    list_all (λ place. slice_index part.bytes place == polynomial (coefficients joined size place) need (point_of part.member))
    (range_with_len 0 (length part.bytes))

-- whether these are joined pieces, as many as are needed, on which each part lies
abbrev pub is_solution : Rebuilding → List ℕ → Bool
is_solution rebuilding joined =
    (length joined == rebuilding.need * size_of rebuilding) && list_all (λ byte. nat_lt byte 256) joined
    && list_all (lies_on rebuilding.need (size_of rebuilding) joined) rebuilding.parts

-- all lists of so many numbers below `most`, in order
unfoldable pub lists_below : (most : ℕ) → ℕ → List (List ℕ)
lists_below most zero = [] ∷ []
lists_below most (suc n) = flat_map (λ first. map (λ rest. first ∷ rest) (lists_below most n)) (range_with_len 0 most)

-- Solution: the beginning of the first joined pieces on which each part lies; zeros where there are none
unfoldable pub solution : Rebuilding → List ℕ
solution rebuilding =
    take rebuilding.value_length
    (unwrap_or (find (is_solution rebuilding) (lists_below 256 (rebuilding.need * size_of rebuilding))) (replicate (rebuilding.need * size_of rebuilding) 0))

-- the value that comes from there
abbrev pub value_of : Source → List ℕ
value_of (Whole value) = value
value_of (Parts parts) = solution parts

-- an index with the value that is had for it
abbrev pub had : Rebuilt → ℕ × List ℕ
had rebuilt = (rebuilt.index, value_of rebuilt.source)
