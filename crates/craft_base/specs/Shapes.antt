-- Which numbers make a shape.
use Rattle.std.specs.Prelude.{ℕ, ◌+◌, ◌&&◌, nat_le, if◌then◌else◌, Result, Ok, Err}
use Rattle.craft_base.specs.declared.shape.Shape.{Shape}
use Rattle.craft_base.specs.declared.shape.ShapeError.{ShapeError}
use Rattle.craft_base.specs.declared.shape.ShapeError.TheVariants.{BadFaults, BadNeed}

-- 1 to 7 failures, and a need of 1 to one more than the failures
abbrev pub shape_from : ℕ → ℕ → Result Shape ShapeError
shape_from faults need =
    if nat_le 1 faults && nat_le faults 7
    then (if nat_le 1 need && nat_le need (faults + 1) then Ok (record { faults = faults; need = need }) else Err BadNeed)
    else Err BadFaults
