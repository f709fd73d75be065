-- What is answered to a part, and what is done with it.
use Rattle.std.specs.Prelude.{ℕ, List, length, ◌==◌, if◌then◌else◌}
use Rattle.rs_code.specs.declared.rebuilder.Added.{Added}
use Rattle.rs_code.specs.declared.rebuilder.Added.TheVariants.{Taken, Known, Enough}
use Rattle.rs_code.specs.Rebuilding.{Rebuilding, is_taken, with_part}

-- known where that member's part was taken, enough where it wasn't and as many as are needed were, else taken
abbrev pub answer_to : Rebuilding → ℕ → Added
answer_to rebuilding member =
    if is_taken rebuilding.parts member then Known
    else (if length rebuilding.parts == rebuilding.need then Enough else Taken)

-- only a part that is taken changes anything
abbrev pub kept_after : Added → Rebuilding → ℕ → List ℕ → Rebuilding
kept_after Taken rebuilding member bytes = with_part rebuilding member bytes
kept_after Known rebuilding member bytes = rebuilding
kept_after Enough rebuilding member bytes = rebuilding
