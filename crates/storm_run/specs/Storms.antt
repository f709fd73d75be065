-- A storm as it is run: the lines that a number makes, and what their run came to.
use Rattle.std.specs.Prelude.{ℕ, zero, suc, ◌+◌, List, [], ◌∷◌, ◌++◌, length, Option, codes}
use Rattle.std.specs.Fmt.{decimal}
use Rattle.std.specs.Io.KnownBytes.{Appends, Keeps}
use Rattle.craft_base.specs.Shape.{Shape}
use Rattle.craft_edge.specs.Bytes.{AppendsPrefix}
use Rattle.craft_edge.specs.Causes.{Rose}
use Rattle.storm_gen.specs.Storm.{Storm, after_line, next_line}
use Rattle.storm_run.specs.declared.storm_end.StormEnd.{StormEnd}
use Rattle.storm_run.specs.declared.storm_end.StormEnd.TheVariants.{End, SinkFault, NoMemory}
use Rattle.world_model.specs.Safety.{IsSafe}
use Rattle.world_model.specs.Tallies.{tally_of}
use Rattle.world_model.specs.World.{World, start, step}
use Rattle.world_model.specs.declared.line.Line.{Line}
use Rattle.world_model.specs.declared.tally.Tally.{Tally}

-- So many lines more of a storm in a world, the first of which has the number n: each is made of how many frames were sent before
-- it, and is carried out before the next is made.
abbrev pub lines_from : (left : ℕ) → Storm → (n : ℕ) → World → List Line
lines_from zero storm n w = []
lines_from (suc left) storm n w =
    let line = next_line storm n (length w.sent) in line ∷ lines_from left (after_line storm) (n + 1) (step w line).world

-- the lines of the storm of that number, in a cluster that has never run before
abbrev pub storm_lines : Shape → (seed count : ℕ) → List Line
storm_lines shape seed count = lines_from count (record { shape = shape; state = seed }) 1 (start shape)

-- ---- the text

-- a number with its name, on a line of its own
abbrev pub count_line : (name : List ℕ) → ℕ → List ℕ
count_line name count = name ++ (codes " " ++ (decimal count ++ codes "\n"))

-- a tally as it is printed
abbrev pub tally_text : Tally → List ℕ
tally_text tally =
    count_line (codes "events") tally.events ++ count_line (codes "frames") tally.frames ++ count_line (codes "replies") tally.replies
    ++ count_line (codes "leaders") tally.leaders ++ count_line (codes "commit") tally.commit ++ count_line (codes "cuts") tally.cuts

-- the text of the storm of that number
abbrev pub storm_text : Shape → (seed count : ℕ) → List ℕ
storm_text shape seed count = tally_text (tally_of shape (storm_lines shape seed count))

-- ---- ends

-- How a storm ends: all its lines were carried out, their run is safe, and its text was written, or a first part of it, and the sink
-- failed; or memory was wanting, and nothing was written.
abbrev pub StormEnds : Shape → (seed count : ℕ) → (taken now_taken : Option (List ℕ)) → (faults now_faults : ℕ) → StormEnd → Type 0
StormEnds shape seed count taken now_taken faults now_faults End =
    Appends taken now_taken (storm_text shape seed count) × IsSafe shape (storm_lines shape seed count)
StormEnds shape seed count taken now_taken faults now_faults SinkFault =
    AppendsPrefix taken now_taken (storm_text shape seed count) × IsSafe shape (storm_lines shape seed count) × Rose faults now_faults
StormEnds shape seed count taken now_taken faults now_faults NoMemory = Keeps taken now_taken
