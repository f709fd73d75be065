-- Runs of which the laws speak where values go as fragments.
use Rattle.std.specs.Prelude.{◌≡◌, List, Some, slice_get, false}
use Rattle.craft_base.specs.Shape.{Shape}
use Rattle.craft_base.specs.declared.command.Entry.{Entry}
use Rattle.entry_frames.specs.Entries.{is_whole}
use Rattle.entry_frames.specs.declared.role.Role.TheVariants.{Preparing}
use Rattle.leader_prep.specs.Decisions.{cursor_of}
use Rattle.world_model.specs.Safety.{IsRun, committed}
use Rattle.world_model.specs.Traces.{Command}
use Rattle.world_model.specs.World.{Member, run, volatile_of}
use Rattle.world_model.specs.declared.line.Line.{Line}

-- the shape of three members, any two of whose fragments rebuild a value
abbrev pub pairs : Shape
pairs = record { faults = 1; need = 2 }

-- a run in which a command is committed, of which members 1 and 2 hold their fragments alone
abbrev pub SomeRunCommitsParts : Type 0
SomeRunCommitsParts =
    (events : List Line) × (command : Command) × (one other : Member) × (first second : Entry) × IsRun pairs events
    × (slice_get (committed (run pairs events)) 1 ≡ Some (Some command))
    × (slice_get (run pairs events).members 1 ≡ Some one) × (slice_get one.durable.log 1 ≡ Some first) × (is_whole first.form ≡ false)
    × (slice_get (run pairs events).members 2 ≡ Some other) × (slice_get other.durable.log 1 ≡ Some second) × (is_whole second.form ≡ false)

-- and one in which a member prepares, and index 2 is its cursor
abbrev pub SomeRunPrepares : Type 0
SomeRunPrepares =
    (events : List Line) × (m : Member) × IsRun pairs events × (slice_get (run pairs events).members 1 ≡ Some m)
    × ((volatile_of m.running).role ≡ Preparing) × (cursor_of m.durable.commit m.durable.log ≡ Some 2)
