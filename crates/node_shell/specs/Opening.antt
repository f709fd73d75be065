-- What opening a member's journal leaves.
use Rattle.std.specs.Prelude.{◌≡◌, ◌⊎◌, ℕ, List, None, Some, Option, ⊤}
use Rattle.craft_base.specs.Shape.{Shape}
use Rattle.craft_edge.specs.DiskCalls.{DiskHistory}
use Rattle.entry_frames.specs.Durable.{Durable, born}
use Rattle.entry_frames.specs.Records.{Record}
use Rattle.synced_log.specs.declared.fault.OpenFault.{OpenFault}
use Rattle.synced_log.specs.declared.fault.OpenFault.TheVariants.{DiskFault, BadJournal, WrongOwner, OutOfMemory}
use Rattle.synced_log.specs.declared.owner.Owner.{Owner}
use Rattle.synced_log.specs.Calls.{AllMade, OneFailed, IsOpening, IsSyncedReading}
use Rattle.synced_log.specs.Journal.{AreGroups, Kept, after_groups, placed_from}
use Rattle.synced_log.specs.States.{OpensTo}

-- the state is what these groups leave, each applied in order
abbrev pub Replays : Kept → Shape → Durable → Type 0
Replays kept shape d = (all : List (List Record)) → kept.placed ≡ placed_from shape.need 32 all → AreGroups shape born all → d ≡ after_groups born all

-- where the disk tells what a read gives: the image opens to whatever state the file opened to
abbrev pub OpensAsBefore : Owner → Option (List ℕ) → List ℕ → Type 0
OpensAsBefore o None image = ⊤
OpensAsBefore o (Some file) image = (d : Durable) → OpensTo file o d → OpensTo image o d

-- and so does what a read gives now
abbrev pub StillOpens : Owner → Option (List ℕ) → Option (List ℕ) → Type 0
StillOpens o old None = ⊤
StillOpens o old (Some file) = OpensAsBefore o old file

-- A file that has a fault is as it was. Where memory was wanting, one that was never born may have been made a journal without
-- groups, and opens as before.
abbrev pub LeavesFile : OpenFault → Owner → Option (List ℕ) → Option (List ℕ) → Type 0
LeavesFile DiskFault o old new = ⊤
LeavesFile (BadJournal offset) o old new = new ≡ old
LeavesFile (WrongOwner found wanted) o old new = new ≡ old
LeavesFile OutOfMemory o old new = StillOpens o old new

-- The calls of the disk: those that open a journal, up to and with the first that failed; those that read its file, where that has
-- a fault; and where memory was wanting those of either kind, none of which failed.
abbrev pub MakesUpTo : OpenFault → Option (List ℕ) → Owner → Option DiskHistory → Option DiskHistory → Type 0
MakesUpTo DiskFault seen o old new = OneFailed old new (IsOpening seen o)
MakesUpTo (BadJournal offset) seen o old new = AllMade old new IsSyncedReading
MakesUpTo (WrongOwner found wanted) seen o old new = AllMade old new IsSyncedReading
MakesUpTo OutOfMemory seen o old new = AllMade old new IsSyncedReading ⊎ AllMade old new (IsOpening seen o)
