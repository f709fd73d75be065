-- When a member's place stands for a member of the definitions.
use Rattle.std.specs.Prelude.{◌≡◌, ◌⊎◌, ℕ, List, [], ◌∷◌, ◌++◌, length, None, Some, slice_get, Bool, false}
use Rattle.craft_base.specs.Shape.{Shape, members_of}
use Rattle.craft_edge.specs.DiskCalls.{DiskWork}
use Rattle.crash_disk.specs.MemDisk.{DiskInMemory}
use Rattle.crash_disk.specs.Stopped.{IsToldToStop}
use Rattle.crash_disk.specs.Told.{MayLeave}
use Rattle.entry_frames.specs.Durable.{Durable}
use Rattle.node_core.specs.Stands.{Stands}
use Rattle.node_shell.specs.Standing.{Standing}
use Rattle.synced_log.specs.Calls.{after_calls}
use Rattle.synced_log.specs.Journal.{IsGroupOf, body_of, owned}
use Rattle.synced_log.specs.Standing.{append_calls}
use Rattle.synced_log.specs.Stopped.{StopsInMemory}
use Rattle.synced_log.specs.States.{HoldsTo, OpensTo}
use Rattle.world_model.specs.Nodes.{Volatile, node_with}
use Rattle.world_model.specs.Turn as turns
use Rattle.world_model.specs.World.{Member, newborn}
use Rattle.schedule_replay.specs.declared.seat.Resting.{Resting}
use Rattle.schedule_replay.specs.declared.seat.Seat.{Seat}
use Rattle.schedule_replay.specs.declared.seat.Seat.TheVariants.{Running, Down}

-- the turn of the member with that number, that state and that volatile part
abbrev pub turn_of : Shape → ℕ → Durable → Volatile → turns.Event → turns.Turned
turn_of shape me d v event = turns.turn event (node_with shape me d v)

abbrev pub running_with : Durable → Volatile → Member
running_with d v = record { durable = d; running = Some v }

-- the disk was told no stop, and no call of it is listed to fail
pub record IsSteady (disk : DiskInMemory) : Type 0 where
  pub unstopped : disk.told.history.last_stop ≡ None
  pub first : disk.told.history.stopped_before ≡ false
  pub none_listed : disk.told.history.made_with.fail ≡ []

-- what a read of the disk gives opens to that state of the member
pub record HasState (shape : Shape) (me : ℕ) (disk : DiskInMemory) (d : Durable) : Type 0 where
  pub steady : IsSteady disk
  pub opens : OpensTo disk.told.now.bytes (owned shape me) d

-- the turn has no records, and a crash leaves what the disk held
pub record HasQuiet (shape : Shape) (me : ℕ) (d : Durable) (t : turns.Turned) (disk : DiskInMemory) : Type 0 where
  pub none : t.records ≡ []
  pub opens : (image : List ℕ) → MayLeave disk.told.now image → OpensTo image (owned shape me) d

-- all of these calls were made
abbrev pub HasMade : List DiskWork → DiskInMemory → DiskInMemory → Type 0
HasMade works old new = Some new.told.history ≡ after_calls (Some old.told.history) works

-- a call that adds the turn's group failed
pub record HasFailed (shape : Shape) (me : ℕ) (d : Durable) (t : turns.Turned) (gate : ℕ) (old new : DiskInMemory) : Type 0 where
  pub group : IsGroupOf shape d t.records
  pub stops : StopsInMemory old new gate (body_of shape.need t.records)

-- the member runs: it stands for the node, and its disk is the journal whose groups leave what the node keeps
pub record Runs (shape : Shape) (me : ℕ) (shell : Standing DiskInMemory) (d : Durable) (v : Volatile) : Type 0 where
  pub core : Stands shell.core (node_with shape me d v)
  pub steady : IsSteady shell.disk
  pub holds : HoldsTo shell.disk.told.now.bytes shell.gate (owned shape me) d

-- The disk of a member after a turn in which the machine was told to stop at a call. The disk was the journal of what the member
-- kept, and was told to stop just before. Either the turn has no records, and a crash leaves what the disk held; or all calls of the
-- turn's group were made; or one of them failed.
pub record IsLeft (shape : Shape) (me : ℕ) (d : Durable) (v : Volatile) (event : turns.Event) (call : ℕ) (keep : Bool) (disk : DiskInMemory) : Type 0 where
  pub stopped : DiskInMemory
  pub gate : ℕ
  pub holds : HoldsTo stopped.told.now.bytes gate (owned shape me) d
  pub told : IsToldToStop stopped.told.history call keep
  pub left : HasQuiet shape me d (turn_of shape me d v event) disk
      ⊎ (HasMade (append_calls gate (body_of shape.need (turn_of shape me d v event).records)) stopped disk
      ⊎ HasFailed shape me d (turn_of shape me d v event) gate stopped disk)

-- the member is down: its disk opens to what outlived its run
pub record Rests (shape : Shape) (me : ℕ) (resting : Resting) (d : Durable) : Type 0 where
  pub has : HasState shape me resting.disk d
  pub commit : resting.commit ≡ d.commit

-- the place is that member's: a shell runs exactly where the member does
abbrev pub Sits : Shape → ℕ → Seat → Member → Type 0
Sits shape me (Running shell) m = (v : Volatile) × (m.running ≡ Some v) × Runs shape me shell m.durable v
Sits shape me (Down resting) m = (m.running ≡ None) × Rests shape me resting m.durable

-- a place for each member of the cluster
pub record AreSeats (shape : Shape) (seats : List Seat) (members : List Member) : Type 0 where
  pub all : length seats ≡ members_of shape
  pub same : length members ≡ members_of shape
  pub sits : (me : ℕ) (s : Seat) (m : Member) → slice_get seats me ≡ Some s → slice_get members me ≡ Some m → Sits shape me s m

-- a place more, of a member that runs and has never run before
pub record IsNewborn (shape : Shape) (me : ℕ) (before after : List Seat) : Type 0 where
  pub seat : Seat
  pub sits : Sits shape me seat newborn
  pub after_is : after ≡ before ++ seat ∷ []
