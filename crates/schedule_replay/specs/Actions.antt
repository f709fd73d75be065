-- What is asked of a member, as the definitions have it.
use Rattle.std.specs.Prelude.{◌≡◌, ℕ, ◌≤◌, Option, slice_get, slice_set}
use Rattle.craft_base.specs.Shape.{Shape}
use Rattle.node_core.specs.declared.event.Event.{Event}
use Rattle.node_core.specs.Turns.{IsReadIn, event_of}
use Rattle.world_model.specs.Ranges.{EventInRange}
use Rattle.world_model.specs.World as model
use Rattle.schedule_replay.specs.declared.happened.Happened.{Happened}
use Rattle.schedule_replay.specs.declared.lines.Action.{Action}
use Rattle.schedule_replay.specs.declared.lines.Action.TheVariants.{Turn, Down, Up, Show}
use Rattle.schedule_replay.specs.declared.lines.Ending.{Ending}
use Rattle.schedule_replay.specs.declared.lines.Ending.TheVariants.{Done, Stop}
use Rattle.schedule_replay.specs.declared.seat.Seat.{Seat}
use Rattle.schedule_replay.specs.Seats.{Sits}
use Rattle.schedule_replay.specs.Told.{TellsOf}

abbrev pub ending_of : Ending → model.Ending
ending_of Done = model.after_turn
ending_of (Stop call keep) = model.after_stop call keep

-- a stop is in the first to the fourth device call
abbrev pub CanEnd : Ending → Type 0
CanEnd Done = Unit {0}
CanEnd (Stop call keep) = (1 ≤ call) × (call ≤ 4)

-- a member is told what is for it, and read as of its cluster
pub record IsToldTo (shape : Shape) (me : ℕ) (event : Event) : Type 0 where
  pub ranged : EventInRange shape me (event_of event)
  pub read : IsReadIn shape event

abbrev pub CanAct : Shape → ℕ → Action → Type 0
CanAct shape me (Turn event ending) = IsToldTo shape me event × CanEnd ending
CanAct shape me _ = Unit {0}

abbrev pub act_of : Action → model.World → ℕ → Option model.Member → model.Happened
act_of (Turn event ending) w me found = model.turn_of (ending_of ending) w (record { member = me; event = event_of event }) found
act_of Down w me found = model.down_of w me found
act_of Up w me found = model.up_of w me found
act_of Show w me found = model.show_of w me found

-- what becomes of the world where a member makes the turn of an event, which ends in that way
abbrev pub turn_done : Event → Ending → model.World → ℕ → model.Happened
turn_done event ending w me =
    model.turn_of (ending_of ending) w (record { member = me; event = event_of event }) (slice_get w.members me)

-- it was done: the member alone is another one, to whom the place belongs, and what is told is told
pub record IsDone (shape : Shape) (me : ℕ) (seat : Seat) (told : Happened) (w : model.World) (h : model.Happened) : Type 0 where
  pub next : model.Member
  pub members : h.world.members ≡ slice_set w.members me next
  pub sits : Sits shape me seat next
  pub tells : TellsOf told h
