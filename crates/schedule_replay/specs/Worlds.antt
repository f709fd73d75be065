-- When a world that is replayed stands for a list of events.
use Rattle.std.specs.Prelude.{◌≡◌, ℕ, List, map}
use Rattle.craft_base.specs.Shape.{Shape, IsShape}
use Rattle.world_model.specs.Ranges.{InRange}
use Rattle.world_model.specs.Tallies.{tally_of}
use Rattle.world_model.specs.World as model
use Rattle.world_model.specs.declared.line.Line.{Line}
use Rattle.world_model.specs.declared.tally.Tally.{Tally}
use Rattle.schedule_replay.specs.declared.seat.Seat.{Seat}
use Rattle.schedule_replay.specs.Network.{frame_bytes}
use Rattle.schedule_replay.specs.Seats.{AreSeats}

-- what contracts see of it: a place for each member, the bytes of each frame that was ever sent, and the tally
pub record Kept : Type 0 where
  pub shape : Shape
  pub seats : List Seat
  pub sent : List (List ℕ)
  pub tally : Tally

-- the places and the frames are those of a world of the cluster, of which all numbers are in range
pub record PartsStand (shape : Shape) (seats : List Seat) (sent : List (List ℕ)) (w : model.World) : Type 0 where
  pub is_shape : IsShape shape
  pub in_range : InRange shape w
  pub seats_are : AreSeats shape seats w.members
  pub sent_are : sent ≡ map (frame_bytes shape) w.sent

-- The world stands for these events, whose run is the definitions'. A shell runs for just those members that run there, and its core
-- stands for the member's node; each disk opens to its member's durable state; the frames are those that were sent, in order; and the
-- tally is that of the events.
pub record StandsFor (world : Kept) (events : List Line) : Type 0 where
  pub parts : PartsStand world.shape world.seats world.sent (model.run world.shape events)
  pub tally : world.tally ≡ tally_of world.shape events
