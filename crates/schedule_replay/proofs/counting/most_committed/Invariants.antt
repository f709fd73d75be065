use Rattle.std.proofs.Common.{◌≡◌, List, take}
use Rattle.craft_base.specs.Shape.{Shape}
use Rattle.world_model.specs.Tallies.{greatest_commit}
use Rattle.world_model.specs.World.{Member}
use Rattle.schedule_replay.specs.Seats.{AreSeats}
use Rattle.schedule_replay.proofs.counting.most_committed.Given as goal

-- of the members passed so far it is the greatest
abbrev pub invariant-loop-seat : goal.invariant-loop-seat
invariant-loop-seat l = (shape : Shape) (members : List Member) → AreSeats shape l.seats members → l.most ≡ greatest_commit (take l.seat-index members)
