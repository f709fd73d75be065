use Rattle.schedule_replay.proofs.Seating.{AreNewborn}
use Rattle.schedule_replay.proofs.world.World.new.Given as goal

-- the members so far have started
abbrev pub invariant-loop-number : goal.invariant-loop-number
invariant-loop-number l = AreNewborn l.shape l.seats.items l.number
