use Rattle.std.proofs.Common.{◌≡◌, take}
use Rattle.peer_frames.specs.SlotViews.{entries_of_views}
use Rattle.peer_frames.proofs.slots.Slots.to_batch.Given as goal

abbrev pub invariant-loop-n : goal.invariant-loop-n
invariant-loop-n l = l.batch ≡ entries_of_views (take l.n l.self)
