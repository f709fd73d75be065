use Rattle.std.proofs.Common.{◌≡◌, length}
use Rattle.entry_frames.proofs.Bodies.{Walked}
use Rattle.log_store.proofs.store.LogStore.apply_body.Given as goal

abbrev pub invariant-loop-item : goal.invariant-loop-item
invariant-loop-item l = record {
  shape : l.store.shape ≡ l.fn.self.shape;
  k : l.walk.k ≡ l.fn.self.shape.need;
  walked : Walked l.fn.self.shape l.fn.self.kept l.body l.store.kept l.walk.rest;
}

abbrev pub decreases-loop-item : goal.decreases-loop-item
decreases-loop-item l = length l.walk.rest
