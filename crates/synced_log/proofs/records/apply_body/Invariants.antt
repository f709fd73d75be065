use Rattle.std.proofs.Common.{◌≡◌, length}
use Rattle.entry_frames.specs.Durable.{Durable}
use Rattle.synced_log.specs.Outlines.{outline_of}
use Rattle.synced_log.proofs.Bodies.{Going}
use Rattle.synced_log.proofs.records.apply_body.Given as goal

abbrev pub invariant-loop-item : goal.invariant-loop-item
invariant-loop-item l = record {
  k : l.walk.k ≡ l.shape.need;
  going : (d : Durable) → l.fn.outline ≡ outline_of d → Going l.shape d l.body l.outline l.walk.rest;
}

abbrev pub decreases-loop-item : goal.decreases-loop-item
decreases-loop-item l = length l.walk.rest
