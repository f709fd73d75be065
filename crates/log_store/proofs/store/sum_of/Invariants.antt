use Rattle.std.proofs.Common.{◌≡◌, take}
use Rattle.entry_frames.specs.Bulk.{bulk_of}
use Rattle.log_store.proofs.store.sum_of.Given as goal

abbrev pub invariant-loop-entry : goal.invariant-loop-entry
invariant-loop-entry l = l.sum ≡ bulk_of (take l.entry-index l.entries)
