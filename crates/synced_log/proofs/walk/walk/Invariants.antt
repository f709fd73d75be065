use Rattle.std.proofs.Common.{◌-◌, length}
use Rattle.synced_log.specs.Walks.{WalksTo}
use Rattle.synced_log.proofs.walk.walk.Given as goal

abbrev pub invariant-loop-at : goal.invariant-loop-at
invariant-loop-at l = WalksTo l.shape l.file l.spans.items l.at l.outline

abbrev pub decreases-loop-at : goal.decreases-loop-at
decreases-loop-at l = length l.file - l.at
