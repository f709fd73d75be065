use Rattle.std.proofs.Common.{length}
use Rattle.craft_base.proofs.heard_list.+has_matched.Given as goal

abbrev pub decreases-has_matched : goal.decreases-has_matched
decreases-has_matched l = length l.items.now
