use Rattle.std.proofs.Common.{length}
use Rattle.craft_base.proofs.heard_list.+least_refused.Given as goal

abbrev pub decreases-least_refused : goal.decreases-least_refused
decreases-least_refused l = length l.items.now
