use Rattle.std.proofs.Common.{length}
use Rattle.craft_base.proofs.heard_list.+is_held_whole.Given as goal

abbrev pub decreases-is_held_whole : goal.decreases-is_held_whole
decreases-is_held_whole l = length l.items.now
