use Rattle.std.proofs.Common.{length}
use Rattle.craft_base.proofs.heard_list.+heard_before_beat.Given as goal

abbrev pub decreases-heard_before_beat : goal.decreases-heard_before_beat
decreases-heard_before_beat l = length l.items.now
