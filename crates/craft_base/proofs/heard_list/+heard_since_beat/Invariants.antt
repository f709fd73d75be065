use Rattle.std.proofs.Common.{length}
use Rattle.craft_base.proofs.heard_list.+heard_since_beat.Given as goal

abbrev pub decreases-heard_since_beat : goal.decreases-heard_since_beat
decreases-heard_since_beat l = length l.items.now
