use Rattle.std.proofs.Common.{length}
use Rattle.craft_base.proofs.heard_list.+match_index.Given as goal

abbrev pub decreases-match_index : goal.decreases-match_index
decreases-match_index l = length l.items.now
