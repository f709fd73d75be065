use Rattle.std.proofs.Common.{length}
use Rattle.craft_base.proofs.heard_list.+was_heard.Given as goal

abbrev pub decreases-was_heard : goal.decreases-was_heard
decreases-was_heard l = length l.items.now
