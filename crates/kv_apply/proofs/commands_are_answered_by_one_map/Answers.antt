use Rattle.kv_apply.proofs.Once.{answered_by_one_map}
use Rattle.kv_apply.proofs.commands_are_answered_by_one_map.Goals as goal

pub returns : goal.returns
returns _ = answered_by_one_map
