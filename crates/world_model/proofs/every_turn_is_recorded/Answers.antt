use Rattle.world_model.proofs.Recorded.{every_turn_is_recorded}
use Rattle.world_model.proofs.every_turn_is_recorded.Goals as goal

pub returns : goal.returns
returns c = every_turn_is_recorded
