use Rattle.world_model.proofs.Applying.{every_turn_can_be_applied}
use Rattle.world_model.proofs.every_turn_can_be_applied.Goals as goal

pub returns : goal.returns
returns c = every_turn_can_be_applied
