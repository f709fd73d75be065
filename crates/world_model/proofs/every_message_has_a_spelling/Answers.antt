use Rattle.world_model.proofs.Ranges.Worlds.{every_run_in_range}
use Rattle.world_model.proofs.every_message_has_a_spelling.Goals as goal

pub returns : goal.returns
returns c = every_run_in_range
