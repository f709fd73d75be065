use Rattle.world_model.proofs.Applying.{every_reply_has_a_spelling}
use Rattle.world_model.proofs.every_reply_has_a_spelling.Goals as goal

pub returns : goal.returns
returns c = every_reply_has_a_spelling
