use Rattle.world_model.proofs.Readings.{all_good, first_bad}
use Rattle.world_model.proofs.bad_lines_are_told_by_their_bytes.Goals as goal

pub returns-clause-good : goal.returns-clause-good
returns-clause-good c = all_good

pub returns-clause-bad : goal.returns-clause-bad
returns-clause-bad c = first_bad
