use Rattle.bridge.proofs.Examples.{some_run_elects}
use Rattle.bridge.proofs.some_run_elects.Goals as goal

pub returns : goal.returns
returns c = some_run_elects
