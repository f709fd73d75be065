use Rattle.bridge.proofs.Runs.{runs_are_bridged}
use Rattle.bridge.proofs.every_run_is_one_of_the_protocol.Goals as goal

pub returns : goal.returns
returns c = runs_are_bridged
