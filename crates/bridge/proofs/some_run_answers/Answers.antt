use Rattle.bridge.proofs.Examples.{some_run_answers}
use Rattle.bridge.proofs.some_run_answers.Goals as goal

pub returns : goal.returns
returns c = some_run_answers
