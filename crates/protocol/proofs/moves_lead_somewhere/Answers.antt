use Rattle.protocol.proofs.Examples.{some_run_cuts, some_run_decides}
use Rattle.protocol.proofs.moves_lead_somewhere.Goals as goal

pub returns-clause-decides : goal.returns-clause-decides
returns-clause-decides c = some_run_decides

pub returns-clause-cuts : goal.returns-clause-cuts
returns-clause-cuts c = some_run_cuts
