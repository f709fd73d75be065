use Rattle.bridge.proofs.Examples.{some_run_commits, some_run_removes}
use Rattle.bridge.proofs.some_run_commits.Goals as goal

pub returns-clause-commits : goal.returns-clause-commits
returns-clause-commits c = some_run_commits

pub returns-clause-removes : goal.returns-clause-removes
returns-clause-removes c = some_run_removes
