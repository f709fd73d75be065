use Rattle.protocol.proofs.Fronts.{commits_are_decided, commits_grow}
use Rattle.protocol.proofs.commits_are_decided_and_grow.Goals as goal

pub returns-clause-decided : goal.returns-clause-decided
returns-clause-decided c = commits_are_decided

pub returns-clause-grow : goal.returns-clause-grow
returns-clause-grow c = commits_grow
