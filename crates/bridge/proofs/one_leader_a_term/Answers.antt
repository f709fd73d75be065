use Rattle.bridge.proofs.Leaders.{one_leader_a_term}
use Rattle.bridge.proofs.one_leader_a_term.Goals as goal

pub returns : goal.returns
returns c = one_leader_a_term
