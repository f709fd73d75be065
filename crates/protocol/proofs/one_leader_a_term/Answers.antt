use Rattle.protocol.proofs.Elections.{one_winner_reached, one_leader_reached}
use Rattle.protocol.proofs.one_leader_a_term.Goals as goal

pub returns-clause-winner : goal.returns-clause-winner
returns-clause-winner c = one_winner_reached

pub returns-clause-leader : goal.returns-clause-leader
returns-clause-leader c = one_leader_reached
