use Rattle.protocol.proofs.Growth.{history_grows}
use Rattle.protocol.proofs.Others.{others_stay}
use Rattle.protocol.proofs.history_only_grows.Goals as goal

pub returns-clause-grows : goal.returns-clause-grows
returns-clause-grows c = history_grows

pub returns-clause-others : goal.returns-clause-others
returns-clause-others c = others_stay
