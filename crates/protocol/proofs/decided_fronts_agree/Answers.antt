use Rattle.protocol.proofs.Fronts.{fronts_agree}
use Rattle.protocol.proofs.decided_fronts_agree.Goals as goal

pub returns : goal.returns
returns c = fronts_agree
