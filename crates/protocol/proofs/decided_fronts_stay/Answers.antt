use Rattle.protocol.proofs.Fronts.{fronts_stay}
use Rattle.protocol.proofs.decided_fronts_stay.Goals as goal

pub returns : goal.returns
returns c = fronts_stay
