use Rattle.protocol.proofs.Rebuilding.{is_rebuilt}
use Rattle.protocol.proofs.decided_entries_can_be_rebuilt.Goals as goal

pub returns : goal.returns
returns c = is_rebuilt
