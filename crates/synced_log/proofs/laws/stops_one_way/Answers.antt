use Rattle.synced_log.proofs.Stopped.{stopped_append, stopped_call_fails}
use Rattle.synced_log.proofs.laws.stops_one_way.Goals as goal

pub returns : goal.returns
returns c = record { leaves = stopped_append; fails = stopped_call_fails }
