use Rattle.synced_log.proofs.States.{one_state}
use Rattle.synced_log.proofs.Unique.{one_owner, one_journal, no_fault, one_fault}
use Rattle.synced_log.proofs.laws.read_in_one_way.Goals as goal

pub returns : goal.returns
returns c = record { owner = one_owner; journal = one_journal; no_fault = no_fault; fault = one_fault; state = one_state }
