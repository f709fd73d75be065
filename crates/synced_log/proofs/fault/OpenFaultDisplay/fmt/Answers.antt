use Rattle.synced_log.proofs.fault.OpenFaultDisplay.fmt.Goals as goal

pub returns-in-WrongOwner-clause-writes : goal.returns-in-WrongOwner-clause-writes
returns-in-WrongOwner-clause-writes g c = rw c.in-WrongOwner.is c.write-in-WrongOwner.ensures.writes
