use Rattle.protocol.proofs.Fronts.{cut_stays_undecided, decided_stays_uncut}
use Rattle.protocol.proofs.cut_entries_are_never_decided.Goals as goal

pub returns-clause-later : goal.returns-clause-later
returns-clause-later c = cut_stays_undecided

pub returns-clause-before : goal.returns-clause-before
returns-clause-before c = decided_stays_uncut
