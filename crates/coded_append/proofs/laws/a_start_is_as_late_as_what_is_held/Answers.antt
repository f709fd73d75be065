use Rattle.coded_append.proofs.First.{start_is}
use Rattle.coded_append.proofs.laws.a_start_is_as_late_as_what_is_held.Goals as goal

pub returns : goal.returns
returns _ = λ member commit first log heard. start_is member commit log heard first
