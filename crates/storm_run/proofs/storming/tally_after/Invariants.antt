use Rattle.storm_run.proofs.Progressing.{Progress}
use Rattle.storm_run.proofs.storming.tally_after.Given as goal

-- the lines so far were made and carried out
abbrev pub invariant-loop-n : goal.invariant-loop-n
invariant-loop-n l = Progress l.shape l.seed l.count l.n l.world l.storm
