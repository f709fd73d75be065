use Rattle.command_words.proofs.Counts.{below_three}
use Rattle.command_words.proofs.reading.command_in.Goals as goal

pub returns-in_default : goal.returns-in_default
returns-in_default c = below_three c.args.words.now c.in_default.len_below
