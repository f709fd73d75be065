use Rattle.command_words.proofs.Counts.{below_five}
use Rattle.command_words.proofs.reading.ask_in.Goals as goal

pub returns-in_default : goal.returns-in_default
returns-in_default c = below_five c.args.shape c.args.words.now c.in_default.len_below
