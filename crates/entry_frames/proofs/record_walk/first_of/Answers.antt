use Rattle.entry_frames.proofs.Bodies.{read_first, read_none}
use Rattle.entry_frames.proofs.record_walk.first_of.Goals as goal

pub returns-clause-none : goal.returns-clause-none
returns-clause-none c = read_none c.args.k c.args.bytes.now c.read.result c.read.ensures.only

pub returns-clause-first : goal.returns-clause-first
returns-clause-first c = read_first c.args.k c.args.bytes.now c.read.result c.read.ensures.only c.read.ensures.found c.read.ensures.len
