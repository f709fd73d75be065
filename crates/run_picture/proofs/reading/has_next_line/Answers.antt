use Rattle.std.proofs.Common.{refl, subst}
use Rattle.line_input.specs.Lines.{TakesLine}
use Rattle.run_picture.proofs.Taking.{line_read, piece_read}
use Rattle.run_picture.proofs.reading.has_next_line.Goals as goal

pub returns-in-Ok-LineFeed-clause-read : goal.returns-in-Ok-LineFeed-clause-read
returns-in-Ok-LineFeed-clause-read g c =
    line_read (g.T.Source.left c.args.text.now) (g.T.Source.left c.read_line.new.src) c.read_line.new.line.items
    (subst (TakesLine (g.T.Source.left c.args.text.now) (g.T.Source.left c.read_line.new.src) c.read_line.new.line.items) c.in-Ok-LineFeed.field-0-is c.in-Ok-LineFeed.ensures.taken)

pub returns-in-Ok-Broken-clause-failed : goal.returns-in-Ok-Broken-clause-failed
returns-in-Ok-Broken-clause-failed g c = (
  refl,
  piece_read (g.T.Source.left c.args.text.now) (g.T.Source.left c.read_line.new.src) c.read_line.new.line.items
      (subst (TakesLine (g.T.Source.left c.args.text.now) (g.T.Source.left c.read_line.new.src) c.read_line.new.line.items) c.in-Ok-Broken.field-0-is c.in-Ok-Broken.ensures.taken),
)
