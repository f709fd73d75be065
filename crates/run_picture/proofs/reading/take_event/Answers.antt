use Rattle.std.proofs.Common.{inl, inr, refl, subst}
use Rattle.line_input.specs.Lines.{TakesLine}
use Rattle.run_picture.proofs.Taking.{line_read, piece_read}
use Rattle.run_picture.proofs.reading.take_event.Goals as goal

pub returns-in-Ok-Broken-clause-failed : goal.returns-in-Ok-Broken-clause-failed
returns-in-Ok-Broken-clause-failed g c = (
  refl,
  inl (piece_read (g.S.Source.left c.args.schedule.now) (g.S.Source.left c.read_line.new.src) c.read_line.new.line.items
      (subst (TakesLine (g.S.Source.left c.args.schedule.now) (g.S.Source.left c.read_line.new.src) c.read_line.new.line.items) c.in-Ok-Broken.field-0-is c.in-Ok-Broken.ensures.taken)),
)

pub returns-in_ok-take_event-in-Ok-clause-taken : goal.returns-in_ok-take_event-in-Ok-clause-taken
returns-in_ok-take_event-in-Ok-clause-taken g c = λ good. (
  1,
  line_read (g.S.Source.left c.args.schedule.now) (g.S.Source.left c.read_line.new.src) c.read_line.new.line.items
      (subst (TakesLine (g.S.Source.left c.args.schedule.now) (g.S.Source.left c.read_line.new.src) c.read_line.new.line.items) c.in-Ok-LineFeed.field-0-is c.in-Ok-LineFeed.ensures.taken),
  c.in_ok-take_event-in-Ok.ensures good,
)

pub returns-in-Err-Bad-clause-failed : goal.returns-in-Err-Bad-clause-failed
returns-in-Err-Bad-clause-failed g c = (
  refl,
  inr (line_read (g.S.Source.left c.args.schedule.now) (g.S.Source.left c.read_line.new.src) c.read_line.new.line.items
      (subst (TakesLine (g.S.Source.left c.args.schedule.now) (g.S.Source.left c.read_line.new.src) c.read_line.new.line.items) c.in-Ok-LineFeed.field-0-is c.in-Ok-LineFeed.ensures.taken)),
)
