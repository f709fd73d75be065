use Rattle.std.proofs.Common.{◌∙◌, ap, sym, subst}
use Rattle.world_model.specs.Schedule as schedule
use Rattle.line_input.specs.Lines.{TakesLine}
use Rattle.schedule_replay.proofs.Reading.{broken_line, bad_line, event_line}
use Rattle.world_model.proofs.Inputs.{good_line}
use Rattle.world_model.proofs.ScheduleLines.{read-SpellsLine}
use Rattle.schedule_replay.proofs.replaying.next_line.Goals as goal

pub returns-in-Broken-clause-read : goal.returns-in-Broken-clause-read
returns-in-Broken-clause-read g c =
    broken_line c.args.shape.now c.args.number (g.S.Source.left c.args.src.now) (g.S.Source.left c.read_line.new.src) c.read_line.new.line.items
    (subst (TakesLine (g.S.Source.left c.args.src.now) (g.S.Source.left c.read_line.new.src) c.read_line.new.line.items) c.in-Broken.is c.in_ok-read_line.ensures.taken)

pub returns-in-Ok-clause-read : goal.returns-in-Ok-clause-read
returns-in-Ok-clause-read g c =
    let says = ap (schedule.line_in c.args.shape.now) (sym c.deref.ensures.value) ∙ sym c.in-Ok.ensures.good in (
      (read-SpellsLine c.args.shape.now c.read_line.new.line.items c.in-Ok.asked says).1,
      event_line c.args.shape.now c.args.number (g.S.Source.left c.args.src.now) (g.S.Source.left c.read_line.new.src) c.read_line.new.line.items c.in-Ok.asked
          (subst (TakesLine (g.S.Source.left c.args.src.now) (g.S.Source.left c.read_line.new.src) c.read_line.new.line.items) c.in-LineFeed.is c.in_ok-read_line.ensures.taken)
          c.requires says,
    )

pub returns-in-Err-Bad-clause-read : goal.returns-in-Err-Bad-clause-read
returns-in-Err-Bad-clause-read g c =
    let taken = subst (TakesLine (g.S.Source.left c.args.src.now) (g.S.Source.left c.read_line.new.src) c.read_line.new.line.items) c.in-LineFeed.is c.in_ok-read_line.ensures.taken in
    bad_line c.args.shape.now c.args.number (g.S.Source.left c.args.src.now) (g.S.Source.left c.read_line.new.src) c.read_line.new.line.items taken
    (good_line c.args.shape.now c.args.number c.read_line.new.line.items taken.2 c.requires
    ∙ ap (schedule.line_in c.args.shape.now) (sym c.deref.ensures.value) ∙ c.in-Err-Bad.ensures.bad c.in-Err-Bad.field-0-is)
