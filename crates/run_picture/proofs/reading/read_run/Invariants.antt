use Rattle.std.proofs.Common.{◌≤◌, vec_len}
use Rattle.run_picture.specs.Pictures.{TakesLines}
use Rattle.run_picture.proofs.reading.read_run.Given as goal

-- as many lines of the text as there were turns, and as many lines of the schedule as there are events
abbrev pub invariant-loop-before : goal.invariant-loop-before
invariant-loop-before g l = record {
  lines : TakesLines l.before (g.T.Source.left l.fn.text) (g.T.Source.left l.text);
  events : TakesLines (vec_len l.reader.run.steps) (g.S.Source.left l.fn.schedule) (g.S.Source.left l.schedule);
  text_later : g.T.Source.faults l.fn.text ≤ g.T.Source.faults l.text;
  schedule_later : g.S.Source.faults l.fn.schedule ≤ g.S.Source.faults l.schedule;
}
