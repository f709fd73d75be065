use Rattle.schedule_replay.proofs.Reading.{late_line}
use Rattle.schedule_replay.proofs.replaying.has_ended.Goals as goal

pub returns-in-Broken : goal.returns-in-Broken
returns-in-Broken g c = record {
  read = λ shape. late_line shape (g.S.Source.left c.args.src.now) (g.S.Source.left c.read_line.new.src) c.read_line.new.line.items c.in_ok-read_line.field-0 c.in-Broken.is c.in_ok-read_line.ensures.taken;
  failed = tt;
  unfinished = tt;
  told = c.in_ok-read_line.ensures.told;
  later = c.in_ok-read_line.ensures.later;
}
