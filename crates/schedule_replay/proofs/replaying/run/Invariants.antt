use Rattle.std.proofs.Common.{◌≤◌}
use Rattle.schedule_replay.specs.Replaying.{Progress}
use Rattle.schedule_replay.proofs.replaying.run.Given as goal

-- the lines so far were read, carried out and printed
abbrev pub invariant-loop-number : goal.invariant-loop-number
invariant-loop-number g l = record {
  progress : Progress l.shape l.number l.world (g.S.Source.left l.fn.src) (g.S.Source.left l.src) (g.O.Sink.taken l.fn.out) (g.O.Sink.taken l.out);
  later_source : g.S.Source.faults l.fn.src ≤ g.S.Source.faults l.src;
  later_sink : g.O.Sink.faults l.fn.out ≤ g.O.Sink.faults l.out;
}
