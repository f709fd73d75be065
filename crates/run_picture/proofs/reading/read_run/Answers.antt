use Rattle.std.proofs.Common.{◌≡◌, ◌+◌, true, refl, subst, sym, inr, None, vec_len, arith}
use Rattle.std.proofs.lemmas.Result.{err_from_is_err_and}
use Rattle.run_picture.specs.Pictures.{TakesLines}
use Rattle.run_picture.specs.Reading.{ReadsLine}
use Rattle.run_picture.proofs.Stopping.{no_line, bad_line}
use Rattle.run_picture.proofs.Taking.{lines_more, none_taken}
use Rattle.run_picture.proofs.reading.read_run.Goals as goal

pub loop-before-init : goal.loop-before-init
loop-before-init g c = record {
  lines = none_taken (g.T.Source.left c.args.text.now);
  events = subst (λ n. TakesLines n (g.S.Source.left c.args.schedule.now) (g.S.Source.left c.args.schedule.now)) (sym c.new-reader.ensures) (none_taken (g.S.Source.left c.args.schedule.now));
  text_later = omega arith;
  schedule_later = omega arith;
}

pub returns-in_err-has_next_line-clause-failed : goal.returns-in_err-has_next_line-clause-failed
returns-in_err-has_next_line-clause-failed g c =
    let p = err_from_is_err_and c.from_residual.result c.from_residual.ensures.1 in rw (p.1, p.2)
    (no_line
    (record {
      schedule = g.S.Source.left c.args.schedule.now;
      text = g.T.Source.left c.args.text.now;
      taken = None;
      schedule_faults = g.S.Source.faults c.args.schedule.now;
      text_faults = g.T.Source.faults c.args.text.now;
      sink_faults = 0;
    })
    (record {
      schedule = g.S.Source.left c.loop-before.schedule;
      text = g.T.Source.left c.has_next_line.new.text;
      taken = None;
      schedule_faults = g.S.Source.faults c.loop-before.schedule;
      text_faults = g.T.Source.faults c.has_next_line.new.text;
      sink_faults = 0;
    })
    (g.T.Source.left c.loop-before.text) (g.T.Source.faults c.loop-before.text) (c.loop-before.before + 1) c.loop-before.before c.loop-before.invariant.lines c.loop-before.invariant.text_later refl
    c.in_err-has_next_line.field-0.0 c.in_err-has_next_line.ensures.failed)

pub returns-in_err-take_line-clause-failed : goal.returns-in_err-take_line-clause-failed
returns-in_err-take_line-clause-failed g c =
    let more : c.in_ok-has_next_line.field-0 ≡ true = grind (arith, c.if-not-branch.false) in
    let line = subst (ReadsLine (g.T.Source.left c.loop-before.text) (g.T.Source.left c.has_next_line.new.text)) more c.in_ok-has_next_line.ensures.read in
    let p = err_from_is_err_and c.from_residual-in_err-take_line.result c.from_residual-in_err-take_line.ensures.1 in rw (p.1, p.2)
    (bad_line
    (record {
      schedule = g.S.Source.left c.args.schedule.now;
      text = g.T.Source.left c.args.text.now;
      taken = None;
      schedule_faults = g.S.Source.faults c.args.schedule.now;
      text_faults = g.T.Source.faults c.args.text.now;
      sink_faults = 0;
    })
    (record {
      schedule = g.S.Source.left c.take_line.new.schedule;
      text = g.T.Source.left c.has_next_line.new.text;
      taken = None;
      schedule_faults = g.S.Source.faults c.take_line.new.schedule;
      text_faults = g.T.Source.faults c.has_next_line.new.text;
      sink_faults = 0;
    })
    (g.S.Source.left c.loop-before.schedule) (g.S.Source.faults c.loop-before.schedule) (c.loop-before.before + 1) c.loop-before.before (vec_len c.loop-before.reader.run.steps)
    (lines_more c.loop-before.before 1 (c.loop-before.before + 1) (g.T.Source.left c.args.text.now) (g.T.Source.left c.loop-before.text) (g.T.Source.left c.has_next_line.new.text) refl c.loop-before.invariant.lines line)
    refl c.loop-before.invariant.events c.loop-before.invariant.schedule_later c.in_err-take_line.field-0.0 c.in_err-take_line.ensures.failed)

pub loop-before-preserved : goal.loop-before-preserved
loop-before-preserved g c =
    let more : c.in_ok-has_next_line.field-0 ≡ true = grind (arith, c.if-not-branch.false) in
    let line = subst (ReadsLine (g.T.Source.left c.loop-before.text) (g.T.Source.left c.has_next_line.new.text)) more c.in_ok-has_next_line.ensures.read in
    let events = c.in_ok-take_line.ensures.taken in
    record {
      lines = lines_more c.loop-before.before 1 (c.loop-before.before + 1) (g.T.Source.left c.args.text.now) (g.T.Source.left c.loop-before.text) (g.T.Source.left c.has_next_line.new.text) refl c.loop-before.invariant.lines line;
      events =
          lines_more (vec_len c.loop-before.reader.run.steps) events.0 (vec_len c.take_line.new.reader.run.steps) (g.S.Source.left c.args.schedule.now) (g.S.Source.left c.loop-before.schedule)
          (g.S.Source.left c.take_line.new.schedule) (sym events.2) c.loop-before.invariant.events events.1;
      text_later = omega (arith, c.loop-before.invariant.text_later, c.in_ok-has_next_line.ensures.later);
      schedule_later = omega (arith, c.loop-before.invariant.schedule_later, c.in_ok-take_line.ensures.later);
    }

pub returns-clause-failed : goal.returns-clause-failed
returns-clause-failed g c =
    let last : c.loop-before.before ≡ 18446744073709551615 = omega (arith, c.loop-before-test.false, c.loop-before.auto.before-end) in record {
      before = 18446744073709551614;
      is_next = refl;
      taken = inr (subst (λ n. TakesLines n (g.T.Source.left c.args.text.now) (g.T.Source.left c.loop-before.text)) last c.loop-before.invariant.lines);
    }
