use Rattle.std.proofs.Common.{◌≡◌, arith, subst}
use Rattle.std.proofs.lemmas.Result.{err_from_is_err_and}
use Rattle.schedule_replay.specs.Replaying.{Progress, ReadsNext, end_or_bad}
use Rattle.schedule_replay.proofs.Progressing.{bad_hands_back, ended_hands_back, ends_badly, ends_well, goes_on}
use Rattle.schedule_replay.proofs.EarlyEnds.{early_print, early_read, early_start}
use Rattle.schedule_replay.proofs.replaying.run.Goals as goal

pub returns-in-End-clause-done : goal.returns-in-End-clause-done
returns-in-End-clause-done g c =
    let read = subst (ReadsNext c.args.shape.now c.loop-number.number (g.S.Source.left c.loop-number.src) (g.S.Source.left c.next_line.new.src)) c.in-End.is c.in_ok-next_line.ensures.read in
    ends_well c.args.shape.now c.loop-number.number c.loop-number.world (g.S.Source.left c.args.src.now) (g.S.Source.left c.loop-number.src) (g.O.Sink.taken c.args.out.now) (g.O.Sink.taken c.loop-number.out) c.loop-number.invariant.progress (g.S.Source.left c.next_line.new.src) read

pub returns-in-End-clause-world : goal.returns-in-End-clause-world
returns-in-End-clause-world g c =
    let read = subst (ReadsNext c.args.shape.now c.loop-number.number (g.S.Source.left c.loop-number.src) (g.S.Source.left c.next_line.new.src)) c.in-End.is c.in_ok-next_line.ensures.read in
    ended_hands_back c.args.shape.now c.loop-number.number c.loop-number.world (g.S.Source.left c.args.src.now) (g.S.Source.left c.loop-number.src) (g.O.Sink.taken c.args.out.now) (g.O.Sink.taken c.loop-number.out) c.loop-number.invariant.progress (g.S.Source.left c.next_line.new.src) read

pub returns-in-Bad-clause-done : goal.returns-in-Bad-clause-done
returns-in-Bad-clause-done g c =
    let read = subst (ReadsNext c.args.shape.now c.loop-number.number (g.S.Source.left c.loop-number.src) (g.S.Source.left c.next_line.new.src)) c.in-Bad.is c.in_ok-next_line.ensures.read in
    ends_badly c.args.shape.now c.loop-number.number c.loop-number.world (g.S.Source.left c.args.src.now) (g.S.Source.left c.loop-number.src) (g.O.Sink.taken c.args.out.now) (g.O.Sink.taken c.loop-number.out) c.loop-number.invariant.progress read

pub returns-in-Bad-clause-world : goal.returns-in-Bad-clause-world
returns-in-Bad-clause-world g c =
    let read = subst (ReadsNext c.args.shape.now c.loop-number.number (g.S.Source.left c.loop-number.src) (g.S.Source.left c.next_line.new.src)) c.in-Bad.is c.in_ok-next_line.ensures.read in
    bad_hands_back c.args.shape.now c.loop-number.number c.loop-number.world (g.S.Source.left c.args.src.now) (g.S.Source.left c.loop-number.src) (g.O.Sink.taken c.args.out.now) (g.O.Sink.taken c.loop-number.out) c.loop-number.invariant.progress read

pub loop-number-preserved : goal.loop-number-preserved
loop-number-preserved g c =
    let p = c.loop-number.invariant.progress in
    let read = subst (ReadsNext c.args.shape.now c.loop-number.number (g.S.Source.left c.loop-number.src) (g.S.Source.left c.next_line.new.src)) c.in-Asked.is c.in_ok-next_line.ensures.read in
    let e = c.in_ok-world-in-Asked.ensures in
    record {
      progress = goes_on c.args.shape.now c.loop-number.number c.loop-number.world c.in_ok-world-in-Asked.world
          (g.S.Source.left c.args.src.now) (g.S.Source.left c.loop-number.src) (g.S.Source.left c.next_line.new.src)
          (g.O.Sink.taken c.args.out.now) (g.O.Sink.taken c.loop-number.out) (g.O.Sink.taken c.print_event.new.out)
          p c.in-Asked.asked read.1 e.shape (e.world p.events p.reached) (e.text p.events p.reached);
      later_source = omega (arith, c.loop-number.invariant.later_source, c.in_ok-next_line.ensures.later);
      later_sink = omega (arith, c.loop-number.invariant.later_sink, e.later);
    }

pub returns-then-ended-clause-done : goal.returns-then-ended-clause-done
returns-then-ended-clause-done g c =
    let last : c.loop-number.number ≡ 1_000_001 = omega arith in
    let p = subst (λ n. Progress c.args.shape.now n c.loop-number.world (g.S.Source.left c.args.src.now) (g.S.Source.left c.loop-number.src) (g.O.Sink.taken c.args.out.now) (g.O.Sink.taken c.loop-number.out)) last
    c.loop-number.invariant.progress in
    let read = subst (λ ended. ReadsNext c.args.shape.now 1_000_001 (g.S.Source.left c.loop-number.src) (g.S.Source.left c.has_ended.new.src) (end_or_bad ended)) c.if-ended.true (c.in_ok-ended.ensures.read c.args.shape.now) in
    ends_well c.args.shape.now 1_000_001 c.loop-number.world (g.S.Source.left c.args.src.now) (g.S.Source.left c.loop-number.src) (g.O.Sink.taken c.args.out.now) (g.O.Sink.taken c.loop-number.out) p (g.S.Source.left c.has_ended.new.src) read

pub returns-then-ended-clause-world : goal.returns-then-ended-clause-world
returns-then-ended-clause-world g c =
    let last : c.loop-number.number ≡ 1_000_001 = omega arith in
    let p = subst (λ n. Progress c.args.shape.now n c.loop-number.world (g.S.Source.left c.args.src.now) (g.S.Source.left c.loop-number.src) (g.O.Sink.taken c.args.out.now) (g.O.Sink.taken c.loop-number.out)) last
    c.loop-number.invariant.progress in
    let read = subst (λ ended. ReadsNext c.args.shape.now 1_000_001 (g.S.Source.left c.loop-number.src) (g.S.Source.left c.has_ended.new.src) (end_or_bad ended)) c.if-ended.true (c.in_ok-ended.ensures.read c.args.shape.now) in
    ended_hands_back c.args.shape.now 1_000_001 c.loop-number.world (g.S.Source.left c.args.src.now) (g.S.Source.left c.loop-number.src) (g.O.Sink.taken c.args.out.now) (g.O.Sink.taken c.loop-number.out) p (g.S.Source.left c.has_ended.new.src) read

pub returns-clause-done : goal.returns-clause-done
returns-clause-done g c =
    let last : c.loop-number.number ≡ 1_000_001 = omega arith in
    let p = subst (λ n. Progress c.args.shape.now n c.loop-number.world (g.S.Source.left c.args.src.now) (g.S.Source.left c.loop-number.src) (g.O.Sink.taken c.args.out.now) (g.O.Sink.taken c.loop-number.out)) last
    c.loop-number.invariant.progress in
    let read = subst (λ ended. ReadsNext c.args.shape.now 1_000_001 (g.S.Source.left c.loop-number.src) (g.S.Source.left c.has_ended.new.src) (end_or_bad ended)) c.if-ended.false (c.in_ok-ended.ensures.read c.args.shape.now) in
    ends_badly c.args.shape.now 1_000_001 c.loop-number.world (g.S.Source.left c.args.src.now) (g.S.Source.left c.loop-number.src) (g.O.Sink.taken c.args.out.now) (g.O.Sink.taken c.loop-number.out) p read

pub returns-clause-world : goal.returns-clause-world
returns-clause-world g c =
    let last : c.loop-number.number ≡ 1_000_001 = omega arith in
    let p = subst (λ n. Progress c.args.shape.now n c.loop-number.world (g.S.Source.left c.args.src.now) (g.S.Source.left c.loop-number.src) (g.O.Sink.taken c.args.out.now) (g.O.Sink.taken c.loop-number.out)) last
    c.loop-number.invariant.progress in
    let read = subst (λ ended. ReadsNext c.args.shape.now 1_000_001 (g.S.Source.left c.loop-number.src) (g.S.Source.left c.has_ended.new.src) (end_or_bad ended)) c.if-ended.false (c.in_ok-ended.ensures.read c.args.shape.now) in
    bad_hands_back c.args.shape.now 1_000_001 c.loop-number.world (g.S.Source.left c.args.src.now) (g.S.Source.left c.loop-number.src) (g.O.Sink.taken c.args.out.now) (g.O.Sink.taken c.loop-number.out) p read

pub returns-in_err-next_line-clause-early : goal.returns-in_err-next_line-clause-early
returns-in_err-next_line-clause-early g c =
    let p = err_from_is_err_and c.from_residual-in_err-next_line.result c.from_residual-in_err-next_line.ensures.1 in
    let e = c.in_err-next_line.ensures in
    let l = c.loop-number in
    rw (p.1, p.2) (early_read c.args.shape.now l.number l.world (g.S.Source.left c.args.src.now) (g.S.Source.left l.src) (g.O.Sink.taken c.args.out.now) (g.O.Sink.taken l.out) l.invariant.progress
    (g.S.Source.left c.next_line.new.src) (g.S.Source.faults c.args.src.now) (g.O.Sink.faults c.args.out.now) (g.S.Source.faults l.src) (g.O.Sink.faults l.out)
    (g.S.Source.faults c.next_line.new.src) (g.O.Sink.faults l.out) c.in_err-next_line.field-0.0 l.invariant.later_source e.failed e.unfinished)

pub returns-in_err-ended-clause-early : goal.returns-in_err-ended-clause-early
returns-in_err-ended-clause-early g c =
    let p = err_from_is_err_and c.from_residual-in_err-ended.result c.from_residual-in_err-ended.ensures.1 in
    let e = c.in_err-ended.ensures in
    let l = c.loop-number in
    rw (p.1, p.2) (early_read c.args.shape.now l.number l.world (g.S.Source.left c.args.src.now) (g.S.Source.left l.src) (g.O.Sink.taken c.args.out.now) (g.O.Sink.taken l.out) l.invariant.progress
    (g.S.Source.left c.has_ended.new.src) (g.S.Source.faults c.args.src.now) (g.O.Sink.faults c.args.out.now) (g.S.Source.faults l.src) (g.O.Sink.faults l.out)
    (g.S.Source.faults c.has_ended.new.src) (g.O.Sink.faults l.out) c.in_err-ended.field-0.0 l.invariant.later_source e.failed e.unfinished)

pub returns-in_err-world-in-Asked-clause-early : goal.returns-in_err-world-in-Asked-clause-early
returns-in_err-world-in-Asked-clause-early g c =
    let p = err_from_is_err_and c.from_residual-in_err-world-in-Asked.result c.from_residual-in_err-world-in-Asked.ensures.1 in
    let e = c.in_err-world-in-Asked.ensures in
    let l = c.loop-number in
    let read = subst (ReadsNext c.args.shape.now l.number (g.S.Source.left l.src) (g.S.Source.left c.next_line.new.src)) c.in-Asked.is c.in_ok-next_line.ensures.read in
    rw (p.1, p.2) (early_print c.args.shape.now l.number l.world (g.S.Source.left c.args.src.now) (g.S.Source.left l.src) (g.O.Sink.taken c.args.out.now) (g.O.Sink.taken l.out) l.invariant.progress
    c.in-Asked.asked (g.S.Source.left c.next_line.new.src) (g.O.Sink.taken c.print_event.new.out) read.1
    (g.S.Source.faults c.args.src.now) (g.O.Sink.faults c.args.out.now) (g.S.Source.faults l.src) (g.O.Sink.faults l.out)
    (g.S.Source.faults c.next_line.new.src) (g.O.Sink.faults c.print_event.new.out) c.in_err-world-in-Asked.field-0.0 l.invariant.later_sink e.failed e.kept e.part)

pub returns-in_err-world-clause-early : goal.returns-in_err-world-clause-early
returns-in_err-world-clause-early g c =
    let p = err_from_is_err_and c.from_residual.result c.from_residual.ensures.1 in
    rw (p.1, p.2) (early_start c.args.shape.now c.new.ensures.known (g.S.Source.left c.args.src.now) (g.O.Sink.taken c.args.out.now) (g.S.Source.faults c.args.src.now) (g.O.Sink.faults c.args.out.now))
