use Rattle.std.proofs.Common.{max, take, arith, ap, ◌∙◌, sym}
use Rattle.std.proofs.lemmas.List.{take_all}
use Rattle.std.proofs.lemmas.Option.{get_or_from_slice_get, slice_get_within}
use Rattle.world_model.specs.Tallies.{greatest_commit}
use Rattle.schedule_replay.proofs.Seating.{found_at}
use Rattle.schedule_replay.proofs.Tallying.{most_more}
use Rattle.schedule_replay.proofs.counting.most_committed.Goals as goal

pub loop-seat-preserved : goal.loop-seat-preserved
loop-seat-preserved c = λ shape members a.
    let i = c.loop-seat.seat-index in
    let found = found_at shape c.args.seats.now members a i c.seat-item.result c.loop-seat-test.true (sym c.seat-item.is) in
    let m = found.member in
    let most = c.loop-seat.invariant shape members a in
    c.greater-most.ensures ∙ ap (λ k. max k c.commit.result) most ∙ ap (max (greatest_commit (take i members))) (c.commit.ensures shape i m found.sits)
    ∙ sym (most_more members i m (slice_get_within members i m found.here) (get_or_from_slice_get members i m m found.here))

pub returns : goal.returns
returns c = λ shape members a.
    c.loop-seat.invariant shape members a ∙ ap greatest_commit (take_all c.loop-seat.seat-index members (omega (arith, a.all, a.same, c.loop-seat-test.false)))
