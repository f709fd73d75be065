use Rattle.std.proofs.Common.{◌≡◌, ◌<◌, Some, arith, ap, ◌∙◌, subst, sym, length}
use Rattle.std.specs.Prelude.{slice_set}
use Rattle.schedule_replay.specs.Actions.{act_of}
use Rattle.schedule_replay.specs.Seats.{AreSeats}
use Rattle.schedule_replay.specs.Told.{TellsOf}
use Rattle.schedule_replay.proofs.Doing.{here_is, placed}
use Rattle.schedule_replay.proofs.Seating.{found_at}
use Rattle.schedule_replay.proofs.lines.act_at.Goals as goal

pub act-requires-clause-sits : goal.act-requires-clause-sits
act-requires-clause-sits c =
    let shape = c.args.shape.now in
    let seats = c.args.seats.now.items in
    let me = c.args.member in
    let at : c.from-position.result ≡ me = c.from-position.ensures ∙ c.number.ensures.value in
    let within : me < length seats = omega (arith, at, c.len.ensures, c.if-position-len.false) in
    let found = found_at shape seats c.requires.seats.0 c.requires.seats.1 me c.replace-seat.result within
    (here_is seats c.from-position.result me c.replace-seat.result c.index_mut.result.now c.replace-seat.ensures.value c.index_mut.ensures.value at) in
    (found.member, found.sits)

pub returns-clause-seats : goal.returns-clause-seats
returns-clause-seats c = λ w of_shape a.
    let shape = c.args.shape.now in
    let seats = c.args.seats.now.items in
    let me = c.args.member in
    let at : c.from-position.result ≡ me = c.from-position.ensures ∙ c.number.ensures.value in
    let within : me < length seats = omega (arith, at, c.len.ensures, c.if-position-len.false) in
    let found = found_at shape seats w.members a me c.replace-seat.result within
    (here_is seats c.from-position.result me c.replace-seat.result c.index_mut.result.now c.replace-seat.ensures.value c.index_mut.ensures.value at) in
    let done = c.in_ok-seat.ensures w found.member of_shape found.here found.sits in
    let later = slice_set (slice_set seats c.from-position.result c.replace-seat.new.dest) c.from-position.result c.in_ok-seat.seat in
    subst (λ o. AreSeats shape later (act_of c.args.action.now w me o).world.members) (sym found.here)
    (placed shape seats later w a me c.replace-seat.new.dest c.in_ok-seat.seat c.in_ok-seat.happened found.member (act_of c.args.action.now w me (Some found.member)) found.here done
    (ap (λ p. slice_set (slice_set seats p c.replace-seat.new.dest) p c.in_ok-seat.seat) at))

pub returns-clause-told : goal.returns-clause-told
returns-clause-told c = λ w of_shape a.
    let shape = c.args.shape.now in
    let seats = c.args.seats.now.items in
    let me = c.args.member in
    let at : c.from-position.result ≡ me = c.from-position.ensures ∙ c.number.ensures.value in
    let within : me < length seats = omega (arith, at, c.len.ensures, c.if-position-len.false) in
    let found = found_at shape seats w.members a me c.replace-seat.result within
    (here_is seats c.from-position.result me c.replace-seat.result c.index_mut.result.now c.replace-seat.ensures.value c.index_mut.ensures.value at) in
    let done = c.in_ok-seat.ensures w found.member of_shape found.here found.sits in
    subst (λ o. TellsOf c.in_ok-seat.happened (act_of c.args.action.now w me o)) (sym found.here) done.tells
