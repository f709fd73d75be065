use Rattle.std.proofs.Common.{◌≡◌, ◌-◌, ◌∷◌, [], length, ap, arith}
use Rattle.std.proofs.lemmas.List.{length-append}
use Rattle.std.proofs.lemmas.Result.{err_from_is_err_and}
use Rattle.entry_frames.specs.MessageFields.{entry_size}
use Rattle.peer_frames.specs.SlotViews.{entries_of_views}
use Rattle.peer_frames.proofs.Reading.{goes_on, fails_at, too_long_at, too_long, fits_in, size_taken, seen_more, need_more}
use Rattle.peer_frames.proofs.slots.Slots.read.Goals as goal

pub returns-in_err-view-clause-exact : goal.returns-in_err-view-clause-exact
returns-in_err-view-clause-exact c =
    let p = err_from_is_err_and c.from_residual.result c.from_residual.ensures.1 in
    rw (p.1, p.2) (fails_at (entries_of_views c.loop.slots) c.args.k c.args.rises c.args.high c.args.count c.loop.counter c.loop.low c.loop.room c.loop.fields _ _ c.loop-test.true c.loop.invariant.so_far c.in_err-view.ensures.exact)

pub overflow_sub-size : goal.overflow_sub-size
overflow_sub-size c =
    let s = size_taken c.args.k c.loop.low c.args.high c.loop.fields c.take.new.fields c.in_ok-view.view.entry c.rest-before.ensures.bytes c.in_ok-view.ensures.exact in
    omega (arith, s.0, ap length c.rest.ensures.value, ap length c.rest-before.ensures.value)

pub test-requires : goal.test-requires
test-requires c =
    let s = size_taken c.args.k c.loop.low c.args.high c.loop.fields c.take.new.fields c.in_ok-view.view.entry c.rest-before.ensures.bytes c.in_ok-view.ensures.exact in
    omega (arith, s.0, s.1, ap length c.rest.ensures.value, ap length c.rest-before.ensures.value)

pub returns-in_err-test-clause-exact : goal.returns-in_err-test-clause-exact
returns-in_err-test-clause-exact c =
    let s = size_taken c.args.k c.loop.low c.args.high c.loop.fields c.take.new.fields c.in_ok-view.view.entry c.rest-before.ensures.bytes c.in_ok-view.ensures.exact in
    let size : length c.rest-before.result.now - length c.rest.result.now ≡ entry_size c.args.k c.in_ok-view.view.entry = omega (arith, s.0, ap length c.rest.ensures.value, ap length c.rest-before.ensures.value) in
    let t = too_long (length c.rest-before.result.now - length c.rest.result.now) c.loop.room c.take.new.fields _ c.in_err-test.ensures in
    let p = err_from_is_err_and c.from_residual-in_err-test.result c.from_residual-in_err-test.ensures.1 in
    let total = too_long_at (entries_of_views c.loop.slots) c.args.k c.args.rises c.args.high c.args.count c.loop.counter c.loop.low c.loop.room c.loop.fields c.take.new.fields
    c.in_ok-view.view.entry _ c.loop-test.true c.loop.invariant.so_far c.in_ok-view.ensures.exact (omega (arith, size, t.0)) in
    rw (p.1, p.2, t.1, size) total

pub loop-preserved : goal.loop-preserved
loop-preserved c =
    let s = size_taken c.args.k c.loop.low c.args.high c.loop.fields c.take.new.fields c.in_ok-view.view.entry c.rest-before.ensures.bytes c.in_ok-view.ensures.exact in
    let size : length c.rest-before.result.now - length c.rest.result.now ≡ entry_size c.args.k c.in_ok-view.view.entry = omega (arith, s.0, ap length c.rest.ensures.value, ap length c.rest-before.ensures.value) in
    record {
      so_far = rw (c.push.ensures, seen_more c.loop.slots c.in_ok-view.view, c.next_low-low.ensures, size)
          (goes_on (entries_of_views c.loop.slots) c.args.k c.args.rises c.args.high c.args.count c.loop.counter c.loop.low c.loop.room c.loop.fields c.take.new.fields c.in_ok-view.view.entry _
          c.loop-test.true c.loop.invariant.so_far c.in_ok-view.ensures.exact (omega (arith, size, fits_in (length c.rest-before.result.now - length c.rest.result.now) c.loop.room c.take.new.fields c.take.new.fields c.in_ok-test.ensures)));
      as_many = omega (arith, ap length c.push.ensures, length-append c.loop.slots (c.in_ok-view.view ∷ []), c.loop.invariant.as_many);
      need = rw c.push.ensures (need_more c.args.k c.loop.slots c.in_ok-view.view c.loop.invariant.need c.in_ok-view.ensures.need);
    }
