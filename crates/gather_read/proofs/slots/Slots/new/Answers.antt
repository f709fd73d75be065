use Rattle.std.proofs.Common.{arith, ◌≡◌, length}
use Rattle.gather_read.proofs.Keeping.{none_kept}
use Rattle.gather_read.proofs.slots.Slots.new.Goals as goal

pub invariant_of-result : goal.invariant_of-result
invariant_of-result c =
    let long : length c.loop.places.items ≡ 15 = omega (arith, c.loop.invariant.long, c.loop-test.false, c.loop.auto.counter-end) in
    none_kept c.args.k c.loop.places.items long c.loop.invariant.none
