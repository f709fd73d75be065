use Rattle.std.proofs.Common.{◌-◌, ◌<◌, length, take, drop, sym, subst, arith}
use Rattle.std.proofs.lemmas.Bool.Decides.{nat_tests}
use Rattle.std.proofs.lemmas.List.{take_rest}
use Rattle.entry_frames.specs.Bodies.{IsFirst, NoneFirst}
use Rattle.entry_frames.specs.RecordViews.{record_of, HasK}
use Rattle.entry_frames.proofs.record_walk.RecordWalk.next.Goals as goal

pub returns-in-Err-clause-next : goal.returns-in-Err-clause-next
returns-in-Err-clause-next c =
    let some : 0 < length c.self.inside.rest.now = grind (arith, nat_tests, c.is_empty.ensures, c.if-is_empty.false) in
    subst (λ v. (0 < length v.rest) × NoneFirst v.k v.rest) c.self.view_is (some, c.in-Err.ensures.none)

pub returns-in-Ok-clause-next : goal.returns-in-Ok-clause-next
returns-in-Ok-clause-next c =
    let rest = c.self.inside.rest.now in
    subst (λ v. HasK v.k c.in-Ok.view × IsFirst v.k v.rest (record_of c.in-Ok.view) (take (length rest - c.in-Ok.len) (drop c.in-Ok.len rest))) c.self.view_is
    (c.in-Ok.ensures.need, subst (IsFirst c.self.inside.k rest (record_of c.in-Ok.view)) (sym (take_rest rest c.in-Ok.len)) c.in-Ok.ensures.first.1)
