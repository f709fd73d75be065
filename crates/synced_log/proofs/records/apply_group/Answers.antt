use Rattle.std.proofs.Common.{◌≡◌, ◌<◌, length, arith}
use Rattle.std.proofs.lemmas.Bool.Decides.{nat_tests}
use Rattle.std.proofs.lemmas.List.{nil_from_length}
use Rattle.synced_log.proofs.Behind.{empty_body, no_records, body_spelled, group_applied}
use Rattle.synced_log.proofs.records.apply_group.Goals as goal

pub returns-then-is_empty : goal.returns-then-is_empty
returns-then-is_empty c = λ d is.
    let none : length c.in-Ok.body.now ≡ 0 = grind (arith, nat_tests, c.is_empty.ensures, c.if-is_empty.true) in
    empty_body c.args.shape.now d c.args.bytes.now c.in-Ok.body.now _ _ c.body_behind.ensures.room c.in-Ok.ensures.exact (nil_from_length c.in-Ok.body.now none)

pub returns-then-not-branch : goal.returns-then-not-branch
returns-then-not-branch c = λ d is.
    let taken = c.in_ok-apply_body.ensures d is in
    no_records c.args.shape.now d c.args.bytes.now c.in-Ok.body.now _ _ c.body_behind.ensures.room c.in-Ok.ensures.exact (rw c.if-not-branch.true at taken)

pub returns : goal.returns
returns c = λ d is.
    let taken = c.in_ok-apply_body.ensures d is in
    let some : 0 < length c.in-Ok.body.now = grind (arith, nat_tests, c.is_empty.ensures, c.if-is_empty.false) in
    group_applied c.args.shape.now d c.args.bytes.now c.in-Ok.body.now c.apply_body.new.outline some
    (body_spelled c.args.bytes.now c.in-Ok.body.now (record { each = λ i. omega (arith, c.type_inv.bytes i) }) c.in-Ok.ensures.exact) (rw c.if-not-branch.false at taken)
