use Rattle.std.proofs.Common.{◌∙◌, subst, arith}
use Rattle.entry_frames.specs.Bodies.{IsFirst, NoneFirst}
use Rattle.entry_frames.specs.RecordViews.{record_of}
use Rattle.synced_log.proofs.Bodies.{goes_on, ended, stuck, refused}
use Rattle.synced_log.proofs.records.apply_body.Goals as goal

pub returns-in_default-item : goal.returns-in_default-item
returns-in_default-item c = λ d is.
    let next = rw c.in_default-item.is at c.in-Some.ensures.next in
    stuck c.args.shape.now d c.args.body.now c.loop-item.outline c.loop-item.walk.rest (c.loop-item.invariant.going d is) next.0
    (subst (λ n. NoneFirst n c.loop-item.walk.rest) c.loop-item.invariant.k next.1)

pub returns-then-not-branch : goal.returns-then-not-branch
returns-then-not-branch c = λ d is.
    let first = subst (λ n. IsFirst n c.loop-item.walk.rest (record_of c.in-Ok.item) c.next.new.self.rest) c.loop-item.invariant.k (rw c.in-Ok.is at c.in-Some.ensures.next).1 in
    refused c.args.shape.now d c.args.body.now c.loop-item.outline c.apply_record.new.outline c.loop-item.walk.rest c.next.new.self.rest (record_of c.in-Ok.item) (c.loop-item.invariant.going d is) (omega (arith, first.shorter)) first
    (rw c.if-not-branch.true at c.in_ok-apply_record.ensures)

pub loop-item-preserved : goal.loop-item-preserved
loop-item-preserved c =
    let first = subst (λ n. IsFirst n c.loop-item.walk.rest (record_of c.in-Ok.item) c.next.new.self.rest) c.loop-item.invariant.k (rw c.in-Ok.is at c.in-Some.ensures.next).1 in record {
      k = c.next.ensures.k ∙ c.loop-item.invariant.k;
      going = λ d is.
          goes_on c.args.shape.now d c.args.body.now c.loop-item.outline c.apply_record.new.outline c.loop-item.walk.rest c.next.new.self.rest (record_of c.in-Ok.item) (c.loop-item.invariant.going d is) first
          (rw c.if-not-branch.false at c.in_ok-apply_record.ensures);
    }

pub returns : goal.returns
returns c = λ d is. ended c.args.shape.now d c.args.body.now c.loop-item.outline c.loop-item.walk.rest (c.loop-item.invariant.going d is) c.in_default.ensures.next
