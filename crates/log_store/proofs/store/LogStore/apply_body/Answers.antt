use Rattle.std.proofs.Common.{◌∙◌, ap, sym, subst}
use Rattle.entry_frames.specs.Bodies.{IsFirst, NoneFirst}
use Rattle.entry_frames.specs.Durable.{CanApply}
use Rattle.entry_frames.specs.RecordViews.{record_of, HasK}
use Rattle.entry_frames.proofs.Bodies.{Walked, can_apply_next, walk_goes_on, walk_leaves, walk_stuck}
use Rattle.log_store.proofs.store.LogStore.apply_body.Goals as goal

pub unreachable-requires : goal.unreachable-requires
unreachable-requires c =
    let next = rw c.in_default-item.is at c.in-Some.ensures.next in
    let none = subst (λ n. NoneFirst n c.loop-item.walk.rest) c.loop-item.invariant.k next.1 in
    walk_stuck c.args.self.shape c.args.self.kept c.args.body.now c.loop-item.store.kept c.loop-item.walk.rest c.loop-item.invariant.walked next.0 (λ r tail fits is can. none r tail fits is) c.requires.0 c.requires.1

pub apply-requires-clause-need : goal.apply-requires-clause-need
apply-requires-clause-need c =
    subst (λ n. HasK n c.in-Ok.item) (c.loop-item.invariant.k ∙ ap (λ g. g.need) (sym c.loop-item.invariant.shape)) (rw c.in-Ok.is at c.in-Some.ensures.next).0

pub apply-requires-clause-can : goal.apply-requires-clause-can
apply-requires-clause-can c =
    let first = subst (λ n. IsFirst n c.loop-item.walk.rest (record_of c.in-Ok.item) c.next.new.self.rest) c.loop-item.invariant.k (rw c.in-Ok.is at c.in-Some.ensures.next).1 in
    let more = c.loop-item.invariant.walked.on c.requires.0 c.requires.1 in
    subst (λ g. CanApply g c.loop-item.store.kept (record_of c.in-Ok.item)) (sym c.loop-item.invariant.shape)
    (can_apply_next c.args.self.shape c.loop-item.store.kept c.loop-item.walk.rest c.next.new.self.rest (record_of c.in-Ok.item) more.0 first more.1)

pub loop-item-preserved : goal.loop-item-preserved
loop-item-preserved c =
    let first = subst (λ n. IsFirst n c.loop-item.walk.rest (record_of c.in-Ok.item) c.next.new.self.rest) c.loop-item.invariant.k (rw c.in-Ok.is at c.in-Some.ensures.next).1 in
    let more = c.loop-item.invariant.walked.on c.requires.0 c.requires.1 in
    let can = can_apply_next c.args.self.shape c.loop-item.store.kept c.loop-item.walk.rest c.next.new.self.rest (record_of c.in-Ok.item) more.0 first more.1 in
    record {
      shape = c.in_ok-store.ensures.shape ∙ c.loop-item.invariant.shape;
      k = c.next.ensures.k ∙ c.loop-item.invariant.k;
      walked = subst (λ d. Walked c.args.self.shape c.args.self.kept c.args.body.now d c.next.new.self.rest) (sym c.in_ok-store.ensures.kept)
          (walk_goes_on c.args.self.shape c.args.self.kept c.args.body.now c.loop-item.store.kept c.loop-item.walk.rest c.next.new.self.rest (record_of c.in-Ok.item) c.loop-item.invariant.walked can first);
    }

pub returns-clause-kept : goal.returns-clause-kept
returns-clause-kept c = λ records s. walk_leaves c.args.self.shape c.args.self.kept c.args.body.now c.loop-item.store.kept c.loop-item.walk.rest records c.loop-item.invariant.walked c.in_default.ensures.next s
