use Rattle.std.proofs.Common.{◌+◌, List, ℕ, sym, subst}
use Rattle.std.proofs.lemmas.List.{take_rest}
use Rattle.entry_frames.specs.Durable.{born}
use Rattle.synced_log.specs.Journal.{after_groups}
use Rattle.synced_log.specs.declared.span.GroupSpan.{GroupSpan}
use Rattle.synced_log.specs.Walks.{AppliesGroup, WalksTo}
use Rattle.synced_log.proofs.Behind.{NoneBehind}
use Rattle.synced_log.proofs.Walking.{walk_goes_on, walk_fails}
use Rattle.synced_log.proofs.walk.walk.Goals as goal

pub returns-in_default : goal.returns-in_default
returns-in_default c =
    let w = c.loop-at.invariant in
    let taken = c.in_ok-len.ensures (after_groups born w.groups) w.outline_is in
    let none = rw c.in_default.is at taken in
    walk_fails c.args.shape.now c.args.file.now c.loop-at.spans.items c.loop-at.at c.loop-at.outline w c.loop-at-test.true c.if-file-at-ne-OPEN.false
    (subst (λ (b : List ℕ). NoneBehind c.args.shape.now (after_groups born w.groups) b) (take_rest c.args.file.now (c.loop-at.at + 1)) none)

pub loop-at-preserved : goal.loop-at-preserved
loop-at-preserved c =
    let w = c.loop-at.invariant in
    let taken = c.in_ok-len.ensures (after_groups born w.groups) w.outline_is in
    let shape = rw c.in-Some.is at taken in
    subst (λ (l : List GroupSpan). WalksTo c.args.shape.now c.args.file.now l (c.loop-at.at + (9 + c.in-Some.len)) c.apply_group.new.outline) (sym c.in_ok-push.ensures.items)
    (walk_goes_on c.args.shape.now c.args.file.now c.loop-at.spans.items c.loop-at.at c.in-Some.len c.loop-at.outline c.apply_group.new.outline w c.loop-at-test.true c.if-file-at-ne-OPEN.false
    (subst (λ (b : List ℕ). AppliesGroup c.args.shape.now (after_groups born w.groups) b c.in-Some.len c.apply_group.new.outline) (take_rest c.args.file.now (c.loop-at.at + 1)) shape))
