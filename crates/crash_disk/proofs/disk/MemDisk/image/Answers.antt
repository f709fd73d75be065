use Rattle.std.proofs.Common.{ℕ, List, ap, sym, subst, ◌∙◌}
use Rattle.crash_disk.specs.MemDisk.{DiskInMemory}
use Rattle.crash_disk.specs.Told.{MayLeave}
use Rattle.crash_disk.proofs.Spoiling.{image_left, image_spoiled, same_arguments, spoiled_within}
use Rattle.crash_disk.proofs.disk.MemDisk.image.Goals as goal

pub made-requires-2 : goal.made-requires-2
made-requires-2 c = spoiled_within _ _ _ _ _ c.self.invariant c.in_ok-spoiled.spoiled.items (same_arguments _ _ _ _ _ c.in_ok-spoiled.ensures c.deref.ensures.value c.deref-2.ensures.value)

pub returns-clause-left : goal.returns-clause-left
returns-clause-left c =
    let bytes = ap (λ (d : DiskInMemory). d.told.now.bytes) c.made-2.ensures in
    subst (λ (d : DiskInMemory). MayLeave d.told.now c.made-2.result.told.now.bytes) c.self.view_is
    (subst (λ (xs : List ℕ). MayLeave c.self.inside.past.told.now xs)
    (sym (bytes ∙ image_spoiled _ _ _ _ _ c.self.invariant c.in_ok-spoiled.spoiled.items c.if-keep.false (same_arguments _ _ _ _ _ c.in_ok-spoiled.ensures c.deref.ensures.value c.deref-2.ensures.value))) (image_left _ _ _ _ _ c.self.invariant))
