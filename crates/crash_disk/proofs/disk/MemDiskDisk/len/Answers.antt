use Rattle.std.proofs.Common.{refl}
use Rattle.craft_edge.specs.DiskCalls.{Len}
use Rattle.crash_disk.proofs.Keeping.{keeps_reading}
use Rattle.crash_disk.proofs.disk.MemDiskDisk.len.Goals as goal

pub invariant_of-self : goal.invariant_of-self
invariant_of-self c =
    let order = c.next_order-order in
    keeps_reading _ _ _ _ _ c.self.invariant Len order.result.fails order.new.calls order.new.left c.with-self-inside.result.told (λ _ _. refl)
    order.ensures.calls order.ensures.fails order.ensures.left c.with-self-inside.ensures

pub invariant_of-self-2 : goal.invariant_of-self-2
invariant_of-self-2 c =
    let order = c.next_order-order in
    keeps_reading _ _ _ _ _ c.self.invariant Len order.result.fails order.new.calls order.new.left c.with-self-inside.result.told (λ _ _. refl)
    order.ensures.calls order.ensures.fails order.ensures.left c.with-self-inside.ensures
