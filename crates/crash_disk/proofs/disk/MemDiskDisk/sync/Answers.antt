use Rattle.std.proofs.Common.{refl}
use Rattle.std.specs.Prelude.{not}
use Rattle.craft_edge.specs.DiskCalls.{Sync}
use Rattle.crash_disk.proofs.Keeping.{same_state, sync_state, keeps_call, not_true, not_false, Counts-after_call}
use Rattle.crash_disk.proofs.disk.MemDiskDisk.sync.Goals as goal

pub invariant_of-self : goal.invariant_of-self
invariant_of-self c =
    let order = c.next_order-order in
    keeps_call _ _ _ _ _ c.self.invariant Sync order.result.fails (not order.result.fails) c.self.inside.starved order.new.calls _ c.self.inside.pending.items order.new.left c.with-self-inside.result.told
    (sync_state _ _ _ (not order.result.fails) c.self.inside.pending.items (same_state _ _ _ _ _ c.self.invariant) (λ does. absurd (not_true order.result.fails c.if-order.true does)) (λ none. refl))
    (Counts-after_call _ _ _ order.ensures.calls)
    (record { starved_stays = λ fed. fed; failed_as_told = λ fed. order.ensures.fails; effect_as_told = λ fed. refl })
    order.ensures.left c.with-self-inside.ensures

pub invariant_of-self-2 : goal.invariant_of-self-2
invariant_of-self-2 c =
    let order = c.next_order-order in
    keeps_call _ _ _ _ _ c.self.invariant Sync order.result.fails (not order.result.fails) c.self.inside.starved order.new.calls _ c.clear.new.self.items order.new.left c.with-self-inside.result.told
    (sync_state _ _ _ (not order.result.fails) c.clear.new.self.items (same_state _ _ _ _ _ c.self.invariant) (λ does. c.clear.ensures.items) (λ none. absurd (not_false order.result.fails c.if-order.false none)))
    (Counts-after_call _ _ _ order.ensures.calls)
    (record { starved_stays = λ fed. fed; failed_as_told = λ fed. order.ensures.fails; effect_as_told = λ fed. refl })
    order.ensures.left c.with-self-inside.ensures
