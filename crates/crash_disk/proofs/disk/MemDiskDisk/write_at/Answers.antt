use Rattle.std.proofs.Common.{subst, sym}
use Rattle.std.specs.Prelude.{Bool, true, false, ◌||◌}
use Rattle.craft_edge.specs.Disk.{Torn, Follows}
use Rattle.craft_edge.specs.DiskCalls.{WriteAt}
use Rattle.crash_disk.specs.MemDisk.{DiskInMemory, Makes}
use Rattle.crash_disk.specs.Told.{Told, MayLeave}
use Rattle.crash_disk.proofs.Crashes.{write_follows}
use Rattle.crash_disk.proofs.Keeping.{keeps_write, makes_write, Counts-after_call}
use Rattle.crash_disk.proofs.disk.MemDiskDisk.write_at.Goals as goal

pub invariant_of-self : goal.invariant_of-self
invariant_of-self c =
    let e = c.next_write-effect in
    keeps_write _ _ _ _ _ c.self.invariant c.args.at c.args.bytes.now e.result.failed e.result.carried e.result.starves e.new.calls e.new.bytes.items e.new.pending.items e.new.left c.with-self-inside.result.told
    e.ensures.carried e.ensures.nothing e.ensures.room (Counts-after_call _ _ _ e.ensures.calls) e.ensures.as_told e.ensures.effect e.ensures.left c.with-self-inside.ensures

pub invariant_of-self-2 : goal.invariant_of-self-2
invariant_of-self-2 c =
    let e = c.next_write-effect in
    keeps_write _ _ _ _ _ c.self.invariant c.args.at c.args.bytes.now e.result.failed e.result.carried e.result.starves e.new.calls e.new.bytes.items e.new.pending.items e.new.left c.with-self-inside.result.told
    e.ensures.carried e.ensures.nothing e.ensures.room (Counts-after_call _ _ _ e.ensures.calls) e.ensures.as_told e.ensures.effect e.ensures.left c.with-self-inside.ensures

pub returns-then-effect-clause-crash : goal.returns-then-effect-clause-crash
returns-then-effect-clause-crash c told =
    subst (λ (d : DiskInMemory). Follows (Torn c.args.at c.args.bytes.now) (MayLeave d.told.now) (MayLeave c.with-self-inside.result.told.now)) c.self.view_is
    (subst (λ (t : Told). Follows (Torn c.args.at c.args.bytes.now) (MayLeave c.self.inside.past.told.now) (MayLeave t.now)) (sym c.with-self-inside.ensures)
    (write_follows c.self.inside.past.told.now c.args.at c.args.bytes.now c.next_write-effect.result.carried c.self.invariant.sound))

pub returns-clause-crash : goal.returns-clause-crash
returns-clause-crash c told =
    subst (λ (d : DiskInMemory). Follows (Torn c.args.at c.args.bytes.now) (MayLeave d.told.now) (MayLeave c.with-self-inside.result.told.now)) c.self.view_is
    (subst (λ (t : Told). Follows (Torn c.args.at c.args.bytes.now) (MayLeave c.self.inside.past.told.now) (MayLeave t.now)) (sym c.with-self-inside.ensures)
    (write_follows c.self.inside.past.told.now c.args.at c.args.bytes.now c.next_write-effect.result.carried c.self.invariant.sound))

pub returns-then-effect-clause-made : goal.returns-then-effect-clause-made
returns-then-effect-clause-made c =
    let e = c.next_write-effect in
    let new : DiskInMemory = record { told = c.with-self-inside.result.told; calls = e.new.calls; starved = c.self.inside.starved || e.result.starves } in
    subst (λ (d : DiskInMemory). Makes (WriteAt c.args.at c.args.bytes.now) true d new) c.self.view_is
    (subst (λ (b : Bool). Makes (WriteAt c.args.at c.args.bytes.now) b (record { told = c.self.inside.past.told; calls = c.self.inside.calls; starved = c.self.inside.starved }) new) c.if-effect.true
    (makes_write _ _ _ _ _ c.self.invariant c.args.at c.args.bytes.now e.result.failed e.result.carried e.result.starves e.new.calls c.with-self-inside.result.told e.ensures.calls e.ensures.to_fail e.ensures.as_told e.ensures.effect e.ensures.untorn e.ensures.ok
    c.with-self-inside.ensures))

pub returns-clause-made : goal.returns-clause-made
returns-clause-made c =
    let e = c.next_write-effect in
    let new : DiskInMemory = record { told = c.with-self-inside.result.told; calls = e.new.calls; starved = c.self.inside.starved || e.result.starves } in
    subst (λ (d : DiskInMemory). Makes (WriteAt c.args.at c.args.bytes.now) false d new) c.self.view_is
    (subst (λ (b : Bool). Makes (WriteAt c.args.at c.args.bytes.now) b (record { told = c.self.inside.past.told; calls = c.self.inside.calls; starved = c.self.inside.starved }) new) c.if-effect.false
    (makes_write _ _ _ _ _ c.self.invariant c.args.at c.args.bytes.now e.result.failed e.result.carried e.result.starves e.new.calls c.with-self-inside.result.told e.ensures.calls e.ensures.to_fail e.ensures.as_told e.ensures.effect e.ensures.untorn e.ensures.ok
    c.with-self-inside.ensures))
