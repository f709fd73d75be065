use Rattle.crash_disk.proofs.Keeping.{keeps_stop}
use Rattle.crash_disk.proofs.disk.MemDiskStopping.stop.Goals as goal

pub invariant_of-self : goal.invariant_of-self
invariant_of-self c =
    keeps_stop _ _ _ _ _ c.self.invariant c.args.call c.args.keep c.with-self-inside.result.told c.requires c.with-self-inside.ensures
