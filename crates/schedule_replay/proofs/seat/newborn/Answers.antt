use Rattle.std.proofs.Common.{sym, ap, subst, ◌∙◌, []}
use Rattle.crash_disk.specs.MemDisk.{made_disk}
use Rattle.entry_frames.specs.Durable.{born}
use Rattle.schedule_replay.specs.Seats.{HasState}
use Rattle.schedule_replay.proofs.Shells.{new_disk_has}
use Rattle.schedule_replay.proofs.seat.newborn.Goals as goal

pub returns : goal.returns
returns c = c.in_ok-shell.ensures born
    (subst (λ disk. HasState c.args.shape.now c.args.me disk born) (sym (c.new-2.ensures ∙ ap (made_disk []) c.new.ensures.items)) (new_disk_has c.args.shape.now c.args.me c.law.ensures c.requires))
