use Rattle.std.proofs.Common.{◌≡◌, false, ◌∙◌, ap, refl, sym, subst}
use Rattle.crash_disk.specs.Told.{MayLeave}
use Rattle.node_core.specs.Turns.{event_of}
use Rattle.synced_log.specs.Stopped.{image_of}
use Rattle.schedule_replay.proofs.Shells.{image_has, left_opens}
use Rattle.schedule_replay.proofs.seat.stopped_disk.Goals as goal

pub returns : goal.returns
returns c = λ shape me d v runs.
    let disk = c.in_ok-disk.disk in
    let image = c.in_ok-image.image in
    let e = c.in_ok-image.ensures in
    let event = event_of c.args.event.now in
    let left = subst (MayLeave disk.told.now) (ap (λ i. i.told.now.bytes) e.fresh) e.left in
    let fed : disk.starved ≡ false = sym c.starved.ensures.value ∙ c.if-starved.false in
    image_has shape me image (image_of disk) _ e.fresh
    (left_opens shape me d v event c.args.call c.args.keep disk (image_of disk) left refl (c.in_ok-disk.ensures shape me d v runs) c.requires.some c.requires.few c.starved.ensures.as_told fed)
