use Rattle.std.proofs.Common.{◌∙◌, ap, refl, subst}
use Rattle.crash_disk.specs.Told.{MayLeave}
use Rattle.node_shell.specs.Standing.{owner_of}
use Rattle.node_shell.proofs.Opening.{same_owned}
use Rattle.synced_log.specs.Journal.{owned}
use Rattle.synced_log.specs.Stopped.{image_of}
use Rattle.synced_log.specs.States.{OpensTo}
use Rattle.world_model.specs.Nodes.{node_with}
use Rattle.schedule_replay.proofs.Shells.{image_has}
use Rattle.schedule_replay.proofs.seat.take_down.Goals as goal

pub returns : goal.returns
returns c = λ shape me d v runs.
    let core = c.args.shell.core in
    let disk = c.give_back.result in
    let e = c.in_ok-disk.ensures in
    let left = subst (MayLeave disk.told.now) (ap (λ i. i.told.now.bytes) e.fresh) e.left in
    let opens : OpensTo (image_of disk) (owner_of core) core.durable =
    c.give_back.ensures.durable refl (image_of disk) (subst (λ k. MayLeave k.told.now (image_of disk)) c.give_back.ensures.disk left) in
    let now : OpensTo (image_of disk) (owned shape me) d =
    subst (OpensTo (image_of disk) (owned shape me)) runs.core.of_durable
    (subst (λ o. OpensTo (image_of disk) o core.durable) (same_owned core (node_with shape me d v) runs.core) opens) in
    record {
      has = image_has shape me c.in_ok-disk.disk (image_of disk) d e.fresh now;
      commit = c.commit-commit.ensures ∙ ap (λ kept. kept.commit) (c.store.ensures.kept ∙ ap (λ k. k.durable) c.core.ensures.core ∙ runs.core.of_durable);
    }
