use Rattle.std.proofs.Common.{refl, sym, subst}
use Rattle.std.specs.Prelude.{IsTrue}
use Rattle.node_shell.specs.Opening.{OpensAsBefore, StillOpens}
use Rattle.node_shell.proofs.Opening.{begins_less, same_owned, kept_file, only_file, opens_as_before, still_opened}
use Rattle.synced_log.specs.Crashes.{BeginsWithSync}
use Rattle.synced_log.specs.Journal.{owned}
use Rattle.synced_log.specs.Standing.{Stays}
use Rattle.world_model.specs.Nodes.{started}
use Rattle.node_shell.proofs.shell.Shell.open.Goals as goal

pub returns-in-Err-clause-any_moment_err : goal.returns-in-Err-clause-any_moment_err
returns-in-Err-clause-any_moment_err g c =
    let d = g.D.Disk in
    let o = owned c.args.shape.now c.args.me in
    let old = c.args.disk in
    begins_less d.tells_crash d.tells_past d.moment d.may_leave d.left_since d.history old _ (Stays o (d.seen old)) (OpensAsBefore o (d.seen old)) (opens_as_before o (d.seen old)) c.in-Err.ensures.any_moment_err

pub returns-in-Err-boot-clause-any_moment_err : goal.returns-in-Err-boot-clause-any_moment_err
returns-in-Err-boot-clause-any_moment_err g c =
    let d = g.D.Disk in
    let o = owned c.args.shape.now c.args.me in
    let old = c.args.disk in
    subst (λ disk. BeginsWithSync d.tells_crash d.tells_past d.moment d.may_leave d.left_since d.history old disk (OpensAsBefore o (d.seen old))) (sym c.give_back.ensures)
    (begins_less d.tells_crash d.tells_past d.moment d.may_leave d.left_since d.history old c.in-Ok.opened.0.disk (Stays o (d.seen old)) (OpensAsBefore o (d.seen old)) (opens_as_before o (d.seen old)) c.in-Ok.ensures.any_moment)

pub returns-in-Err-boot-clause-untouched : goal.returns-in-Err-boot-clause-untouched
returns-in-Err-boot-clause-untouched g c =
    let d = g.D.Disk in
    let o = owned c.args.shape.now c.args.me in
    let old = c.args.disk in
    let journal = c.in-Ok.opened.0 in
    subst (λ disk. StillOpens o (d.seen old) (d.seen disk)) (sym c.give_back.ensures) (still_opened (d.seen old) (d.seen journal.disk) o journal.gate c.in-Ok.opened.1 c.in-Ok.ensures.opened)

pub invariant_of-result : goal.invariant_of-result
invariant_of-result g c =
    let d = g.D.Disk in
    let shape = c.args.shape.now in
    let old = c.args.disk in
    let journal = c.in-Ok.opened.0 in
    let core = c.in-Ok-boot.core in
    let e = c.in-Ok.ensures in
    record {
      node = (started shape c.args.me core.durable, c.in-Ok-boot.ensures.started);
      kept = kept_file shape c.args.me c.in-Ok.opened.1 core.durable e.shape c.in-Ok-boot.ensures.replayed (d.seen old) (d.seen journal.disk) journal.gate core e.opened e.told.same_seen
          (same_owned c.in-Ok-boot.core (started shape c.args.me c.in-Ok-boot.core.durable) c.in-Ok-boot.ensures.started) refl;
      durable = λ told. e.durable (subst IsTrue e.told.same_crash told);
    }

pub returns-clause-any_moment : goal.returns-clause-any_moment
returns-clause-any_moment g c =
    let d = g.D.Disk in
    let o = owned c.args.shape.now c.args.me in
    let old = c.args.disk in
    begins_less d.tells_crash d.tells_past d.moment d.may_leave d.left_since d.history old c.in-Ok.opened.0.disk (Stays o (d.seen old)) (OpensAsBefore o (d.seen old)) (opens_as_before o (d.seen old)) c.in-Ok.ensures.any_moment

pub returns-clause-only : goal.returns-clause-only
returns-clause-only g c =
    let d = g.D.Disk in
    let e = c.in-Ok.ensures in
    only_file c.args.shape.now c.args.me c.in-Ok.opened.1 c.in-Ok-boot.core.durable e.shape c.in-Ok-boot.ensures.replayed (d.seen c.args.disk) (d.seen c.in-Ok.opened.0.disk) c.in-Ok.opened.0.gate e.opened

pub returns-clause-kept : goal.returns-clause-kept
returns-clause-kept g c =
    let d = g.D.Disk in
    let e = c.in-Ok.ensures in
    kept_file c.args.shape.now c.args.me c.in-Ok.opened.1 c.in-Ok-boot.core.durable e.shape c.in-Ok-boot.ensures.replayed (d.seen c.args.disk) (d.seen c.in-Ok.opened.0.disk) c.in-Ok.opened.0.gate
    c.in-Ok-boot.core e.opened e.told.same_seen (same_owned c.in-Ok-boot.core (started c.args.shape.now c.args.me c.in-Ok-boot.core.durable) c.in-Ok-boot.ensures.started) refl
