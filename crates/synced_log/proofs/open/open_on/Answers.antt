use Rattle.std.proofs.Common.{sym, ap, ◌∙◌, subst}
use Rattle.std.proofs.lemmas.Result.{err_from_is_err_and}
use Rattle.std.specs.Prelude.{IsTrue, is_err, is_some}
use Rattle.craft_edge.specs.Disk.{OnlySeen}
use Rattle.craft_edge.specs.DiskCalls.{Sync, after_call_of}
use Rattle.synced_log.specs.Calls.{AreReadings, MakesOrFaults, ReadsAndCreates, IsOpening, IsSyncedReading}
use Rattle.synced_log.specs.Journal.{owned}
use Rattle.synced_log.proofs.Made.{disk_failed, told_call, told_made}
use Rattle.synced_log.proofs.OpeningCalls.{sync_failed, behind_sync}
use Rattle.synced_log.proofs.open.open_on.Goals as goal

pub returns-in_err-sync-clause-calls : goal.returns-in_err-sync-clause-calls
returns-in_err-sync-clause-calls g c =
    let d = g.D.Disk in
    let wanted = owned c.args.shape.now c.args.me in
    let e = err_from_is_err_and c.from_residual.result c.from_residual.ensures.1 in
    disk_failed (d.history c.args.disk.now) (d.history c.sync.new.disk) (IsOpening (d.seen c.args.disk.now) wanted) IsSyncedReading c.from_residual.result e.0 e.1 e.2
    (sync_failed (d.history c.args.disk.now) (d.history c.sync.new.disk) (d.seen c.args.disk.now) wanted (c.sync.ensures.history ∙ ap (after_call_of (d.history c.args.disk.now) Sync) (ap is_err c.in_err-sync.was)))

pub returns-clause-calls : goal.returns-clause-calls
returns-clause-calls g c =
    let d = g.D.Disk in
    let old = d.history c.args.disk.now in
    let mid = d.history c.sync.new.disk in
    let new = d.history c.open_synced.new.disk in
    let wanted = owned c.args.shape.now c.args.me in
    let seen = c.sync.ensures.seen in
    behind_sync old mid new (ReadsAndCreates (d.seen c.args.disk.now) wanted) AreReadings c.open_synced.result
    (c.sync.ensures.history ∙ ap (after_call_of old Sync) (ap is_err c.in_ok-sync.was))
    (subst (λ s. MakesOrFaults mid new (ReadsAndCreates s wanted) AreReadings c.open_synced.result) seen c.open_synced.ensures.calls)

pub returns-clause-told : goal.returns-clause-told
returns-clause-told g c =
    let d = g.D.Disk in
    let mid = c.sync.new.disk in
    let first = c.sync.ensures.crash in
    let rest = c.open_synced.ensures.crash (λ told. subst (λ s. OnlySeen s (d.may_leave mid)) (sym c.sync.ensures.seen) (c.in_ok-sync.ensures.durable (subst IsTrue first.same_crash told))) in
    record {
      same_seen = c.open_synced.ensures.told ∙ ap is_some c.sync.ensures.seen;
      same_crash = rest.same_crash ∙ first.same_crash;
      same_past = rest.same_past ∙ first.same_past;
      same_history = told_made (d.history mid) (d.history c.open_synced.new.disk) (ReadsAndCreates (d.seen mid) (owned c.args.shape.now c.args.me)) AreReadings c.open_synced.result c.open_synced.ensures.calls
          ∙ ap is_some c.sync.ensures.history ∙ told_call (d.history c.args.disk.now) Sync (is_err c.sync.result);
    }
