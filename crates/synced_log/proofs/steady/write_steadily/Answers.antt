use Rattle.std.proofs.Common.{sym, ap, subst, [], ◌∷◌}
use Rattle.std.proofs.lemmas.Result.{err_from_is_err_and}
use Rattle.std.specs.Prelude.{IsTrue, is_err}
use Rattle.craft_edge.specs.DiskCalls.{WriteAt, Sync}
use Rattle.craft_edge.proofs.DiskTorn.{Torn-PartlyWritten}
use Rattle.craft_edge.proofs.DiskWrites.{PartlyWritten-none}
use Rattle.synced_log.specs.Crashes.{TornFrom}
use Rattle.synced_log.proofs.Made.{first_fails, both_made}
use Rattle.synced_log.proofs.Watching.{begins, goes_on}
use Rattle.synced_log.proofs.steady.write_steadily.Goals as goal

pub returns-in_err-write_at-clause-crash : goal.returns-in_err-write_at-clause-crash
returns-in_err-write_at-clause-crash g c =
    let d = g.D.Disk in
    let old = c.args.disk.now in
    let P = TornFrom (d.may_leave old) c.args.at c.args.bytes.now in
    let start = begins d.tells_crash d.tells_past d.moment d.may_leave d.left_since old P (λ crash image now. (image, now, Torn-PartlyWritten image c.args.at c.args.bytes.now image (PartlyWritten-none image c.args.at c.args.bytes.now))) (λ image. g.met.D.Disk.only_now old image) in
    goes_on d.tells_crash d.tells_past d.moment d.may_leave d.left_since old old c.write_at.new.self P start c.write_at.ensures.tells_crash c.write_at.ensures.tells_past c.write_at.ensures.time (λ crash image now. c.write_at.ensures.crash crash image now)

pub returns-clause-crash : goal.returns-clause-crash
returns-clause-crash g c =
    let d = g.D.Disk in
    let old = c.args.disk.now in
    let P = TornFrom (d.may_leave old) c.args.at c.args.bytes.now in
    let start = begins d.tells_crash d.tells_past d.moment d.may_leave d.left_since old P (λ crash image now. (image, now, Torn-PartlyWritten image c.args.at c.args.bytes.now image (PartlyWritten-none image c.args.at c.args.bytes.now))) (λ image. g.met.D.Disk.only_now old image) in
    let wrote = goes_on d.tells_crash d.tells_past d.moment d.may_leave d.left_since old old c.write_at.new.self P start c.write_at.ensures.tells_crash c.write_at.ensures.tells_past c.write_at.ensures.time (λ crash image now. c.write_at.ensures.crash crash image now) in
    goes_on d.tells_crash d.tells_past d.moment d.may_leave d.left_since old c.write_at.new.self c.sync.new.self P wrote c.sync.ensures.tells_crash c.sync.ensures.tells_past c.sync.ensures.time
    (λ crash image now. c.write_at.ensures.crash crash image (c.sync.ensures.crash (subst IsTrue (sym c.write_at.ensures.tells_crash) crash) image now))

pub returns-in_err-write_at-clause-history : goal.returns-in_err-write_at-clause-history
returns-in_err-write_at-clause-history g c =
    let d = g.D.Disk in
    let failed = err_from_is_err_and c.from_residual.result c.from_residual.ensures.1 in
    first_fails (d.history c.args.disk.now) (d.history c.write_at.new.self) (WriteAt c.args.at c.args.bytes.now) (Sync ∷ []) c.write_at.result c.from_residual.result (ap is_err c.in_err-write_at.was) (ap is_err failed.1) c.write_at.ensures.history

pub returns-clause-history : goal.returns-clause-history
returns-clause-history g c =
    let d = g.D.Disk in
    both_made (d.history c.args.disk.now) (d.history c.write_at.new.self) (d.history c.sync.new.self) (WriteAt c.args.at c.args.bytes.now) Sync c.write_at.result c.sync.result (ap is_err c.in_ok-write_at.was) c.write_at.ensures.history c.sync.ensures.history
