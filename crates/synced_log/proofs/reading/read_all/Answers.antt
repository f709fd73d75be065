use Rattle.std.proofs.Common.{ap}
use Rattle.std.proofs.lemmas.Result.{err_from_is_err_and}
use Rattle.std.specs.Prelude.{is_err}
use Rattle.craft_edge.specs.DiskCalls.{Len}
use Rattle.synced_log.specs.Calls.{AreReadings}
use Rattle.synced_log.proofs.Made.{one_made, one_fails, both_read, then_fails, disk_failed, memory_failed}
use Rattle.synced_log.proofs.reading.read_all.Goals as goal

pub returns-in_err-len-clause-made : goal.returns-in_err-len-clause-made
returns-in_err-len-clause-made g c =
    let d = g.D.Disk in
    let old = d.history c.args.disk.now in
    let e = err_from_is_err_and c.from_residual.result c.from_residual.ensures.1 in
    disk_failed old (d.history c.len.new.self) AreReadings AreReadings c.from_residual.result e.0 e.1 e.2 (one_fails old (d.history c.len.new.self) Len c.len.result (ap is_err c.in_err-len.was) c.len.ensures.history tt)

pub returns-in_err-bytes-clause-made : goal.returns-in_err-bytes-clause-made
returns-in_err-bytes-clause-made g c =
    let d = g.D.Disk in
    let old = d.history c.args.disk.now in
    let e = err_from_is_err_and c.from_residual-in_err-bytes.result c.from_residual-in_err-bytes.ensures.1 in
    memory_failed old (d.history c.len.new.self) AreReadings AreReadings c.from_residual-in_err-bytes.result e.0 e.1 e.2 (one_made old (d.history c.len.new.self) Len c.len.result (ap is_err c.in_ok-len.was) c.len.ensures.history tt)

pub returns-in_err-count-clause-made : goal.returns-in_err-count-clause-made
returns-in_err-count-clause-made g c =
    let d = g.D.Disk in
    let old = d.history c.args.disk.now in
    let mid = d.history c.len.new.self in
    let e = err_from_is_err_and c.from_residual-in_err-count.result c.from_residual-in_err-count.ensures.1 in
    disk_failed old (d.history c.fill.new.disk) AreReadings AreReadings c.from_residual-in_err-count.result e.0 e.1 e.2
    (then_fails old mid (d.history c.fill.new.disk) (one_made old mid Len c.len.result (ap is_err c.in_ok-len.was) c.len.ensures.history tt) c.in_err-count.ensures.made)

pub returns-clause-made : goal.returns-clause-made
returns-clause-made g c =
    let d = g.D.Disk in
    let old = d.history c.args.disk.now in
    let mid = d.history c.len.new.self in
    both_read old mid (d.history c.fill.new.disk) (one_made old mid Len c.len.result (ap is_err c.in_ok-len.was) c.len.ensures.history tt) c.in_ok-count.ensures.made
