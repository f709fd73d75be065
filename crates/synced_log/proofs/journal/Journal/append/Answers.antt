use Rattle.std.proofs.Common.{subst}
use Rattle.synced_log.specs.Stops.{StopsAppend}
use Rattle.synced_log.proofs.journal.Journal.append.Goals as goal

pub returns-in-Err-clause-calls_err : goal.returns-in-Err-clause-calls_err
returns-in-Err-clause-calls_err g c =
    let d = g.D.Disk in
    subst (λ v. StopsAppend d.seen d.tells_crash d.may_leave d.history v.disk c.add_group.new.disk v.gate c.args.group.now) c.self.view_is (c.in-Err.ensures.calls_err c.self.invariant.durable)
