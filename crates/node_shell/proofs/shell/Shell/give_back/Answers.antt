use Rattle.std.proofs.Common.{sym, subst}
use Rattle.std.specs.Prelude.{IsTrue}
use Rattle.node_shell.specs.Standing.{AllOpenTo, owner_of}
use Rattle.node_shell.proofs.Opening.{all_open}
use Rattle.node_shell.proofs.shell.Shell.give_back.Goals as goal

pub returns-clause-durable : goal.returns-clause-durable
returns-clause-durable g c =
    let d = g.D.Disk in
    let was = c.self.inside in λ told.
    let crash : IsTrue (d.tells_crash was.journal.disk) = subst (λ s. IsTrue (d.tells_crash s.disk)) (sym c.self.view_is) told in
    subst (λ s. AllOpenTo (d.seen s.disk) (d.may_leave s.disk) (owner_of s.core) s.core.durable) c.self.view_is
    (all_open (d.seen was.journal.disk) (d.may_leave was.journal.disk) was.journal.gate was.core c.self.invariant.kept (c.self.invariant.durable crash))
