use Rattle.std.proofs.Common.{[], sym, subst}
use Rattle.node_core.specs.Stands.{IsWanted}
use Rattle.node_core.specs.Wanting.{IsWant}
use Rattle.node_core.proofs.member.Member.gathering_of.Goals as goal

pub gather_for-requires-clause-want : goal.gather_for-requires-clause-want
gather_for-requires-clause-want c = subst (IsWant c.args.self.now) c.in-Some.is c.requires.want

pub returns-in_ok-gather_for-in-Some : goal.returns-in_ok-gather_for-in-Some
returns-in_ok-gather_for-in-Some c = λ n is.
    subst (λ want. IsWanted c.in_ok-gather_for-in-Some.field-0 n.shape n.me n.durable.log [] want) (sym c.in-Some.is) (c.in_ok-gather_for-in-Some.ensures n is)

pub returns-in-None : goal.returns-in-None
returns-in-None c = λ n is. c.in-None.is
