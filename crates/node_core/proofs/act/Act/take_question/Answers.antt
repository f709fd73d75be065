use Rattle.std.proofs.Common.{sym, subst}
use Rattle.std.proofs.lemmas.Result.{IfOk-weaker}
use Rattle.node_core.specs.Acting.{IsActed}
use Rattle.node_core.proofs.Choosing.{shows_as}
use Rattle.node_core.proofs.act.Act.take_question.Goals as goal

pub returns-in-Follower : goal.returns-in-Follower
returns-in-Follower c = IfOk-weaker c.show.result _ _ (λ x shown n is.
    subst (λ a. IsActed a c.args.self x) (sym (shows_as c.args.self.member.role n c.args.asker c.args.start is.stands.of_role c.in-Follower.is)) (shown n is))
    c.show.ensures
