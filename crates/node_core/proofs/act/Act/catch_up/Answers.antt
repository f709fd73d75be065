use Rattle.std.proofs.Common.{◌<◌, sym, subst, ap, cond, arith}
use Rattle.std.proofs.lemmas.Bool.{lt-ltb}
use Rattle.std.proofs.lemmas.Result.{IfOk-weaker}
use Rattle.world_model.specs.Rules.Acts.{stays}
use Rattle.world_model.specs.Rules.Terms.{act_of_higher_term}
use Rattle.node_core.specs.Acting.{IsActed}
use Rattle.node_core.proofs.act.Act.catch_up.Goals as goal

pub returns : goal.returns
returns c = IfOk-weaker c.follow_term.result _ _ (λ x acted n is.
    let term = c.args.term in
    let higher : n.durable.term < term = omega (arith, c.if-term.false, c.term.ensures, ap (λ d. d.term) is.stands.of_durable) in
    subst (λ a. IsActed a c.args.self x) (sym (ap (λ b. cond b (act_of_higher_term term n) (stays n)) (lt-ltb n.durable.term term higher))) (acted n is))
    c.follow_term.ensures
