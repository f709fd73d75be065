use Rattle.std.proofs.Common.{◌≡◌, true, sym, subst, ◌∙◌}
use Rattle.std.proofs.lemmas.Result.{IfOk-weaker}
use Rattle.world_model.specs.Rules.VoteReply.{has_won}
use Rattle.node_core.specs.Acting.{IsActed}
use Rattle.node_core.proofs.Choosing.{prepares_if_won}
use Rattle.node_core.proofs.act.Act.prepare_if_won.Goals as goal

pub returns : goal.returns
returns c = IfOk-weaker c.prepare.result _ _ (λ x led n is.
    let won : has_won n ≡ true = sym (c.has_won.ensures n is) ∙ c.if-not-has_won.false in
    subst (λ a. IsActed a c.args.self x) (sym (prepares_if_won n won)) (led n is))
    c.prepare.ensures
