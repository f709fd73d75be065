use Rattle.std.proofs.Common.{◌∷◌, [], subst}
use Rattle.std.proofs.lemmas.Result.{IfOk-weaker}
use Rattle.world_model.specs.Rules.Acts.{sending, stays}
use Rattle.node_core.specs.Acting.{IsActed}
use Rattle.node_core.proofs.act.Act.append_to.Goals as goal

pub returns : goal.returns
returns c =
    IfOk-weaker c.send.result _ _ (λ x acted n is. subst (λ m. IsActed (sending (m ∷ []) (stays n)) c.args.self x) (c.in_ok-message.ensures n is) (acted n is))
    c.send.ensures
