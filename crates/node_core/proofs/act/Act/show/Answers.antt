use Rattle.std.proofs.Common.{◌∷◌, [], refl, subst}
use Rattle.std.proofs.lemmas.Result.{IfOk-weaker}
use Rattle.world_model.specs.Nodes.{Node}
use Rattle.world_model.specs.Rules.Acts.{message_of, sending, stays}
use Rattle.world_model.specs.Rules.Append.{following}
use Rattle.world_model.specs.Rules.Ask.{act_of_showing}
use Rattle.node_core.specs.Acting.{IsActed, IsNode}
use Rattle.node_core.proofs.Acting.{acted_from}
use Rattle.node_core.proofs.act.Act.show.Goals as goal

pub returns : goal.returns
returns c = IfOk-weaker c.say.result _ _ (λ x said n is.
    let asker = c.args.asker in
    let now : Node = record n { volatile = following asker n } in
    let between = record c.args.self { member = c.hear_leader.new.self } in
    let at : IsNode c.hear_leader.new.self now = c.hear_leader.ensures.becomes.node n is in
    acted_from (act_of_showing asker c.args.start now) c.args.self between x refl c.hear_leader.ensures.becomes.store
    (subst (λ page. IsActed (sending (message_of now page asker ∷ []) (stays now)) between x) (c.in_ok-page.ensures now at) (said now at)))
    c.say.ensures
