use Rattle.std.proofs.Common.{sym, subst, ◌∙◌}
use Rattle.std.proofs.lemmas.Result.{IfOk-weaker}
use Rattle.entry_frames.specs.declared.role.Role.{Role}
use Rattle.world_model.specs.Rules.Call as rule
use Rattle.node_core.specs.Acting.{IsActed}
use Rattle.node_core.proofs.act.Act.take_call.Goals as goal

pub returns-in-Leader : goal.returns-in-Leader
returns-in-Leader c = IfOk-weaker c.take_request.result _ _ (λ x taken n is.
    subst (λ (role : Role). IsActed (rule.act_of_call_as role c.args.place c.args.request.now n) c.args.self x) (sym c.in-Leader.is ∙ is.stands.of_role) (taken n is))
    c.take_request.ensures

pub returns-in-Preparing : goal.returns-in-Preparing
returns-in-Preparing c = IfOk-weaker c.reply.result _ _ (λ x told n is.
    subst (λ (role : Role). IsActed (rule.act_of_call_as role c.args.place c.args.request.now n) c.args.self x) (sym c.in-Preparing.is ∙ is.stands.of_role) (told n is))
    c.reply.ensures
