use Rattle.std.proofs.Common.{sym, subst, ◌∙◌}
use Rattle.std.proofs.lemmas.Result.{IfOk-weaker}
use Rattle.kv_apply.specs.declared.outcome.Kept.{Kept}
use Rattle.world_model.specs.Rules.Call as rule
use Rattle.node_core.specs.Acting.{IsActed}
use Rattle.node_core.proofs.act.Act.take_request.Goals as goal

pub returns-in-New : goal.returns-in-New
returns-in-New c = IfOk-weaker c.take_new.result _ _ (λ x taken n is.
    subst (λ (k : Kept). IsActed (rule.act_of_request c.args.place c.args.request.now k n) c.args.self x)
    (sym c.in-New.is ∙ c.kept.ensures (rule.applied_heads n) is.of_service) (taken n is))
    c.take_new.ensures

pub returns-in-Same : goal.returns-in-Same
returns-in-Same c = IfOk-weaker c.answer_again.result _ _ (λ x answered n is.
    subst (λ (k : Kept). IsActed (rule.act_of_request c.args.place c.args.request.now k n) c.args.self x)
    (sym c.in-Same.is ∙ c.kept.ensures (rule.applied_heads n) is.of_service) (answered n is))
    c.answer_again.ensures

pub returns-in-Old : goal.returns-in-Old
returns-in-Old c = IfOk-weaker c.reply.result _ _ (λ x told n is.
    subst (λ (k : Kept). IsActed (rule.act_of_request c.args.place c.args.request.now k n) c.args.self x)
    (sym c.in-Old.is ∙ c.kept.ensures (rule.applied_heads n) is.of_service) (told n is))
    c.reply.ensures
