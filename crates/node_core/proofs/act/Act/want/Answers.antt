use Rattle.std.proofs.Common.{◌∙◌, sym, subst}
use Rattle.std.proofs.lemmas.Result.{IfOk-weaker}
use Rattle.entry_frames.specs.declared.role.Role.{Role}
use Rattle.world_model.specs.Rules.Want.{act_of_want_as}
use Rattle.node_core.specs.Acting.{IsActed}
use Rattle.node_core.proofs.Ranging.{may_say}
use Rattle.node_core.proofs.act.Act.want.Goals as goal

pub want_if_new-requires-clause-say : goal.want_if_new-requires-clause-say
want_if_new-requires-clause-say c = let r = c.requires in may_say r.ranged c.args.self.member r.is (sym r.is.stands.of_role ∙ c.in-Leader.is)

pub returns-in-Leader : goal.returns-in-Leader
returns-in-Leader c = IfOk-weaker c.want_if_new.result _ _ (λ x wanted n is.
    subst (λ (role : Role). IsActed (act_of_want_as role n) c.args.self x) (sym c.in-Leader.is ∙ is.stands.of_role) (wanted n is))
    c.want_if_new.ensures
