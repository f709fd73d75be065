use Rattle.std.proofs.Common.{◌≡◌, [], ◌∙◌, None, Some, ap, sym, subst}
use Rattle.std.proofs.lemmas.Result.{IfOk-weaker}
use Rattle.craft_base.specs.Shape.{Shape, IsShape}
use Rattle.entry_frames.specs.declared.role.Role.TheVariants.{Preparing}
use Rattle.world_model.specs.Nodes.{Node}
use Rattle.world_model.specs.Rules.Prepare.{act_of_asking_all, act_of_first, cursor_at, preparing}
use Rattle.node_core.specs.Acting.{IsActed, IsNode}
use Rattle.node_core.proofs.Acting.{acted_from}
use Rattle.node_core.proofs.Winning.{leading_is, winning_is}
use Rattle.node_core.proofs.act.Act.prepare.Goals as goal

pub returns-in-Some : goal.returns-in-Some
returns-in-Some c = IfOk-weaker c.ask_all.result _ _ (λ x asked n is.
    let self = c.args.self in
    let cursor = c.in-Some.cursor in
    let now : Node = record n { volatile = preparing n } in
    let is_shape : IsShape n.shape = subst (λ (s : Shape). IsShape s) is.stands.of_shape c.law.ensures in
    let stands = c.in_ok-prep.ensures n is in
    let there : cursor_at n ≡ Some cursor = sym (c.cursor.ensures n.shape n.me [] (cursor_at n) stands) ∙ c.in-Some.is in
    let at : IsNode c.prepare_with.result.member now = c.prepare_with.ensures.node n [] is stands in
    subst (λ a. IsActed a self x) (sym (winning_is n is_shape ∙ ap (λ left. act_of_first left now) there))
    (acted_from (act_of_asking_all cursor now) self c.prepare_with.result x c.prepare_with.ensures.only c.prepare_with.ensures.store (asked now at)))
    c.ask_all.ensures

pub returns-in-None : goal.returns-in-None
returns-in-None c = IfOk-weaker c.lead.result _ _ (λ x led n is.
    let now : Node = record n { volatile = preparing n } in
    let is_shape : IsShape n.shape = subst (λ (s : Shape). IsShape s) is.stands.of_shape c.law.ensures in
    let stands = c.in_ok-prep.ensures n is in
    let none : cursor_at n ≡ None = sym (c.cursor.ensures n.shape n.me [] (cursor_at n) stands) ∙ c.in-None.is in
    subst (λ a. IsActed a c.args.self x) (sym (winning_is n is_shape ∙ ap (λ left. act_of_first left now) none ∙ leading_is n Preparing [])) (led n is))
    c.lead.ensures
