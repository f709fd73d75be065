use Rattle.std.proofs.Common.{◌∙◌, inl, inr, sym, subst, ap}
use Rattle.std.proofs.lemmas.Result.{IfOk-weaker}
use Rattle.entry_frames.specs.declared.role.Role.{Role}
use Rattle.leader_prep.specs.Pages.{Page, page_of}
use Rattle.world_model.specs.Nodes.{node_hearing}
use Rattle.world_model.specs.Rules.Acts.{stays}
use Rattle.world_model.specs.Rules.Answer.{act_of_answer_as, answer_heard, node_seeing}
use Rattle.world_model.specs.Rules.Prepare.{act_of_preparing}
use Rattle.node_core.specs.Acting.{IsActed}
use Rattle.node_core.specs.Wanting.{shown_act}
use Rattle.node_core.proofs.Acting.{acted_after, stays_acted}
use Rattle.node_core.proofs.Ranging.{hears_silent}
use Rattle.node_core.proofs.act.Act.take_answer.Goals as goal

pub returns-in-Follower : goal.returns-in-Follower
returns-in-Follower c = λ n is.
    let self = c.args.self in
    let page : Page = page_of c.args.answer.now.frame in
    elim c.in-Follower.is [
      | inl e ↦ subst (λ (role : Role). IsActed (act_of_answer_as role n page) self self) (sym e ∙ is.stands.of_role) (stays_acted self n is)
      | inr e ↦ subst (λ (role : Role). IsActed (act_of_answer_as role n page) self self) (sym e ∙ is.stands.of_role) (stays_acted self n is)
    ]

pub prepare_by-requires-clause-ranged : goal.prepare_by-requires-clause-ranged
prepare_by-requires-clause-ranged c =
    let r = c.requires.ranged in
    let item = answer_heard r.node c.from.result in record {
      node = node_hearing item r.node;
      is = (c.hear_answer.ensures.acts r.node r.is).node;
      ranged = hears_silent r.ranged item tt;
    }

pub returns-in-Preparing : goal.returns-in-Preparing
returns-in-Preparing c = IfOk-weaker c.prepare_by.result _ _ (λ x prepared n is.
    let self = c.args.self in
    let frame = c.args.answer.now.frame in
    let page : Page = page_of frame in
    let prepares = sym is.stands.of_role ∙ c.in-Preparing.is in
    let now = node_hearing (answer_heard n c.from.result) n in
    let first = c.hear_answer.ensures.acts n is in
    subst (λ (role : Role). IsActed (act_of_answer_as role n page) self x) (sym prepares)
    (subst (λ sender. IsActed (act_of_preparing (node_seeing page (node_hearing (answer_heard n sender) n))) self x) c.from.ensures
    (acted_after (stays now) (λ m. act_of_preparing (node_seeing page m)) self c.hear_answer.result x first (prepared now first.node))))
    c.prepare_by.ensures

pub gather_by-requires-clause-leads : goal.gather_by-requires-clause-leads
gather_by-requires-clause-leads c = ap (λ m. m.role) c.hear_answer-in-Leader.ensures.rest ∙ c.in-Leader.is

pub gather_by-requires-clause-ranged : goal.gather_by-requires-clause-ranged
gather_by-requires-clause-ranged c =
    let r = c.requires.ranged in
    let item = answer_heard r.node c.from-in-Leader.result in record {
      node = node_hearing item r.node;
      is = (c.hear_answer-in-Leader.ensures.acts r.node r.is).node;
      ranged = hears_silent r.ranged item tt;
    }

pub returns-in-Leader : goal.returns-in-Leader
returns-in-Leader c = IfOk-weaker c.gather_by.result _ _ (λ x gathered n is.
    let self = c.args.self in
    let page : Page = page_of c.args.answer.now.frame in
    let now = node_hearing (answer_heard n c.from-in-Leader.result) n in
    let first = c.hear_answer-in-Leader.ensures.acts n is in
    subst (λ (role : Role). IsActed (act_of_answer_as role n page) self x) (sym c.in-Leader.is ∙ is.stands.of_role)
    (subst (λ sender. IsActed (shown_act page (node_hearing (answer_heard n sender) n)) self x) c.from-in-Leader.ensures
    (acted_after (stays now) (shown_act page) self c.hear_answer-in-Leader.result x first (gathered now first.node))))
    c.gather_by.ensures
