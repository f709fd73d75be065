use Rattle.std.proofs.Common.{◌≡◌, true, false, ◌∙◌, None, Some, ap, sym, subst}
use Rattle.std.proofs.lemmas.Result.{IfOk-weaker}
use Rattle.entry_frames.specs.declared.role.Role.TheVariants.{Preparing}
use Rattle.world_model.specs.Rules.Acts.{stays}
use Rattle.world_model.specs.Rules.Prepare.{act_of_asking_on, act_of_later, cursor_at}
use Rattle.node_core.specs.Acting.{IsActed, IsNode}
use Rattle.node_core.specs.Preparing.{has_moved, preparing_with}
use Rattle.node_core.proofs.Acting.{acted_from, stays_acted}
use Rattle.node_core.proofs.Moving.{asks_on, waits_on}
use Rattle.node_core.proofs.Winning.{leading_is}
use Rattle.node_core.proofs.act.Act.go_on.Goals as goal

pub returns-in_default : goal.returns-in_default
returns-in_default c = IfOk-weaker c.lead.result _ _ (λ x led n pages is stands.
    let none : cursor_at n ≡ None = sym (c.cursor.ensures n.shape n.me pages (cursor_at n) stands) ∙ c.in_default.is in
    subst (λ a. IsActed a c.args.self x) (sym (ap (λ left. act_of_later c.args.before left (preparing_with pages n)) none ∙ leading_is n Preparing pages)) (led n is))
    c.lead.ensures

pub returns-then-has_moved : goal.returns-then-has_moved
returns-then-has_moved c = IfOk-weaker c.ask_on.result _ _ (λ x asked n pages is stands.
    let cursor = c.in-Some.cursor in
    let now = preparing_with pages n in
    let there : cursor_at n ≡ Some cursor = sym (c.cursor.ensures n.shape n.me pages (cursor_at n) stands) ∙ c.in-Some.is in
    let at : IsNode c.prepare_with-act.result.member now = c.prepare_with-act.ensures.node n pages is stands in
    let moved : has_moved c.args.before cursor ≡ true = sym c.has_moved.ensures ∙ c.if-has_moved.true in
    subst (λ a. IsActed a c.args.self x) (sym (ap (λ left. act_of_later c.args.before left now) there ∙ asks_on c.args.before cursor now moved))
    (acted_from (act_of_asking_on cursor now) c.args.self c.prepare_with-act.result x c.prepare_with-act.ensures.only c.prepare_with-act.ensures.store (asked now at there)))
    c.ask_on.ensures

pub returns-else-has_moved : goal.returns-else-has_moved
returns-else-has_moved c = λ n pages is stands.
    let cursor = c.in-Some.cursor in
    let now = preparing_with pages n in
    let act = c.prepare_with-act.result in
    let there : cursor_at n ≡ Some cursor = sym (c.cursor.ensures n.shape n.me pages (cursor_at n) stands) ∙ c.in-Some.is in
    let at : IsNode act.member now = c.prepare_with-act.ensures.node n pages is stands in
    let still : has_moved c.args.before cursor ≡ false = sym c.has_moved.ensures ∙ c.if-has_moved.false in
    subst (λ a. IsActed a c.args.self act) (sym (ap (λ left. act_of_later c.args.before left now) there ∙ waits_on c.args.before cursor now still))
    (acted_from (stays now) c.args.self act act c.prepare_with-act.ensures.only c.prepare_with-act.ensures.store (stays_acted act now at))
