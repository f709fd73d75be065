use Rattle.std.proofs.Common.{◌≡◌, ◌∙◌, None, Some, ap, sym, subst}
use Rattle.std.proofs.lemmas.Result.{IfOk-weaker}
use Rattle.world_model.specs.Rules.Prepare.{act_of_asking_again, cursor_at}
use Rattle.node_core.specs.Acting.{IsActed}
use Rattle.node_core.proofs.Acting.{stays_acted}
use Rattle.node_core.proofs.act.Act.ask_again.Goals as goal

pub returns-in-Some : goal.returns-in-Some
returns-in-Some c = IfOk-weaker c.ask_all.result _ _ (λ x asked n is.
    let there : cursor_at n ≡ Some c.in-Some.cursor = sym (c.cursor.ensures n is) ∙ c.in-Some.is in
    subst (λ a. IsActed a c.args.self x) (sym (ap (λ cursor. act_of_asking_again cursor n) there)) (asked n is))
    c.ask_all.ensures

pub returns-in-None : goal.returns-in-None
returns-in-None c = λ n is.
    let none : cursor_at n ≡ None = sym (c.cursor.ensures n is) ∙ c.in-None.is in
    subst (λ a. IsActed a c.args.self c.args.self) (sym (ap (λ cursor. act_of_asking_again cursor n) none)) (stays_acted c.args.self n is)
