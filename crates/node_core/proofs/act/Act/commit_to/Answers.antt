use Rattle.std.proofs.Common.{◌≡◌, ◌<◌, sym, subst, ap, ◌∙◌, arith}
use Rattle.std.proofs.lemmas.Result.{IfOk-weaker}
use Rattle.node_core.specs.Acting.{IsActed}
use Rattle.node_core.proofs.Knowing.{grows}
use Rattle.node_core.proofs.act.Act.commit_to.Goals as goal

pub returns : goal.returns
returns c = IfOk-weaker c.advance.result _ _ (λ x advanced n is.
    let index = c.args.index in
    let own : c.commit.result ≡ n.durable.commit = c.commit.ensures ∙ ap (λ d. d.commit) is.stands.of_durable in
    let above : n.durable.commit < index = omega (arith, own, c.if-index-commit.false) in
    subst (λ a. IsActed a c.args.self x) (sym (grows n index above)) (advanced n is))
    c.advance.ensures
