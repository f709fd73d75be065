use Rattle.std.proofs.Common.{◌∙◌, ap, sym}
use Rattle.std.proofs.lemmas.Result.{IfOk-weaker}
use Rattle.coded_append.specs.declared.modes.Mode.TheVariants.{Coded, Complete}
use Rattle.coded_append.specs.Batches.{coded_batch}
use Rattle.node_core.proofs.Batches.{batch_is}
use Rattle.node_core.proofs.member.Member.batch_for.Goals as goal

pub returns-in-Coded : goal.returns-in-Coded
returns-in-Coded c = IfOk-weaker c.coded_batch.result _ _ (λ batch made n is.
    let m = c.args.self.now in
    batch_is m n is Coded c.args.receiver c.args.start batch (sym c.in-Coded.is ∙ c.mode.ensures n is)
    (made ∙ ap (λ s. coded_batch s.need c.args.receiver m.store.kept.log c.args.start) (is.stands.of_shape ∙ sym is.of_store)))
    c.coded_batch.ensures

pub returns-in-Complete : goal.returns-in-Complete
returns-in-Complete c = IfOk-weaker c.whole_batch.result _ _ (λ batch made n is.
    batch_is c.args.self.now n is Complete c.args.receiver c.args.start batch (sym c.in-Complete.is ∙ c.mode.ensures n is) made)
    c.whole_batch.ensures
