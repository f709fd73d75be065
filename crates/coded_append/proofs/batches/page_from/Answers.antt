use Rattle.std.proofs.Common.{List, ◌-◌, drop, ap, ◌∙◌}
use Rattle.std.proofs.lemmas.Result.{IfOk-weaker}
use Rattle.craft_base.specs.declared.command.Entry.{Entry}
use Rattle.coded_append.specs.Batches.{batch_of}
use Rattle.coded_append.proofs.Sending.{going_whole}
use Rattle.coded_append.proofs.batches.page_from.Goals as goal

pub returns : goal.returns
returns g c = IfOk-weaker c.batch_of.result _ _ (λ batch is.
    let view = g.L.LogView.log c.args.log.now in
    is view.k ∙ ap (λ (entries : List Entry). batch_of view.k entries) (going_whole (drop (c.args.start - 1) view.entries))) c.batch_of.ensures
