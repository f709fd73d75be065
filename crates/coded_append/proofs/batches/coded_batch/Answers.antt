use Rattle.std.proofs.Common.{ℕ, ◌-◌, drop, map, ap, ◌∙◌}
use Rattle.std.proofs.lemmas.Result.{IfOk-weaker}
use Rattle.coded_append.specs.Batches.{batch_of, before_part, sent_to}
use Rattle.coded_append.proofs.batches.coded_batch.Goals as goal

pub returns : goal.returns
returns g c = IfOk-weaker c.batch_of.result _ _ (λ batch is.
    let need = c.args.shape.now.need in
    let entries = before_part (drop (c.args.start - 1) (g.L.LogView.log c.args.log.now).entries) in
    is need ∙ ap (λ (n : ℕ). batch_of need (map (sent_to n c.args.member) entries)) c.need-need.ensures.value) c.batch_of.ensures
