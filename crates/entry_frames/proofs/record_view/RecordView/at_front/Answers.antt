use Rattle.std.proofs.Common.{arith}
use Rattle.std.proofs.lemmas.Result.{err_from_is_err_and}
use Rattle.entry_frames.specs.Records.{record_fields}
use Rattle.entry_frames.specs.RecordViews.{record_of}
use Rattle.entry_frames.proofs.Records.{record_faithful}
use Rattle.entry_frames.proofs.Formats.{read_to}
use Rattle.entry_frames.proofs.record_view.RecordView.at_front.Goals as goal

pub returns-in_err-view-clause-exact : goal.returns-in_err-view-clause-exact
returns-in_err-view-clause-exact c =
    let p = err_from_is_err_and c.from_residual.result c.from_residual.ensures.1 in
    rw (p.1, p.2) (rw c.of-fields.ensures at c.in_err-view.ensures.exact)

pub returns-clause-exact : goal.returns-clause-exact
returns-clause-exact c =
    rw c.at.ensures (read_to (record_fields c.args.k) c.args.bytes.now (record_of c.in_ok-view.view) c.take.new.fields (record_faithful c.args.k) (record { each = λ i. omega (arith, c.type_inv.bytes i) })
    (rw c.of-fields.ensures at c.in_ok-view.ensures.exact))
