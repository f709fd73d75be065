use Rattle.std.proofs.lemmas.Result.{err_from_is_err_and}
use Rattle.entry_frames.proofs.Records.{add_read, add_fails}
use Rattle.entry_frames.proofs.record_view.RecordView.take_as.Goals as goal

pub returns-in_err-take-in-Add-clause-exact : goal.returns-in_err-take-in-Add-clause-exact
returns-in_err-take-in-Add-clause-exact c =
    let p = err_from_is_err_and c.from_residual-in_err-take-in-Add.result c.from_residual-in_err-take-in-Add.ensures.1 in
    rw (p.1, p.2, c.in-Add.is) (add_fails c.args.k c.args.fields.now _ c.in_err-take-in-Add.ensures.exact)

pub returns-in_ok-take-in-Add-clause-exact : goal.returns-in_ok-take-in-Add-clause-exact
returns-in_ok-take-in-Add-clause-exact c = rw c.in-Add.is (add_read c.args.k c.args.fields.now _ c.in_ok-take-in-Add.ensures.exact)
