use Rattle.std.proofs.Common.{arith}
use Rattle.std.proofs.lemmas.Result.{err_from_is_err_and}
use Rattle.entry_frames.specs.Entries.{entry_fields}
use Rattle.entry_frames.specs.Limits.{greatest}
use Rattle.entry_frames.proofs.Entries.{entry_faithful}
use Rattle.entry_frames.proofs.Formats.{read_to}
use Rattle.entry_frames.proofs.entry_view.EntryView.at_front.Goals as goal

pub returns-in_err-entry-clause-exact : goal.returns-in_err-entry-clause-exact
returns-in_err-entry-clause-exact c =
    let p = err_from_is_err_and c.from_residual.result c.from_residual.ensures.1 in
    rw (p.1, p.2) (rw c.of-fields.ensures at c.in_err-entry.ensures.exact)

pub returns-clause-exact : goal.returns-clause-exact
returns-clause-exact c =
    rw c.at.ensures (read_to (entry_fields c.args.k) c.args.bytes.now c.in_ok-entry.entry.entry c.take.new.fields (entry_faithful c.args.k 0 greatest) (record { each = λ i. omega (arith, c.type_inv.bytes i) })
    (rw c.of-fields.ensures at c.in_ok-entry.ensures.exact))
