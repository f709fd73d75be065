use Rattle.std.proofs.lemmas.Result.{err_from_is_err_and}
use Rattle.entry_frames.specs.Views.{entry_of}
use Rattle.entry_frames.proofs.Entries.{entry_begins, read_in_range}
use Rattle.entry_frames.proofs.entry_view.EntryView.take.Goals as goal

pub returns-in_err-parts-clause-exact : goal.returns-in_err-parts-clause-exact
returns-in_err-parts-clause-exact c =
    let t = c.in_ok-tag.ensures in
    let k = c.in_ok-kind.ensures in
    let p = err_from_is_err_and c.from_residual-in_err-parts.result c.from_residual-in_err-parts.ensures.1 in
    rw (p.1, p.2) (entry_begins c.args.k c.args.low c.args.high c.args.fields.now c.read.new.fields c.read_under.new.fields c.in_ok-tag.tag c.in_ok-kind.kind t.0 k.0 _ t.1 t.2 k.1 k.2 c.in_err-parts.ensures)

pub invariant_of-result : goal.invariant_of-result
invariant_of-result c =
    let t = c.in_ok-tag.ensures in
    let k = c.in_ok-kind.ensures in
    let read = entry_begins c.args.k c.args.low c.args.high c.args.fields.now c.read.new.fields c.read_under.new.fields c.in_ok-tag.tag c.in_ok-kind.kind t.0 k.0 _ t.1 t.2 k.1 k.2 c.in_ok-parts.ensures in
    read_in_range c.args.k c.args.low c.args.high c.args.fields.now (record { value = entry_of c.in_ok-parts.parts; cursor = c.read-2.new.fields }) c.requires.needs
    c.rest-rest.ensures.bytes read

pub returns-clause-exact : goal.returns-clause-exact
returns-clause-exact c =
    let t = c.in_ok-tag.ensures in
    let k = c.in_ok-kind.ensures in
    entry_begins c.args.k c.args.low c.args.high c.args.fields.now c.read.new.fields c.read_under.new.fields c.in_ok-tag.tag c.in_ok-kind.kind t.0 k.0 _ t.1 t.2 k.1 k.2 c.in_ok-parts.ensures
