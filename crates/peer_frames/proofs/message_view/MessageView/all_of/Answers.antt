use Rattle.std.proofs.Common.{◌≡◌, ◌<◌, ◌∙◌, ap, sym, length, arith}
use Rattle.std.proofs.lemmas.Bool.{eqb-true, eqb-false}
use Rattle.std.proofs.lemmas.Result.{err_from_is_err_and}
use Rattle.entry_frames.specs.MessageFields.{frame_fields}
use Rattle.peer_frames.proofs.Whole.{ends_whole, ends_early, ends_failed, all_spelled}
use Rattle.peer_frames.proofs.message_view.MessageView.all_of.Goals as goal

pub returns-in_err-frame-clause-exact : goal.returns-in_err-frame-clause-exact
returns-in_err-frame-clause-exact c =
    let p = err_from_is_err_and c.from_residual.result c.from_residual.ensures.1 in
    rw (p.1, p.2) (ends_failed (frame_fields c.args.shape.now) c.args.bytes.now _ (rw c.of-fields.ensures at c.in_err-frame.ensures.exact))

pub returns-then-not-is_empty-clause-exact : goal.returns-then-not-is_empty-clause-exact
returns-then-not-is_empty-clause-exact c =
    let more : 0 < length c.read.new.fields.rest = omega (arith, eqb-false _ _ (sym c.if-not-is_empty.ensures), ap length c.rest.ensures.value) in
    rw c.at.ensures (ends_early (frame_fields c.args.shape.now) c.args.bytes.now _ c.read.new.fields (rw c.of-fields.ensures at c.in_ok-frame.ensures.exact) more)

pub invariant_of-result : goal.invariant_of-result
invariant_of-result c =
    let empty : length c.read.new.fields.rest ≡ 0 = ap length (sym c.rest.ensures.value) ∙ eqb-true _ _ (sym c.if-not-is_empty.ensures) in
    let e = ends_whole (frame_fields c.args.shape.now) c.args.bytes.now _ c.read.new.fields (rw c.of-fields.ensures at c.in_ok-frame.ensures.exact) empty in
    (record { fits = (all_spelled c.args.shape.now c.args.bytes.now _ (record { each = λ i. omega (arith, c.type_inv.bytes i) }) e).0 }, c.in_ok-frame.ensures.need)

pub returns-clause-exact : goal.returns-clause-exact
returns-clause-exact c =
    let empty : length c.read.new.fields.rest ≡ 0 = ap length (sym c.rest.ensures.value) ∙ eqb-true _ _ (sym c.if-not-is_empty.ensures) in
    ends_whole (frame_fields c.args.shape.now) c.args.bytes.now _ c.read.new.fields (rw c.of-fields.ensures at c.in_ok-frame.ensures.exact) empty
