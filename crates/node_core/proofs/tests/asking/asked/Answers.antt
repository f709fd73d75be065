use Rattle.std.proofs.Common.{◌≡◌, ◌≢◌, ℕ, ◌≤◌, ◌==◌, List, true, false, length, refl, ap, sym, subst, ◌∙◌, arith}
use Rattle.std.specs.Prelude.{◌||◌}
use Rattle.std.proofs.lemmas.Bool.{eqb-true, eqb-false}
use Rattle.craft_base.specs.declared.command.Op.{Op}
use Rattle.craft_base.specs.declared.command.Op.TheVariants as ops
use Rattle.craft_base.specs.declared.command.Request.{Request}
use Rattle.entry_frames.specs.Formats.{U8, U32, U64, Fits, FitsNumber, within}
use Rattle.entry_frames.specs.Limits.{greatest, longest_value}
use Rattle.entry_frames.specs.MessageFields.{request_fields}
use Rattle.entry_frames.specs.Operations.{expected_version, op_kind, row}
use Rattle.entry_frames.specs.declared.op_kind.OpKind.{OpKind}
use Rattle.world_model.proofs.Frames.{fits_within}
use Rattle.node_core.proofs.tests.asking.asked.Goals as goal

number_fits : (n : ℕ) → 1 ≤ n → n ≤ greatest → FitsNumber true U64 (within 1 greatest) n
number_fits n low high = fits_within U64 1 greatest n (omega (arith, high)) low high

module _ (client seq : ℕ) (key value : List ℕ) (of_client : FitsNumber true U64 (within 1 greatest) client) (of_seq : FitsNumber true U64 (within 1 greatest) seq)
    (of_key : FitsNumber true U8 (within 1 255) (length key)) (of_value : FitsNumber true U32 (within 0 longest_value) (length value)) where
  by_op : (op : Op) → (row (op_kind op)).asked ≡ true → expected_version op ≤ greatest → ((row (op_kind op)).sets || (length value == 0)) ≡ true →
      Fits request_fields (record { client = client; seq = seq; op = op; key = key; value = value })
  by_op ops.Noop is most suits = absurd cc
  by_op ops.Put is most suits = (of_client, (of_seq, ((omega arith, refl), (refl, (of_key, (refl, (of_value, (refl, refl))))))))
  by_op (ops.PutIf version) is most suits =
      (of_client, (of_seq, ((omega arith, refl), (fits_within U64 0 greatest version (omega (arith, most)) (omega arith) most, (of_key, (refl, (of_value, (refl, refl))))))))
  by_op ops.Del is most suits =
      let none : length value ≡ 0 = eqb-true (length value) 0 suits in (of_client, (of_seq, ((omega arith, refl), (refl, (of_key, (refl, (none, (none, refl))))))))
  by_op ops.Get is most suits =
      let none : length value ≡ 0 = eqb-true (length value) 0 suits in (of_client, (of_seq, ((omega arith, refl), (refl, (of_key, (refl, (none, (none, refl))))))))

pub returns : goal.returns
returns c =
    let client = c.args.client in
    let seq = c.args.row.0 in
    let op = c.args.row.1 in
    let key = c.args.row.2.now in
    let value = c.args.row.3.now in
    let some : length key ≢ 0 = eqb-false (length key) 0 (sym c.is_empty.ensures ∙ c.if-is_empty.false) in
    let made : Fits request_fields (record { client = client; seq = seq; op = op; key = key; value = value }) =
    by_op client seq key value
    (number_fits client (omega (arith, c.if-client-eq0.false)) (omega (arith, c.if-client-gt-GREATEST.false)))
    (number_fits seq (omega (arith, c.if-seq-eq0.false)) (omega (arith, c.if-seq-gt-GREATEST.false)))
    (fits_within U8 1 255 (length key) (omega (arith, c.if-key-gt255.false)) (omega (arith, some)) (omega (arith, c.if-key-gt255.false)))
    (fits_within U32 0 longest_value (length value) (omega (arith, c.if-value.false)) (omega arith) (omega (arith, c.if-value.false)))
    op (ap (λ (k : OpKind). (row k).asked) (sym c.of-kind.ensures) ∙ sym c.is_asked.ensures ∙ c.if-not-is_asked.false)
    (subst (λ (n : ℕ). n ≤ greatest) c.expected.ensures (omega (arith, c.if-expected-gt-GREATEST.false)))
    (ap (λ (k : OpKind). (row k).sets || (length value == 0)) (sym c.of-kind.ensures) ∙ sym c.suits.ensures ∙ c.if-not-suits.false) in
    subst (λ (k : List ℕ). Fits request_fields (record { client = client; seq = seq; op = op; key = k; value = c.in_ok-copy_of-2.field-0 })) (sym c.in_ok-copy_of.ensures)
    (subst (λ (v : List ℕ). Fits request_fields (record { client = client; seq = seq; op = op; key = key; value = v })) (sym c.in_ok-copy_of-2.ensures) made)
