-- A part becomes whole by a value of its entry's length.
use Rattle.std.proofs.Common.{◌≡◌, ℕ, ◌≤◌, ◌==◌, ◌&&◌, true, nat_le, List, length, sym, subst, ◌∙◌, arith}
use Rattle.std.specs.Prelude.{bytes_eq}
use Rattle.std.proofs.lemmas.Bool.{and_parts, eqb-true, leb-true}
use Rattle.craft_base.specs.declared.command.Entry.{Entry}
use Rattle.craft_base.specs.declared.command.Form.{Form}
use Rattle.craft_base.specs.declared.command.Form.TheVariants as forms
use Rattle.craft_base.specs.declared.command.Head.{Head}
use Rattle.craft_base.specs.declared.command.Op.{Op}
use Rattle.craft_base.specs.declared.command.Op.TheVariants as ops
use Rattle.entry_frames.specs.Entries.{entry_fields}
use Rattle.entry_frames.specs.Formats.{Fits, within}
use Rattle.entry_frames.specs.Limits.{longest_value}
use Rattle.leader_prep.specs.Verdicts.{is_same_head, is_same_op}

-- ---- how long values are

abbrev entry_with : ℕ → ℕ → ℕ → Op → List ℕ → ℕ → Form → Entry
entry_with term client seq op key vlen form = record { term = term; head = record { client = client; seq = seq; op = op; key = key; vlen = vlen }; form = form }

whole_long :
    (k term client seq : ℕ) (op : Op) (key : List ℕ) (vlen : ℕ) (bytes : List ℕ) →
    Fits (entry_fields k) (entry_with term client seq op key vlen (forms.Whole bytes)) → length bytes ≡ vlen
whole_long k term client seq ops.Noop key vlen bytes fits = fits.1.1.1.1.1.1.1.1.1.1.0 ∙ sym fits.1.1.1.1.1.1.1.1.1.0
whole_long k term client seq ops.Del key vlen bytes fits = fits.1.1.1.1.1.1.1.1.1.1.0 ∙ sym fits.1.1.1.1.1.1.1.1.1.0
whole_long k term client seq ops.Get key vlen bytes fits = fits.1.1.1.1.1.1.1.1.1.1.0 ∙ sym fits.1.1.1.1.1.1.1.1.1.0
whole_long k term client seq ops.Put key vlen bytes fits = fits.1.1.1.1.1.1.1.1.1.1.0
whole_long k term client seq (ops.PutIf expected) key vlen bytes fits = fits.1.1.1.1.1.1.1.1.1.1.0

abbrev pub IsLong : ℕ → Type 0
IsLong vlen = (1 ≤ vlen) × (vlen ≤ longest_value)

long_within : (vlen : ℕ) → within 1 longest_value vlen ≡ true → IsLong vlen
long_within vlen is =
    let parts = and_parts (nat_le 1 vlen) (nat_le vlen longest_value) is in
    (leb-true 1 vlen parts.0, leb-true vlen longest_value parts.1)

most_within : (vlen : ℕ) → within 0 longest_value vlen ≡ true → vlen ≤ longest_value
most_within vlen is = leb-true vlen longest_value (and_parts (nat_le 0 vlen) (nat_le vlen longest_value) is).1

part_long :
    (k term client seq : ℕ) (op : Op) (key : List ℕ) (vlen : ℕ) (bytes : List ℕ) →
    Fits (entry_fields k) (entry_with term client seq op key vlen (forms.Part bytes)) → IsLong vlen
part_long k term client seq ops.Noop key vlen bytes fits = absurd cc
part_long k term client seq ops.Del key vlen bytes fits = absurd cc
part_long k term client seq ops.Get key vlen bytes fits = absurd cc
part_long k term client seq ops.Put key vlen bytes fits = long_within vlen fits.1.1.1.1.1.1.1.1.1.0.1
part_long k term client seq (ops.PutIf expected) key vlen bytes fits = long_within vlen fits.1.1.1.1.1.1.1.1.1.0.1

module _ (k : ℕ) (e : Entry) (bytes : List ℕ) (fits : Fits (entry_fields k) e) where
  abbrev e_with : Form → Entry
  e_with form = entry_with e.term e.head.client e.head.seq e.head.op e.head.key e.head.vlen form

  pub whole_length : e.form ≡ forms.Whole bytes → length bytes ≡ e.head.vlen
  whole_length is =
      whole_long k e.term e.head.client e.head.seq e.head.op e.head.key e.head.vlen bytes (subst (λ (f : Form). Fits (entry_fields k) (e_with f)) is fits)

  pub part_length : e.form ≡ forms.Part bytes → IsLong e.head.vlen
  part_length is =
      part_long k e.term e.head.client e.head.seq e.head.op e.head.key e.head.vlen bytes (subst (λ (f : Form). Fits (entry_fields k) (e_with f)) is fits)

-- a value that is held whole is as long as a value can be
op_short :
    (k term client seq : ℕ) (op : Op) (key : List ℕ) (vlen : ℕ) (bytes : List ℕ) →
    Fits (entry_fields k) (entry_with term client seq op key vlen (forms.Whole bytes)) → vlen ≤ longest_value
op_short k term client seq ops.Noop key vlen bytes fits = omega (arith, fits.1.1.1.1.1.1.1.1.1.0)
op_short k term client seq ops.Del key vlen bytes fits = omega (arith, fits.1.1.1.1.1.1.1.1.1.0)
op_short k term client seq ops.Get key vlen bytes fits = omega (arith, fits.1.1.1.1.1.1.1.1.1.0)
op_short k term client seq ops.Put key vlen bytes fits = most_within vlen fits.1.1.1.1.1.1.1.1.1.0.1
op_short k term client seq (ops.PutIf expected) key vlen bytes fits = most_within vlen fits.1.1.1.1.1.1.1.1.1.0.1

pub value_short : (k : ℕ) (e : Entry) (bytes : List ℕ) → Fits (entry_fields k) e → e.form ≡ forms.Whole bytes → length bytes ≤ longest_value
value_short k e bytes fits is =
    let whole : Fits (entry_fields k) (e_with k e bytes fits (forms.Whole bytes)) = subst (λ (f : Form). Fits (entry_fields k) (e_with k e bytes fits f)) is fits in
    omega (
      arith,
      whole_length k e bytes fits is,
      op_short k e.term e.head.client e.head.seq e.head.op e.head.key e.head.vlen bytes whole,
    )

pub same_vlen : (one other : Head) → is_same_head one other ≡ true → one.vlen ≡ other.vlen
same_vlen one other is =
    eqb-true one.vlen other.vlen
    (and_parts ((one.client == other.client) && (one.seq == other.seq) && is_same_op one.op other.op && bytes_eq one.key other.key) (one.vlen == other.vlen) is).1
