-- How many bytes an entry has, and as it goes.
use Rattle.std.proofs.Common.{◌≡◌, ℕ, ◌+◌, ◌-◌, List, length, true, ap, sym, ◌∙◌, arith, length-append}
use Rattle.std.specs.Prelude.{Bool, if◌then◌else◌}
use Rattle.std.proofs.lemmas.Bool.{false≢true}
use Rattle.std.proofs.lemmas.List.FromFn.{length-map-range_with_len}
use Rattle.craft_base.specs.Parts.{part_length}
use Rattle.craft_base.specs.declared.command.Entry.{Entry}
use Rattle.craft_base.specs.declared.command.Form.{Form}
use Rattle.craft_base.specs.declared.command.Form.TheVariants as forms
use Rattle.craft_base.specs.declared.command.Op.{Op}
use Rattle.craft_base.specs.declared.command.Op.TheVariants as ops
use Rattle.entry_frames.specs.Entries.{entry_room, form_bytes, is_whole}
use Rattle.entry_frames.specs.MessageFields.{entry_size}
use Rattle.rs_code.specs.Fragments.{fragment, coefficients, point_of}
use Rattle.rs_code.specs.Polynomials.{polynomial}
use Rattle.coded_append.specs.Batches.{has_value, part_for, sent_to}

-- ---- the bytes of a spelling

abbrev pub entry_with : ℕ → ℕ → ℕ → Op → List ℕ → ℕ → Form → Entry
entry_with term client seq op key vlen form = record { term = term; head = record { client = client; seq = seq; op = op; key = key; vlen = vlen }; form = form }

sized : (k term client seq : ℕ) (op : Op) (key : List ℕ) (vlen : ℕ) (form : Form) →
    entry_size k (entry_with term client seq op key vlen form) ≡ entry_room (entry_with term client seq op key vlen form)
sized k term client seq ops.Noop key vlen (forms.Whole bytes) = grind (arith, length-append)
sized k term client seq ops.Noop key vlen (forms.Part bytes) = grind (arith, length-append)
sized k term client seq ops.Put key vlen (forms.Whole bytes) = grind (arith, length-append)
sized k term client seq ops.Put key vlen (forms.Part bytes) = grind (arith, length-append)
sized k term client seq (ops.PutIf expected) key vlen (forms.Whole bytes) = grind (arith, length-append)
sized k term client seq (ops.PutIf expected) key vlen (forms.Part bytes) = grind (arith, length-append)
sized k term client seq ops.Del key vlen (forms.Whole bytes) = grind (arith, length-append)
sized k term client seq ops.Del key vlen (forms.Part bytes) = grind (arith, length-append)
sized k term client seq ops.Get key vlen (forms.Whole bytes) = grind (arith, length-append)
sized k term client seq ops.Get key vlen (forms.Part bytes) = grind (arith, length-append)

-- however many fragments rebuild a value
pub size_is_room : (k : ℕ) (e : Entry) → entry_size k e ≡ entry_room e
size_is_room k e = sized k e.term e.head.client e.head.seq e.head.op e.head.key e.head.vlen e.form

-- ---- with a fragment

pub fragment_length : (value : List ℕ) (need member : ℕ) → length (fragment value need member) ≡ part_length (length value) need
fragment_length value need member =
    length-map-range_with_len (λ place. polynomial (coefficients value (part_length (length value) need) place) need (point_of member)) 0 (part_length (length value) need)

by_form : (e : Entry) (need member size value : ℕ) (form : Form) → is_whole form ≡ true → size ≡ entry_room (record e { form = form }) → value ≡ length (form_bytes form)
    → size - value + part_length value need ≡ entry_room (record e { form = part_for need member form })
by_form e need member size value (forms.Whole bytes) is all own =
    let len : length (fragment bytes need member) ≡ part_length value need = fragment_length bytes need member ∙ ap (λ (n : ℕ). part_length n need) (sym own) in
    omega (arith, all, own, len)
by_form e need member size value (forms.Part bytes) is all own = absurd (false≢true is)

-- the fragment in place of the value
pub coded_room : (need member size value : ℕ) (e : Entry) → is_whole e.form ≡ true → has_value e ≡ true → size ≡ entry_room e → value ≡ length (form_bytes e.form)
    → size - value + part_length value need ≡ entry_room (sent_to need member e)
coded_room need member size value e is some all own =
    by_form e need member size value e.form is all own
    ∙ sym (ap (λ (b : Bool). entry_room (if b then record e { form = part_for need member e.form } else e)) some)
