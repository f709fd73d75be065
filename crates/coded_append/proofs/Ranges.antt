-- An entry that fits its fields does so as it goes.
use Rattle.std.proofs.Common.{◌≡◌, ℕ, ◌≤◌, true, List, length, refl, ap, ◌∙◌, arith}
use Rattle.std.proofs.lemmas.Bool.{cond_both, false≢true, leb-true}
use Rattle.std.proofs.lemmas.Bool.Decides.{nat_tests}
use Rattle.craft_base.specs.Parts.{part_length}
use Rattle.craft_base.specs.declared.command.Entry.{Entry}
use Rattle.craft_base.specs.declared.command.Form.{Form}
use Rattle.craft_base.specs.declared.command.Form.TheVariants as forms
use Rattle.craft_base.specs.declared.command.Op.{Op}
use Rattle.craft_base.specs.declared.command.Op.TheVariants as ops
use Rattle.entry_frames.specs.Entries.{entry_fields, is_whole}
use Rattle.entry_frames.specs.Formats.{Fits, within}
use Rattle.entry_frames.specs.Limits.{longest_value}
use Rattle.rs_code.specs.Fragments.{fragment}
use Rattle.coded_append.specs.Batches.{has_value, part_for, sent_to}
use Rattle.coded_append.proofs.Sizes.{entry_with, fragment_length}

from_one : (vlen : ℕ) → 1 ≤ vlen → within 0 longest_value vlen ≡ true → within 1 longest_value vlen ≡ true
from_one vlen some is = grind (arith, nat_tests, some, is)

part_fits :
    (k term client seq : ℕ) (op : Op) (key : List ℕ) (vlen : ℕ) (bytes part : List ℕ) → 1 ≤ vlen → (length bytes ≡ vlen → length part ≡ part_length vlen k) →
    Fits (entry_fields k) (entry_with term client seq op key vlen (forms.Whole bytes)) → Fits (entry_fields k) (entry_with term client seq op key vlen (forms.Part part))
part_fits k term client seq ops.Noop key vlen bytes part some len fits = absurd (omega (arith, some, fits.1.1.1.1.1.1.1.1.1.0))
part_fits k term client seq ops.Del key vlen bytes part some len fits = absurd (omega (arith, some, fits.1.1.1.1.1.1.1.1.1.0))
part_fits k term client seq ops.Get key vlen bytes part some len fits = absurd (omega (arith, some, fits.1.1.1.1.1.1.1.1.1.0))
part_fits k term client seq ops.Put key vlen bytes part some len fits =
    let t = fits.1.1 in
    let value = t.1.1.1.1.1.1.1.0 in
    ((omega arith, refl), ((omega arith, refl), (t.0, (t.1.0, (t.1.1.0, (t.1.1.1.0, (t.1.1.1.1.0, (t.1.1.1.1.1.0, (t.1.1.1.1.1.1.0, ((value.0, from_one vlen some value.1), (len t.1.1.1.1.1.1.1.1.0, refl)))))))))))
part_fits k term client seq (ops.PutIf expected) key vlen bytes part some len fits =
    let t = fits.1.1 in
    let value = t.1.1.1.1.1.1.1.0 in
    ((omega arith, refl), ((omega arith, refl), (t.0, (t.1.0, (t.1.1.0, (t.1.1.1.0, (t.1.1.1.1.0, (t.1.1.1.1.1.0, (t.1.1.1.1.1.1.0, ((value.0, from_one vlen some value.1), (len t.1.1.1.1.1.1.1.1.0, refl)))))))))))

by_form : (need member : ℕ) (e : Entry) (form : Form) → 1 ≤ e.head.vlen → is_whole form ≡ true
    → Fits (entry_fields need) (record e { form = form }) → Fits (entry_fields need) (record e { form = part_for need member form })
by_form need member e (forms.Whole bytes) some is fits =
    part_fits need e.term e.head.client e.head.seq e.head.op e.head.key e.head.vlen bytes (fragment bytes need member) some
    (λ len. fragment_length bytes need member ∙ ap (λ (n : ℕ). part_length n need) len) fits
by_form need member e (forms.Part bytes) some is fits = absurd (false≢true is)

-- where it is held whole
pub sent_fits : (need member : ℕ) (e : Entry) → is_whole e.form ≡ true → Fits (entry_fields need) e → Fits (entry_fields need) (sent_to need member e)
sent_fits need member e whole fits =
    cond_both (has_value e) (record e { form = part_for need member e.form }) e (Fits (entry_fields need))
    (λ some. by_form need member e e.form (leb-true 1 e.head.vlen some) whole fits) (λ none. fits)
