-- Entries in order as a message carries them: their fields fit, and what fits is in order.
use Rattle.std.proofs.Common.{◌≡◌, ℕ, zero, suc, ◌-◌, ◌≤◌, true, Bool, nat_le, List, [], ◌∷◌, length, drop, map, refl, sym, ap, subst, arith}
use Rattle.std.specs.List.{All}
use Rattle.std.proofs.lemmas.List.Elements.{All-cons, All-nil}
use Rattle.std.proofs.lemmas.Bool.{cond_both, and_parts, and_from, le-leb, leb-true}
use Rattle.craft_base.specs.declared.command.Entry.{Entry}
use Rattle.entry_frames.specs.Entries.{entry_fields, entry_fields_in, is_whole}
use Rattle.entry_frames.specs.Formats.{Fits, Format, Value, Test, embed}
use Rattle.entry_frames.specs.MessageFields.{entries_fields, entry_size, first_entry, later_entries, least_next}
use Rattle.entry_frames.specs.Stored.{AreEntries}
use Rattle.entry_frames.proofs.Entries.{entry_faithful, fits_any}
use Rattle.entry_frames.proofs.Formats.{Faithful, embed_faithful, embed_fits, embedded_fits}
use Rattle.coded_append.specs.Batches.{before_part, fitting, has_value, part_for, sent_to}
use Rattle.coded_append.proofs.Ranges.{sent_fits}

-- ---- an entry, and its term between two others

fits_between : (k low high : ℕ) (e : Entry) → Fits (entry_fields k) e → low ≤ e.term → e.term ≤ high → Fits (entry_fields_in k low high) e
fits_between k low high e fits least most =
    (fits.0, (fits.1.0, (fits.1.1.0, (and_from (nat_le low e.term) (nat_le e.term high) (le-leb low e.term least) (le-leb e.term high most), fits.1.1.1.1))))

lies_between : (k low high : ℕ) (e : Entry) → Fits (entry_fields_in k low high) e → (low ≤ e.term) × (e.term ≤ high)
lies_between k low high e fits =
    let parts = and_parts (nat_le low e.term) (nat_le e.term high) fits.1.1.1.0 in
    (leb-true low e.term parts.0, leb-true e.term high parts.1)

-- the fields behind an entry
abbrev behind_entry : ℕ → Bool → ℕ → ℕ → ℕ → ℕ → Entry → Format (List Entry)
behind_entry k rises high count low room e =
    Test (nat_le (entry_size k e) room) (entry_size k e) (
    embed (entries_fields k rises high count (least_next rises low e.term) (room - entry_size k e)) later_entries λ es.
    Value (e ∷ es))

-- ---- the entries of a batch

pub fitting_few : (k places room : ℕ) (es : List Entry) → length (fitting k places room es) ≤ places
fitting_few k zero room es = omega arith
fitting_few k (suc places) room [] = omega arith
fitting_few k (suc places) room (e ∷ es) =
    let rest : length (fitting k places (room - entry_size k e) es) ≤ places = fitting_few k places (room - entry_size k e) es in
    cond_both (nat_le (entry_size k e) room) (e ∷ fitting k places (room - entry_size k e) es) [] (λ batch. length batch ≤ suc places)
    (λ fits. omega (arith, rest)) (λ none. omega arith)

pub fitting_short : (k places room : ℕ) (es : List Entry) → length (fitting k places room es) ≤ length es
fitting_short k zero room es = omega arith
fitting_short k (suc places) room [] = omega arith
fitting_short k (suc places) room (e ∷ es) =
    let rest : length (fitting k places (room - entry_size k e) es) ≤ length es = fitting_short k places (room - entry_size k e) es in
    cond_both (nat_le (entry_size k e) room) (e ∷ fitting k places (room - entry_size k e) es) [] (λ batch. length batch ≤ suc (length es))
    (λ fits. omega (arith, rest)) (λ none. omega arith)

pub before_short : (es : List Entry) → length (before_part es) ≤ length es
before_short [] = omega arith
before_short (e ∷ es) =
    let rest : length (before_part es) ≤ length es = before_short es in
    cond_both (is_whole e.form) (e ∷ before_part es) [] (λ front. length front ≤ suc (length es)) (λ whole. omega (arith, rest)) (λ part. omega arith)

pub before_are : (k low high : ℕ) (es : List Entry) → AreEntries k low high es → AreEntries k low high (before_part es)
before_are k low high [] are = tt
before_are k low high (e ∷ es) are =
    cond_both (is_whole e.form) (e ∷ before_part es) [] (AreEntries k low high) (λ whole. (are.0, are.1, are.2, before_are k e.term high es are.3)) (λ part. tt)

-- an entry as it goes is of its term
pub sent_term : (k member : ℕ) (e : Entry) → (sent_to k member e).term ≡ e.term
sent_term k member e = cond_both (has_value e) (record e { form = part_for k member e.form }) e (λ x. x.term ≡ e.term) (λ some. refl) (λ none. refl)

-- entries that are held whole are in order as they go
pub sent_are : (k member low high : ℕ) (es : List Entry) → AreEntries k low high es → AreEntries k low high (map (sent_to k member) (before_part es))
sent_are k member low high [] are = tt
sent_are k member low high (e ∷ es) are =
    let same : (sent_to k member e).term ≡ e.term = sent_term k member e in
    let rest : AreEntries k e.term high (map (sent_to k member) (before_part es)) = sent_are k member e.term high es are.3 in
    cond_both (is_whole e.form) (e ∷ before_part es) [] (λ front. AreEntries k low high (map (sent_to k member) front))
    (λ whole. (
      sent_fits k member e whole are.0,
      omega (arith, same, are.1),
      omega (arith, same, are.2),
      subst (λ (t : ℕ). AreEntries k t high (map (sent_to k member) (before_part es))) (sym same) rest,
    ))
    (λ part. tt)

-- what is left of entries in order
pub dropped_are : (k low high n : ℕ) (es : List Entry) → AreEntries k low high es → AreEntries k 0 high (drop n es)
dropped_are k low high zero [] are = tt
dropped_are k low high (suc n) [] are = tt
dropped_are k low high zero (e ∷ es) are = (are.0, omega arith, are.2, are.3)
dropped_are k low high (suc n) (e ∷ es) are = dropped_are k e.term high n es are.3

module _ (k high : ℕ) where
  abbrev FitAll : (rises : Bool) (low room : ℕ) → List Entry → Type 0
  FitAll rises low room es = Fits (entries_fields k rises high (length es) low room) es

  abbrev with_later : Entry → List Entry → Format (List Entry)
  with_later e es = Value (e ∷ es)

  one_more_fits :
      (rises : Bool) (low room : ℕ) (e : Entry) (es : List Entry) → Fits (entry_fields_in k low high) e → nat_le (entry_size k e) room ≡ true →
      FitAll rises (least_next rises low e.term) (room - entry_size k e) es → FitAll rises low room (e ∷ es)
  one_more_fits rises low room e es fits small rest =
      let outer : Fits (behind_entry k rises high (length es) low room e) (e ∷ es) =
      (small, embed_fits (entries_fields k rises high (length es) (least_next rises low e.term) (room - entry_size k e)) later_entries (with_later e) (e ∷ es) rest refl) in
      embed_fits (entry_fields_in k low high) first_entry (behind_entry k rises high (length es) low room) (e ∷ es) fits outer

  -- where terms have to rise, and where they needn't
  pub fitting_fits :
      (rises : Bool) (low least places room : ℕ) (es : List Entry) → low ≤ least → AreEntries k least high es → FitAll rises low room (fitting k places room es)
  fitting_fits rises low least zero room es below are = refl
  fitting_fits rises low least (suc places) room [] below are = refl
  fitting_fits rises low least (suc places) room (e ∷ es) below are =
      let next : least_next rises low e.term ≤ e.term = cond_both rises e.term low (λ l. l ≤ e.term) (λ rise. omega arith) (λ stay. omega (arith, below, are.1)) in
      let rest : FitAll rises (least_next rises low e.term) (room - entry_size k e) (fitting k places (room - entry_size k e) es) =
      fitting_fits rises (least_next rises low e.term) e.term places (room - entry_size k e) es next are.3 in
      cond_both (nat_le (entry_size k e) room) (e ∷ fitting k places (room - entry_size k e) es) [] (FitAll rises low room)
      (λ taken.
      one_more_fits rises low room e (fitting k places (room - entry_size k e) es)
      (fits_between k low high e are.0 (omega (arith, below, are.1)) are.2) taken rest)
      (λ none. refl)

-- ---- the entries of a message

entries_faithful : (k : ℕ) (rises : Bool) (high count low room : ℕ) → Faithful (entries_fields k rises high count low room) (λ es. length es ≡ count)
entries_faithful k rises high zero low room = refl
entries_faithful k rises high (suc count) low room =
    embed_faithful (entry_fields_in k low high) (λ e. Unit {0}) first_entry (behind_entry k rises high count low room) (λ es. length es ≡ suc count) (entry_faithful k low high)
    (λ e owed passes. embed_faithful (entries_fields k rises high count (least_next rises low e.term) (room - entry_size k e)) (λ es. length es ≡ count) later_entries
    (λ es. Value (e ∷ es)) (λ es. (length es ≡ suc count) × (first_entry es ≡ e))
    (entries_faithful k rises high count (least_next rises low e.term) (room - entry_size k e)) (λ es len. ((ap suc len, refl), refl)))

behind_faithful : (k : ℕ) (rises : Bool) (high count low room : ℕ) (e : Entry) → Faithful (behind_entry k rises high count low room e) (λ es. first_entry es ≡ e)
behind_faithful k rises high count low room e = λ passes.
    embed_faithful (entries_fields k rises high count (least_next rises low e.term) (room - entry_size k e)) (λ es. length es ≡ count) later_entries (λ es. Value (e ∷ es))
    (λ es. first_entry es ≡ e) (entries_faithful k rises high count (least_next rises low e.term) (room - entry_size k e)) (λ es len. (refl, refl))

later_back : (e : Entry) (es : List Entry) → Faithful (Value (e ∷ es)) (λ w. later_entries w ≡ es)
later_back e es = refl

-- entries that fit do so each
pub entries_fit :
    (k : ℕ) (rises : Bool) (high count low room : ℕ) (es : List Entry) → Fits (entries_fields k rises high count low room) es → All (Fits (entry_fields k)) es
entries_fit k rises high zero low room es fits = subst (All (Fits (entry_fields k))) fits (All-nil (Fits (entry_fields k)))
entries_fit k rises high (suc count) low room es fits =
    let one = entry_fields_in k low high in
    let e = first_entry es in
    let both = embedded_fits one first_entry (behind_entry k rises high count low room) es (behind_faithful k rises high count low room) fits in
    let more = entries_fields k rises high count (least_next rises low e.term) (room - entry_size k e) in
    let make : List Entry → Format (List Entry) = λ later. Value (e ∷ later) in
    let inner = embedded_fits more later_entries make es (later_back e) both.1.1 in
    let rest : All (Fits (entry_fields k)) (later_entries es) = entries_fit k rises high count (least_next rises low e.term) (room - entry_size k e) (later_entries es) inner.0 in
    subst (All (Fits (entry_fields k))) inner.1 (All-cons (Fits (entry_fields k)) e (later_entries es) (fits_any k low high e both.0) rest)

-- entries that fit, and whose terms rise, are in order
pub entries_in_order :
    (k high count low room : ℕ) (es : List Entry) → Fits (entries_fields k true high count low room) es → AreEntries k low high es × (length es ≡ count)
entries_in_order k high zero low room es fits = subst (λ (xs : List Entry). AreEntries k low high xs × (length xs ≡ 0)) fits (tt, refl)
entries_in_order k high (suc count) low room es fits =
    let one = entry_fields_in k low high in
    let e = first_entry es in
    let both = embedded_fits one first_entry (behind_entry k true high count low room) es (behind_faithful k true high count low room) fits in
    let more = entries_fields k true high count e.term (room - entry_size k e) in
    let make : List Entry → Format (List Entry) = λ later. Value (e ∷ later) in
    let inner = embedded_fits more later_entries make es (later_back e) both.1.1 in
    let rest = entries_in_order k high count e.term (room - entry_size k e) (later_entries es) inner.0 in
    let lies = lies_between k low high e both.0 in
    subst (λ (xs : List Entry). AreEntries k low high xs × (length xs ≡ suc count)) inner.1
    ((fits_any k low high e both.0, lies.0, lies.1, rest.0), ap suc rest.1)
