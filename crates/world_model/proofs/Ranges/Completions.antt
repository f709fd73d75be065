-- Parts that a message completes: the records can be applied one after the other, and change values alone.
use Rattle.std.proofs.Common.{◌≡◌, ◌≢◌, ℕ, zero, suc, ◌+◌, ◌-◌, ◌≤◌, List, [], ◌∷◌, length, slice_get, Some, refl, sym, ap, subst, ◌∙◌, arith}
use Rattle.std.proofs.lemmas.Bool.{cond_both}
use Rattle.craft_base.specs.Shape.{Shape}
use Rattle.craft_base.specs.declared.command.Entry.{Entry}
use Rattle.craft_base.specs.declared.command.Form.{Form}
use Rattle.craft_base.specs.declared.command.Form.TheVariants as forms
use Rattle.entry_frames.specs.Bodies.{HaveSpellings}
use Rattle.entry_frames.specs.Durable.{Durable, CanApplyAll, IsPartOf, LacksValue, after, applied, complete_at}
use Rattle.entry_frames.specs.Entries.{entry_fields}
use Rattle.entry_frames.specs.Formats.{Fits}
use Rattle.entry_frames.specs.Limits.{last_place}
use Rattle.entry_frames.specs.Logs.{entry_at, term_at, term_of_entry}
use Rattle.entry_frames.specs.Records.{Record, Whole}
use Rattle.entry_frames.specs.Stored.{AreEntries, DurableInRange}
use Rattle.entry_frames.proofs.Durable.{can_apply-append}
use Rattle.entry_frames.proofs.Stored.{complete_length, fits_at, records_kept}
use Rattle.leader_prep.specs.Verdicts.{is_same_head}
use Rattle.world_model.specs.Rules.Append.{completion, completion_of, completions}
use Rattle.world_model.proofs.Recorded.{after-append}
use Rattle.world_model.proofs.Ranges.Records.{spelled-append, whole_fits}
use Rattle.world_model.proofs.Ranges.Values.{IsLong, part_length, same_vlen, whole_length}

-- ---- what one of them leaves as it is

-- only values changed
pub record IsCompleted (d e : Durable) : Type 0 where
  pub term : e.term ≡ d.term
  pub commit : e.commit ≡ d.commit
  pub long : length e.log ≡ length d.log
  pub terms : (index : ℕ) → term_at e.log index ≡ term_at d.log index

completed_refl : (d : Durable) → IsCompleted d d
completed_refl d = record { term = refl; commit = refl; long = refl; terms = λ index. refl }

completed_trans : {d e f : Durable} → IsCompleted d e → IsCompleted e f → IsCompleted d f
completed_trans one other = record {
  term = other.term ∙ one.term;
  commit = other.commit ∙ one.commit;
  long = other.long ∙ one.long;
  terms = λ index. other.terms index ∙ one.terms index;
}

complete_term : (log : List Entry) (position : ℕ) (bytes : List ℕ) (k : ℕ) → term_of_entry (slice_get (complete_at log position bytes) k) ≡ term_of_entry (slice_get log k)
complete_term [] position bytes k = refl
complete_term (entry ∷ log) zero bytes zero = refl
complete_term (entry ∷ log) zero bytes (suc k) = refl
complete_term (entry ∷ log) (suc position) bytes zero = refl
complete_term (entry ∷ log) (suc position) bytes (suc k) = complete_term log position bytes k

complete_term_at : (log : List Entry) (position : ℕ) (bytes : List ℕ) (index : ℕ) → term_at (complete_at log position bytes) index ≡ term_at log index
complete_term_at log position bytes zero = refl
complete_term_at log position bytes (suc k) = complete_term log position bytes k

pub complete_there : (log : List Entry) (position : ℕ) (bytes : List ℕ) (k : ℕ) → k ≢ position → slice_get (complete_at log position bytes) k ≡ slice_get log k
complete_there [] position bytes k apart = refl
complete_there (entry ∷ log) zero bytes zero apart = absurd (apart refl)
complete_there (entry ∷ log) zero bytes (suc k) apart = refl
complete_there (entry ∷ log) (suc position) bytes zero apart = refl
complete_there (entry ∷ log) (suc position) bytes (suc k) apart = complete_there log position bytes k (λ e. apart (ap suc e))

value_completes : (d : Durable) (index : ℕ) (bytes : List ℕ) → IsCompleted d (applied d (Whole index bytes))
value_completes d index bytes = record {
  term = refl;
  commit = refl;
  long = complete_length d.log (index - 1) bytes;
  terms = complete_term_at d.log (index - 1) bytes;
}

form_completes : (d : Durable) (index : ℕ) (own sent : Form) → IsCompleted d (after d (completion_of index own sent))
form_completes d index (forms.Part bytes) (forms.Whole value) = value_completes d index value
form_completes d index (forms.Part bytes) (forms.Part other) = completed_refl d
form_completes d index (forms.Whole bytes) sent = completed_refl d

entry_completes : (d : Durable) (index : ℕ) (own e : Entry) → IsCompleted d (after d (completion index own e))
entry_completes d index own e =
    cond_both (is_same_head own.head e.head) (completion_of index own.form e.form) [] (λ records. IsCompleted d (after d records))
    (λ same. form_completes d index own.form e.form) (λ other. completed_refl d)

pub all_complete : (d : Durable) (index : ℕ) (log es : List Entry) → IsCompleted d (after d (completions index log es))
all_complete d index [] es = completed_refl d
all_complete d index (own ∷ log) [] = completed_refl d
all_complete d index (own ∷ log) (e ∷ es) =
    subst (IsCompleted d) (sym (after-append d (completion index own e) (completions (index + 1) log es)))
    (completed_trans (entry_completes d index own e) (all_complete (after d (completion index own e)) (index + 1) log es))

-- entries elsewhere stay as they are
module _ (d : Durable) (index place k : ℕ) (is : index ≡ suc place) (apart : k ≢ place) where
  form_there : (own sent : Form) → slice_get (after d (completion_of index own sent)).log k ≡ slice_get d.log k
  form_there (forms.Part bytes) (forms.Whole value) = complete_there d.log (index - 1) value k (λ e. apart (omega (arith, e, is)))
  form_there (forms.Part bytes) (forms.Part other) = refl
  form_there (forms.Whole bytes) sent = refl

  entry_there : (own e : Entry) → slice_get (after d (completion index own e)).log k ≡ slice_get d.log k
  entry_there own e =
      cond_both (is_same_head own.head e.head) (completion_of index own.form e.form) [] (λ records. slice_get (after d records).log k ≡ slice_get d.log k)
      (λ same. form_there own.form e.form) (λ other. refl)

-- ---- where they can be applied

abbrev pub AreSound : Shape → Durable → List Record → Type 0
AreSound shape d records = CanApplyAll shape d records × HaveSpellings shape.need records

module _ (shape : Shape) where
  module _
      (d : Durable) (keeps : DurableInRange shape d) (index place : ℕ) (is : index ≡ suc place) (own : Entry) (here : slice_get d.log place ≡ Some own)
      (within : index ≤ last_place) where
    there : entry_at d.log index ≡ Some own
    there = ap (entry_at d.log) is ∙ here

    pub own_fits : Fits (entry_fields shape.need) own
    own_fits = fits_at shape.need 0 d.term d.log index own keeps.stored.entries there

    -- a part, with a value of its length
    pub made_sound : (part value : List ℕ) → own.form ≡ forms.Part part → length value ≡ own.head.vlen → AreSound shape d (Whole index value ∷ [])
    made_sound part value of_part long =
        let range : IsLong own.head.vlen = part_length shape.need own part own_fits of_part in
        let lacks : IsPartOf own.form own.head.vlen (length value) = subst (λ (f : Form). IsPartOf f own.head.vlen (length value)) (sym of_part) (sym long) in (
          (subst (λ o. LacksValue o (length value)) (sym there) lacks, tt),
          (whole_fits shape.need index value (omega (arith, is)) within (omega (arith, range.0, long)) (omega (arith, range.1, long)), tt),
        )

  module _
      (d : Durable) (keeps : DurableInRange shape d) (index place : ℕ) (is : index ≡ suc place) (own e : Entry) (here : slice_get d.log place ≡ Some own)
      (within : index ≤ last_place) (fits : Fits (entry_fields shape.need) e) where
    value_sound : (part value : List ℕ) → own.form ≡ forms.Part part → e.form ≡ forms.Whole value → own.head.vlen ≡ e.head.vlen → AreSound shape d (Whole index value ∷ [])
    value_sound part value of_part of_whole same =
        made_sound d keeps index place is own here within part value of_part (whole_length shape.need e value fits of_whole ∙ sym same)

    forms_sound : (f g : Form) → own.form ≡ f → e.form ≡ g → own.head.vlen ≡ e.head.vlen → AreSound shape d (completion_of index f g)
    forms_sound (forms.Part part) (forms.Whole value) one other same = value_sound part value one other same
    forms_sound (forms.Part part) (forms.Part bytes) one other same = (tt, tt)
    forms_sound (forms.Whole bytes) g one other same = (tt, tt)

    entry_sound : AreSound shape d (completion index own e)
    entry_sound =
        cond_both (is_same_head own.head e.head) (completion_of index own.form e.form) [] (AreSound shape d)
        (λ same. forms_sound own.form e.form refl refl (same_vlen own.head e.head same)) (λ other. (tt, tt))

  -- a stretch of the log is that list, from a place on
  abbrev pub Stands : Durable → (place : ℕ) → List Entry → Type 0
  Stands d place log = (i : ℕ) (at : ℕ) (own : Entry) → at ≡ place + i → slice_get log i ≡ Some own → slice_get d.log at ≡ Some own

  pub completions_sound :
      (log es : List Entry) (d : Durable) (low high index place : ℕ) → DurableInRange shape d → index ≡ suc place → Stands d place log →
      place + length es ≤ last_place → AreEntries shape.need low high es → AreSound shape d (completions index log es)
  completions_sound [] es d low high index place keeps is stands short are = (tt, tt)
  completions_sound (own ∷ log) [] d low high index place keeps is stands short are = (tt, tt)
  completions_sound (own ∷ log) (e ∷ es) d low high index place keeps is stands short are =
      let one : AreSound shape d (completion index own e) =
      entry_sound d keeps index place is own e (stands 0 place own (omega arith) refl) (omega (arith, short, is)) are.0 in
      let now : Durable = after d (completion index own e) in
      let kept : DurableInRange shape now = records_kept shape d (completion index own e) keeps one.0 one.1 in
      let rest : AreSound shape now (completions (index + 1) log es) =
      completions_sound log es now e.term high (index + 1) (place + 1) kept (omega (arith, is))
      (λ i at other at_is found. entry_there d index place at is (λ same. omega (arith, same, at_is)) own e ∙ stands (suc i) at other (omega (arith, at_is)) found)
      (omega (arith, short)) are.3 in (
        can_apply-append shape d (completion index own e) (completions (index + 1) log es) one.0 rest.0,
        spelled-append shape.need (completion index own e) (completions (index + 1) log es) one.1 rest.1,
      )
