-- What is decided in a preparation: each value that is had is as long as its entry says, and the records can be applied one after the
-- other.
use Rattle.std.proofs.Common.{◌≡◌, ℕ, suc, ◌+◌, ◌-◌, ◌<◌, ◌≤◌, ◌==◌, if◌then◌else◌, nat_le, true, false, Bool, List, [], ◌∷◌, length, drop, slice_get, Option, None, Some, refl, sym, ap, subst, ◌∙◌, arith, length-drop}
use Rattle.std.specs.List.{All}
use Rattle.std.specs.Option.{option_or}
use Rattle.std.proofs.lemmas.Bool.{cond_both, and_parts, true≢false}
use Rattle.std.proofs.lemmas.List.Elements.{All-head, All-tail}
use Rattle.std.proofs.lemmas.Option.{get_or_from_slice_get, same_Some, slice_get_within}
use Rattle.craft_base.specs.Knowledge.{members}
use Rattle.craft_base.specs.Shape.{Shape}
use Rattle.craft_base.specs.declared.command.Entry.{Entry}
use Rattle.craft_base.specs.declared.command.Form.{Form}
use Rattle.craft_base.specs.declared.command.Form.TheVariants as forms
use Rattle.entry_frames.specs.Durable.{Durable, IsUncommitted, applied}
use Rattle.entry_frames.specs.Entries.{entry_fields, is_whole}
use Rattle.entry_frames.specs.Formats.{Fits}
use Rattle.entry_frames.specs.Records.{Whole}
use Rattle.entry_frames.specs.Stored.{DurableInRange}
use Rattle.entry_frames.proofs.Stored.{complete_length, records_kept}
use Rattle.leader_prep.specs.Decisions.{OpenPart, cursor_of, decided, decision_at, first_index, parts_from}
use Rattle.leader_prep.specs.Pages.{Page, latest_slot, slot_in, slot_of}
use Rattle.leader_prep.specs.Solutions.{value_of}
use Rattle.leader_prep.specs.Verdicts as verdicts
use Rattle.leader_prep.specs.Verdicts.{Verdict, first_whole, form_in, is_covered, is_same_head, is_usable, parts_of, rebuilding_by, usable_form, verdict, verdict_of_forms, verdict_of_parts, verdict_with, whole_in}
use Rattle.leader_prep.proofs.Solving.{solution_long}
use Rattle.rs_code.specs.Rebuilding.{TakenPart}
use Rattle.world_model.specs.Ranges.{PageInRange}
use Rattle.world_model.specs.Rules.Prepare.{decided_records}
use Rattle.world_model.proofs.Ranges.Completions.{AreSound, Stands, complete_there, made_sound, own_fits}
use Rattle.world_model.proofs.Ranges.Records.{cut_fits}
use Rattle.world_model.proofs.Ranges.Values.{same_vlen, whole_length}

-- ---- where the cursor is

first_within : (index : ℕ) (entries : List Entry) (at : ℕ) → first_index (parts_from index entries) ≡ Some at → (index ≤ at) × (at < index + length entries)
first_within index [] at is = absurd cc
first_within index (e ∷ es) at is = one (is_whole e.form) refl (first_within (index + 1) es at) where
  one : (whole : Bool) → is_whole e.form ≡ whole
      → (first_index (parts_from (index + 1) es) ≡ Some at → (index + 1 ≤ at) × (at < index + 1 + length es))
      → (index ≤ at) × (at < index + suc (length es))
  one true here later =
      let rest = later (ap (λ (b : Bool). first_index (if b then parts_from (index + 1) es else record { index = index; entry = e } ∷ parts_from (index + 1) es)) (sym here) ∙ is) in
      (omega (arith, rest.0), omega (arith, rest.1))
  one false here later =
      let same : index ≡ at =
      same_Some index at (ap (λ (b : Bool). first_index (if b then parts_from (index + 1) es else record { index = index; entry = e } ∷ parts_from (index + 1) es)) (sym here) ∙ is) in
      (omega (arith, same), omega (arith, same))

-- it lies above the commit index and within the log
pub cursor_within : (commit : ℕ) (log : List Entry) (at : ℕ) → cursor_of commit log ≡ Some at → (commit < at) × (at ≤ length log)
cursor_within commit log at is =
    let within = first_within (commit + 1) (drop commit log) at is in
    (omega (arith, within.0), omega (arith, within.0, within.1, length-drop commit log))

-- ---- slots that were shown

module _ (k : ℕ) where
  -- where there is an entry, it is in the ranges of its table
  abbrev FitsIf : Option Entry → Type 0
  FitsIf None = Unit {0}
  FitsIf (Some e) = Fits (entry_fields k) e

  got_fits : (es : List Entry) (i : ℕ) → All (Fits (entry_fields k)) es → FitsIf (slice_get es i)
  got_fits es i all = one (slice_get es i) refl where
    one : (o : Option Entry) → slice_get es i ≡ o → FitsIf o
    one None here = tt
    one (Some e) here = subst (Fits (entry_fields k)) (get_or_from_slice_get es i e e here) (all i e (slice_get_within es i e here))

  slot_fits : (member : ℕ) (page : Page) (index : ℕ) → PageInRange k page → FitsIf (slot_of member page index)
  slot_fits member page index all =
      cond_both (page.sender == member) (slot_in page index) None FitsIf
      (λ same. cond_both (nat_le page.start index) (slice_get page.slots (index - page.start)) None FitsIf (λ from. got_fits page.slots (index - page.start) all) (λ before. tt))
      (λ other. tt)

  either_fits : (one other : Option Entry) → FitsIf one → FitsIf other → FitsIf (option_or one other)
  either_fits None other first second = second
  either_fits (Some e) other first second = first

  pub latest_fits : (member : ℕ) (pages : List Page) (index : ℕ) → All (PageInRange k) pages → FitsIf (latest_slot member pages index)
  latest_fits member [] index all = tt
  latest_fits member (page ∷ pages) index all =
      either_fits (slot_of member page index) (latest_slot member pages index)
      (slot_fits member page index (All-head (PageInRange k) page pages all)) (latest_fits member pages index (All-tail (PageInRange k) page pages all))

-- ---- how long a value is that is had

abbrev pub IsVerdictLong : Entry → Verdict → Type 0
IsVerdictLong own verdicts.Wait = Unit {0}
IsVerdictLong own (verdicts.Rebuild source) = length (value_of source) ≡ own.head.vlen
IsVerdictLong own verdicts.Cut = Unit {0}

module _ (shape : Shape) (some : 1 ≤ shape.need) (me : ℕ) (own : Entry) (own_fits : Fits (entry_fields shape.need) own)
    (slot : ℕ → Option Entry) (slots_fit : (member : ℕ) → FitsIf shape.need (slot member)) where
  -- a form of a slot that counts has a value of that length, where it has one
  abbrev IsFormLong : Option (List ℕ) → Type 0
  IsFormLong None = Unit {0}
  IsFormLong (Some value) = length value ≡ own.head.vlen

  of_entry : (e : Entry) (form : Form) → e.form ≡ form → Fits (entry_fields shape.need) e → own.head.vlen ≡ e.head.vlen → IsFormLong (whole_in (Some form))
  of_entry e (forms.Whole bytes) is fits same = whole_length shape.need e bytes fits is ∙ sym same
  of_entry e (forms.Part bytes) is fits same = tt

  of_slot : (o : Option Entry) → FitsIf shape.need o → IsFormLong (whole_in (form_in own o))
  of_slot None fits = tt
  of_slot (Some e) fits =
      cond_both (is_usable own e) (Some e.form) None (λ form. IsFormLong (whole_in form))
      (λ counts. of_entry e e.form refl fits (same_vlen own.head e.head (and_parts (own.term == e.term) (is_same_head own.head e.head) counts).1)) (λ other. tt)

  of_member : (member : ℕ) → IsFormLong (whole_in (usable_form me own slot member))
  of_member member =
      cond_both (member == me) (Some own.form) (form_in own (slot member)) (λ form. IsFormLong (whole_in form))
      (λ same. of_entry own own.form refl own_fits refl) (λ other. of_slot (slot member) (slots_fit member))

  of_first : (one other : Option (List ℕ)) → IsFormLong one → IsFormLong other → IsFormLong (option_or one other)
  of_first None other first second = second
  of_first (Some value) other first second = first

  of_members : (members : List ℕ) → IsFormLong (first_whole (usable_form me own slot) members)
  of_members [] = tt
  of_members (member ∷ others) =
      of_first (whole_in (usable_form me own slot member)) (first_whole (usable_form me own slot) others) (of_member member) (of_members others)

  by_parts : (parts : List TakenPart) → IsVerdictLong own (verdict_of_parts shape own parts)
  by_parts parts =
      cond_both (nat_le shape.need (length parts)) (verdicts.Rebuild (verdicts.Parts (rebuilding_by shape own parts))) verdicts.Cut (IsVerdictLong own)
      (λ enough. solution_long (rebuilding_by shape own parts) some) (λ few. tt)

  by_forms : (whole : Option (List ℕ)) (without : Verdict) → IsFormLong whole → IsVerdictLong own without → IsVerdictLong own (verdict_with whole without)
  by_forms None without long rest = rest
  by_forms (Some value) without long rest = long

  -- where enough members were heard
  pub forms_long : IsVerdictLong own (verdict_of_forms shape own (usable_form me own slot))
  forms_long =
      by_forms (first_whole (usable_form me own slot) (members shape)) (verdict_of_parts shape own (parts_of (usable_form me own slot) (members shape)))
      (of_members (members shape)) (by_parts (parts_of (usable_form me own slot) (members shape)))

  pub verdict_long : (shown : ℕ → Bool) → IsVerdictLong own (verdict shape me own shown slot)
  verdict_long shown =
      cond_both (is_covered shape me shown) (verdict_of_forms shape own (usable_form me own slot)) verdicts.Wait (IsVerdictLong own)
      (λ covered. forms_long) (λ few. tt)

-- ---- the records

module _ (shape : Shape) (verdict_of : OpenPart → Verdict)
    (long : (part : OpenPart) → Fits (entry_fields shape.need) part.entry → IsVerdictLong part.entry (verdict_of part)) where
  -- what is decided of the entries of a log from a place on
  abbrev AreDecided : (d : Durable) (index place : ℕ) → List Entry → Type 0
  AreDecided d index place entries =
      DurableInRange shape d → index ≡ suc place → Stands shape d place entries → place + length entries ≤ length d.log → d.commit ≤ place →
      AreSound shape d (decided_records (decided verdict_of (parts_from index entries)))

  first_sound :
      (d : Durable) (index place : ℕ) (e : Entry) (es : List Entry) → DurableInRange shape d → index ≡ suc place → Stands shape d place (e ∷ es) →
      place + suc (length es) ≤ length d.log → d.commit ≤ place → is_whole e.form ≡ false → Fits (entry_fields shape.need) e →
      ((now : Durable) → AreDecided now (index + 1) (place + 1) es) → (v : Verdict) → IsVerdictLong e v →
      AreSound shape d (decided_records (decision_at index v (decided verdict_of (parts_from (index + 1) es))))
  first_sound d index place e es keeps is stands within open' part fits rest verdicts.Wait v_long = (tt, tt)
  first_sound d index place e es keeps is stands within open' part fits rest verdicts.Cut v_long =
      let can : IsUncommitted d index = record { behind = omega (arith, is, open'); within = omega (arith, is, within) } in
      ((can, tt), (cut_fits shape.need index (omega (arith, is)) (omega (arith, is, within, keeps.short)), tt))
  first_sound d index place e es keeps is stands within open' part fits rest (verdicts.Rebuild source) v_long =
      let value : List ℕ = value_of source in
      let here : slice_get d.log place ≡ Some e = stands 0 place e (omega arith) refl in
      let one : AreSound shape d (Whole index value ∷ []) = by_form e.form refl here in
      let now : Durable = applied d (Whole index value) in
      let kept : DurableInRange shape now = records_kept shape d (Whole index value ∷ []) keeps one.0 one.1 in
      let same : length now.log ≡ length d.log = complete_length d.log (index - 1) value in
      let more = rest now kept (omega (arith, is))
      (λ i at own at_is found. complete_there d.log (index - 1) value at (λ e. omega (arith, e, is, at_is)) ∙ stands (suc i) at own (omega (arith, at_is)) found)
      (omega (arith, within, same)) (omega (arith, open')) in
      ((one.0.0, more.0), (one.1.0, more.1))
    where
      by_form : (form : Form) → e.form ≡ form → slice_get d.log place ≡ Some e → AreSound shape d (Whole index (value_of source) ∷ [])
      by_form (forms.Whole bytes) of_form here = absurd (true≢false (sym (ap is_whole of_form) ∙ part))
      by_form (forms.Part bytes) of_form here = made_sound shape d keeps index place is e here (omega (arith, is, within, keeps.short)) bytes (value_of source) of_form v_long

  pub decided_sound : (entries : List Entry) (d : Durable) (index place : ℕ) → AreDecided d index place entries
  decided_sound [] d index place keeps is stands within open' = (tt, tt)
  decided_sound (e ∷ es) d index place keeps is stands within open' =
      let here : slice_get d.log place ≡ Some e = stands 0 place e (omega arith) refl in
      let fits : Fits (entry_fields shape.need) e = own_fits shape d keeps index place is e here (omega (arith, is, within, keeps.short)) in
      let later : (now : Durable) → AreDecided now (index + 1) (place + 1) es = λ now. decided_sound es now (index + 1) (place + 1) in
      cond_both (is_whole e.form) (parts_from (index + 1) es) (record { index = index; entry = e } ∷ parts_from (index + 1) es)
      (λ parts. AreSound shape d (decided_records (decided verdict_of parts)))
      (λ whole.
      later d keeps (omega (arith, is)) (λ i at own at_is found. stands (suc i) at own (omega (arith, at_is)) found) (omega (arith, within)) (omega (arith, open')))
      (λ part.
      first_sound d index place e es keeps is stands within open' part fits later (verdict_of (record { index = index; entry = e }))
      (long (record { index = index; entry = e }) fits))
