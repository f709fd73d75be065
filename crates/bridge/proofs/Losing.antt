-- Where a part is to be cut, F + 1 members showed that it is lost: whoever of them has an entry of its term there has a part, and there
-- are fewer of these than are needed. So the protocol lets the member begin to lead with what stands before it.
use Rattle.std.proofs.Common.{◌≡◌, ℕ, zero, suc, ◌<◌, ◌≤◌, ◌&&◌, ◌||◌, ◌==◌, Bool, true, false, if◌then◌else◌, nat_le, List, [], length, Option, None, Some, option_map, refl, sym, ap, subst, ◌∙◌, inl, inr, arith}
use Rattle.std.specs.List.{All, count_by}
use Rattle.std.proofs.lemmas.Bool.{and_parts, cond_both, eqb-true, leb-true, leb-false, or_cases, true≢false}
use Rattle.std.proofs.lemmas.Option.{same_Some, slice_get_cases}
use Rattle.craft_base.specs.Knowledge as known
use Rattle.craft_base.specs.Shape.{Shape, majority_of, members_of}
use Rattle.craft_base.specs.declared.command.Entry.{Entry}
use Rattle.craft_base.specs.declared.command.Form.{Form}
use Rattle.craft_base.specs.declared.command.Form.TheVariants as forms
use Rattle.leader_prep.specs.Pages.{Page, is_shown, latest_slot}
use Rattle.leader_prep.specs.Verdicts.{Cut, Parts, Rebuild, Wait, first_whole, form_in, is_covered, parts_of, rebuilding_by, usable_form, verdict, verdict_of_forms, verdict_of_parts, verdict_with, whole_in}
use Rattle.protocol.specs.Counting.{count}
use Rattle.protocol.specs.History.{History, IsIn}
use Rattle.protocol.specs.Logs.{Has, IsFront, KeepsWhole, Slot, has, is_whole, slot_at, term_at, term_of, whole_at}
use Rattle.protocol.specs.Moves.{ShowsLoss}
use Rattle.protocol.proofs.Counting.{count_more}
use Rattle.world_model.specs.Traces.{Proposal}
use Rattle.bridge.specs.Agreement.{BeginsBy, PageAgrees}
use Rattle.bridge.specs.Traced.{PageStands, StandsAt, holder}
use Rattle.bridge.specs.Views.{mark_seen, slot_seen}
use Rattle.bridge.proofs.Counting.{count_members}
use Rattle.bridge.proofs.Forms.{count_parts, is_part_form, none_whole}
use Rattle.bridge.proofs.Judging.{counts}
use Rattle.bridge.proofs.Pages.{IsShown, Seen, seen}

-- ---- a log for each member that has one

abbrev picked : (b : Bool) → (b ≡ true → List Slot) → List Slot
picked true log = log refl
picked false log = []

picked_is : (P : List Slot → Type 0) (b : Bool) (log : b ≡ true → List Slot) → ((e : b ≡ true) → P (log e)) → b ≡ true → P (picked b log)
picked_is P true log all e = all refl
picked_is P false log all e = absurd (true≢false (sym e))

-- ---- what a log has at an index

-- where it has an entry of a term, an entry stands there
has_slot :
    (log : List Slot) (index a : ℕ) (found : Option Entry) → 0 < index → slot_at log index ≡ option_map slot_seen found → has log index a ≡ true →
    (entry : Entry) × (found ≡ Some entry) × (a ≡ entry.term)
unfolding term_at
has_slot log index a None from there e = absurd (none_there log index from there (leb-true _ _ (and_parts (nat_le index (length log)) _ e).0)) where
  none_there : (log : List Slot) (index : ℕ) → 0 < index → slot_at log index ≡ None → index ≤ length log → ⊥
  none_there log zero from none within = omega (arith, from)
  none_there log (suc place) from none within = elim (slice_get_cases log place).1 [
    | inl some ↦ cc
    | inr past ↦ let le : length log ≤ place = past.0 in omega (arith, le, within)
  ]
has_slot log index a (Some entry) from there e =
    let same : term_at log index ≡ a = eqb-true _ _ (and_parts (nat_le index (length log)) _ e).1 in
    (entry, refl, sym same ∙ ap term_of there)

-- and it is whole where the entry is
part_there : (log : List Slot) (index : ℕ) (entry : Entry) → slot_at log index ≡ Some (slot_seen entry) → whole_in (Some entry.form) ≡ None → whole_at log index ≡ false
unfolding whole_at
part_there log index entry there part = ap is_whole there ∙ by_form entry.form part where
  by_form : (form : Form) → whole_in (Some form) ≡ None → is_whole (Some (record { term = entry.term; mark = mark_seen form })) ≡ false
  by_form (forms.Whole bytes) part = cc
  by_form (forms.Part bytes) part = refl

-- a part, where it isn't whole
is_part_there : (form : Form) → whole_in (Some form) ≡ None → is_part_form (Some form) ≡ true
is_part_there (forms.Whole bytes) part = cc
is_part_there (forms.Part bytes) part = refl

-- ---- a verdict to cut

record IsShort (shape : Shape) (me : ℕ) (own : Entry) (covered : ℕ → Bool) (slot : ℕ → Option Entry) : Type 0 where
  pub enough : is_covered shape me covered ≡ true
  pub none : first_whole (usable_form me own slot) (known.members shape) ≡ None
  pub few : length (parts_of (usable_form me own slot) (known.members shape)) < shape.need

cut_of_parts :
    (shape : Shape) (me : ℕ) (own : Entry) (covered : ℕ → Bool) (slot : ℕ → Option Entry) → is_covered shape me covered ≡ true →
    (found : Option (List ℕ)) → first_whole (usable_form me own slot) (known.members shape) ≡ found →
    verdict_with found (verdict_of_parts shape own (parts_of (usable_form me own slot) (known.members shape))) ≡ Cut → IsShort shape me own covered slot
cut_of_parts shape me own covered slot enough (Some value) found e = cc
cut_of_parts shape me own covered slot enough None found e =
    let parts = parts_of (usable_form me own slot) (known.members shape) in
    cond_both (nat_le shape.need (length parts)) (Rebuild (Parts (rebuilding_by shape own parts))) Cut (λ it. it ≡ Cut → IsShort shape me own covered slot)
    (λ many is. cc) (λ few is. record { enough = enough; none = found; few = leb-false shape.need (length parts) few }) e

cut_is_short : (shape : Shape) (me : ℕ) (own : Entry) (covered : ℕ → Bool) (slot : ℕ → Option Entry) → verdict shape me own covered slot ≡ Cut → IsShort shape me own covered slot
cut_is_short shape me own covered slot =
    cond_both (is_covered shape me covered) (verdict_of_forms shape own (usable_form me own slot)) Wait (λ it. it ≡ Cut → IsShort shape me own covered slot)
    (λ enough e. cut_of_parts shape me own covered slot enough (first_whole (usable_form me own slot) (known.members shape)) refl e) (λ few e. cc)

-- ---- what the members showed

module _
    (shape : Shape) (book : List Proposal) (h : History) (me term index : ℕ) (own : Entry) (stands : StandsAt (holder shape me) book index own)
    (pages : List Page) (shown : All (PageStands shape book) pages) (agree : All (PageAgrees h term) pages) (begun : All (BeginsBy (Some index)) pages)
    (mine : Seen h term me index (Some own)) (from : 0 < index)
  where
    abbrev slot : ℕ → Option Entry
    slot member = latest_slot member pages index

    abbrev covers : ℕ → Bool
    covers member = (member == me) || is_shown member pages index

    abbrev slot_there : ℕ → Option Entry
    slot_there member = if member == me then Some own else slot member

    see : (member : ℕ) → covers member ≡ true → Seen h term member index (slot_there member)
    see member e =
        cond_both (member == me) (Some own) (slot member) (Seen h term member index)
        (λ same. subst (λ it. Seen h term it index (Some own)) (sym (eqb-true member me same)) mine)
        (λ other. seen h term index member pages agree begun (elim (or_cases (member == me) _ e) [
          | inl same ↦ absurd (true≢false (sym same ∙ other))
          | inr it ↦ it
        ]))

    abbrev logs : ℕ → List Slot
    logs member = picked (covers member) (λ e. (see member e).0)

    logs_are : (member : ℕ) → covers member ≡ true → IsShown h term member index (slot_there member) (logs member)
    logs_are member = picked_is (IsShown h term member index (slot_there member)) (covers member) (λ e. (see member e).0) (λ e. (see member e).1)

    form_by :
        (same : Bool) (member : ℕ) (entry : Entry) → own.term ≡ entry.term → (if same then Some own else slot member) ≡ Some entry →
        (if same then Some own.form else form_in own (slot member)) ≡ Some entry.form
    form_by true member entry term e = ap (λ (it : Entry). Some it.form) (same_Some own entry e)
    form_by false member entry term e =
        ap (form_in own) e ∙ ap (λ usable. if usable then Some entry.form else None) (counts shape book me index own stands pages shown member entry e term)

    -- an entry of the term that a member showed counts
    held : (member : ℕ) → covers member ≡ true → has (logs member) index own.term ≡ true →
        (entry : Entry) × (slot_there member ≡ Some entry) × (usable_form me own slot member ≡ Some entry.form)
    held member covered e =
        let it = has_slot (logs member) index own.term (slot_there member) from (logs_are member covered).there e in
        (it.0, it.1, form_by (member == me) member it.0 it.2 it.1)

    module _ (short : IsShort shape me own (λ member. is_shown member pages index) slot) where
      not_whole : (member : ℕ) → member < members_of shape → (form : Form) → usable_form me own slot member ≡ Some form → whole_in (Some form) ≡ None
      not_whole member lt form e = sym (ap whole_in e) ∙ none_whole (usable_form me own slot) 0 (members_of shape) short.none member (omega arith) (omega (arith, lt))

      no_whole : (member : ℕ) → member < members_of shape → covers member ≡ true → has (logs member) index own.term ≡ true → whole_at (logs member) index ≡ false
      no_whole member lt covered e =
          let it = held member covered e in
          part_there (logs member) index it.0 ((logs_are member covered).there ∙ ap (option_map slot_seen) it.1) (not_whole member lt (it.0).form it.2)

      few : count (λ member. covers member && has (logs member) index own.term) (members_of shape) < shape.need
      few =
          let form : ℕ → Option Form = usable_form me own slot in
          let parts : count (λ member. covers member && has (logs member) index own.term) (members_of shape) ≤ count (λ member. is_part_form (form member)) (members_of shape) =
          count_more (λ member. covers member && has (logs member) index own.term) (λ member. is_part_form (form member)) (members_of shape)
          (λ member lt e.
          let both = and_parts (covers member) _ e in
          let it = held member both.0 both.1 in
          ap is_part_form it.2 ∙ is_part_there (it.0).form (not_whole member lt (it.0).form it.2)) in
          let counted = count_members (λ member. is_part_form (form member)) (members_of shape) in
          let long = count_parts form (known.members shape) in
          let less = short.few in
          omega (arith, parts, counted, long, less)

      enough : majority_of shape ≤ count covers (members_of shape)
      enough =
          let counted = count_members covers (members_of shape) in
          let many : majority_of shape ≤ count_by covers (known.members shape) = leb-true _ _ short.enough in
          omega (arith, counted, many)

      -- so the entry is lost
      shows_loss :
          (log : List Slot) → h.term me ≡ term → Has (h.log me) index own.term → h.commit me < index → h.need own.term index ≡ shape.need →
          suc (length log) ≡ index → IsFront log (h.log me) → KeepsWhole (h.log me) log (length log) → ShowsLoss shape.faults h me log
      shows_loss log same_term it above need shorter front marks = record {
        index = index;
        above = above;
        within = it.within;
        shorter = shorter;
        front = front;
        marks = marks;
        covers = covers;
        seen = logs;
        enough = enough;
        showed = λ member lt covered.
            let is = logs_are member covered in
            (is.start, is.early, subst (λ t. IsIn (record { term = t; member = member; start = is.start; slots = logs member }) h.answers) (sym same_term) is.was);
        no_whole = subst (λ a. (member : ℕ) → member < members_of shape → covers member ≡ true → has (logs member) index a ≡ true → whole_at (logs member) index ≡ false)
            (sym it.here) no_whole;
        few = subst (λ a. count (λ member. covers member && has (logs member) index a) (members_of shape) < h.need a index) (sym it.here) (subst (λ q. count (λ member. covers member && has (logs member) index own.term) (members_of shape) < q) (sym need) few);
      }

    pub cut_shows_loss :
        verdict shape me own (λ member. is_shown member pages index) slot ≡ Cut → (log : List Slot) → h.term me ≡ term → Has (h.log me) index own.term →
        h.commit me < index → h.need own.term index ≡ shape.need → suc (length log) ≡ index → IsFront log (h.log me) →
        KeepsWhole (h.log me) log (length log) → ShowsLoss shape.faults h me log
    cut_shows_loss cut = shows_loss (cut_is_short shape me own (λ member. is_shown member pages index) slot cut)
