-- The value that a preparation decides, or that a leader gathers, is the one that was proposed: whatever slots count, they stand in the
-- book.
use Rattle.std.proofs.Common.{◌≡◌, ◌≢◌, ℕ, zero, suc, ◌+◌, ◌<◌, ◌≤◌, ◌==◌, nat_le, Bool, List, [], ◌∷◌, ◌++◌, length, take, Option, None, Some, refl, sym, ap, subst, ◌∙◌, arith, length-take-le}
use Rattle.std.specs.List.{All, range_with_len}
use Rattle.std.specs.Option.{option_or}
use Rattle.std.proofs.lemmas.Bool.{and_parts, cond_both, eqb-true, leb-true}
use Rattle.std.proofs.lemmas.Option.{same_Some}
use Rattle.std.proofs.lemmas.List.Elements.{All-append, All-cons, All-nil, All-take}
use Rattle.craft_base.specs.Knowledge.{members}
use Rattle.craft_base.specs.Shape.{IsShape, Shape, members_of}
use Rattle.craft_base.specs.declared.command.Entry.{Entry}
use Rattle.craft_base.specs.declared.command.Form.{Form}
use Rattle.craft_base.specs.declared.command.Form.TheVariants as forms
use Rattle.leader_prep.specs.Pages.{Page, latest_slot}
use Rattle.leader_prep.specs.Solutions.{value_of}
use Rattle.leader_prep.specs.Verdicts as verdicts
use Rattle.leader_prep.specs.Verdicts.{Verdict, first_whole, form_in, is_covered, is_same_head, is_usable, part_in, parts_of, rebuilding_by, usable_form, verdict, verdict_of_forms, verdict_of_parts, verdict_with, whole_in}
use Rattle.leader_prep.proofs.Returning.{members_of_parts, solution_of_fragments}
use Rattle.rs_code.specs.Fragments.{fragment}
use Rattle.rs_code.specs.Rebuilding.{TakenPart}
use Rattle.rs_code.specs.Roots.{AreMembers, Differs}
use Rattle.world_model.specs.Safety.{Holds, command_in}
use Rattle.world_model.specs.Traces.{Command, Proposal}
use Rattle.bridge.specs.Traced.{Holder, IsOfBytes, PageStands, StandsAt, holder}
use Rattle.bridge.proofs.Pages.{latest_stands}

-- ---- whose parts they are

differs_first : (low member : ℕ) (o : Option Form) (parts : List TakenPart) → low ≢ member → Differs low (members_of_parts parts) → Differs low (members_of_parts (part_in member o ++ parts))
differs_first low member None parts apart rest = rest
differs_first low member (Some (forms.Whole bytes)) parts apart rest = rest
differs_first low member (Some (forms.Part bytes)) parts apart rest = (apart, rest)

differs_all : (form : ℕ → Option Form) (low a n : ℕ) → low < a → Differs low (members_of_parts (parts_of form (range_with_len a n)))
differs_all form low a zero below = tt
differs_all form low a (suc n) below =
    differs_first low a (form a) (parts_of form (range_with_len (a + 1) n)) (λ e. omega (arith, e, below)) (differs_all form low (a + 1) n (omega (arith, below)))

members_first :
    (member : ℕ) (o : Option Form) (parts : List TakenPart) → member < 15 → Differs member (members_of_parts parts) → AreMembers (members_of_parts parts) →
    AreMembers (members_of_parts (part_in member o ++ parts))
members_first member None parts small apart rest = rest
members_first member (Some (forms.Whole bytes)) parts small apart rest = rest
members_first member (Some (forms.Part bytes)) parts small apart rest = (small, apart, rest)

members_all : (form : ℕ → Option Form) (a n : ℕ) → a + n ≤ 15 → AreMembers (members_of_parts (parts_of form (range_with_len a n)))
members_all form a zero most = tt
members_all form a (suc n) most =
    members_first a (form a) (parts_of form (range_with_len (a + 1) n)) (omega (arith, most)) (differs_all form a (a + 1) n (omega arith))
    (members_all form (a + 1) n (omega (arith, most)))

differs_taken : (low k : ℕ) (parts : List TakenPart) → Differs low (members_of_parts parts) → Differs low (members_of_parts (take k parts))
differs_taken low zero parts all = tt
differs_taken low (suc k) [] all = tt
differs_taken low (suc k) (part ∷ parts) all = (all.0, differs_taken low k parts all.1)

members_taken : (k : ℕ) (parts : List TakenPart) → AreMembers (members_of_parts parts) → AreMembers (members_of_parts (take k parts))
members_taken zero parts all = tt
members_taken (suc k) [] all = tt
members_taken (suc k) (part ∷ parts) all = (all.0, differs_taken part.member k parts all.1, members_taken k parts all.2)

-- ---- the value

-- entries of one term stand for one command at an index, whoever holds them
same_command :
    (one other : Holder) (book : List Proposal) (index : ℕ) (own entry : Entry) → own.term ≡ entry.term → (first : StandsAt one book index own) →
    (second : StandsAt other book index entry) → first.0 ≡ second.0
same_command one other book index own entry same first second =
    same_Some first.0 second.0 (sym first.1 ∙ ap (λ t. command_in book t index) same ∙ second.1)

abbrev pub IsValueRight : List ℕ → Verdict → Type 0
IsValueRight value verdicts.Wait = Unit {0}
IsValueRight value (verdicts.Rebuild source) = value_of source ≡ value
IsValueRight value verdicts.Cut = Unit {0}

-- a slot at an index stands at the member that showed it
abbrev pub SlotStands : Shape → List Proposal → (index member : ℕ) → Option Entry → Type 0
SlotStands shape book index member None = Unit {0}
SlotStands shape book index member (Some e) = StandsAt (holder shape member) book index e

module _
    (shape : Shape) (is : IsShape shape) (book : List Proposal) (me index : ℕ) (own : Entry) (stands : StandsAt (holder shape me) book index own)
    (bytes : IsOfBytes (stands.0)) (slot : ℕ → Option Entry) where
  abbrev value : List ℕ
  value = (stands.0).value

  abbrev IsFormRight : ℕ → Option Form → Type 0
  IsFormRight member None = Unit {0}
  IsFormRight member (Some form) = Holds shape.need member form value

  of_slot : (member : ℕ) (o : Option Entry) → SlotStands shape book index member o → IsFormRight member (form_in own o)
  of_slot member None there = tt
  of_slot member (Some e) there =
      cond_both (is_usable own e) (Some e.form) None (IsFormRight member)
      (λ counts.
      let same : own.term ≡ e.term = eqb-true own.term e.term (and_parts (own.term == e.term) (is_same_head own.head e.head) counts).0 in
      subst (λ (c : Command). Holds shape.need member e.form c.value) (sym (same_command (holder shape me) (holder shape member) book index own e same stands there)) there.2.2)
      (λ other. tt)

  module _ (slots : (member : ℕ) → SlotStands shape book index member (slot member)) where
    of_member : (member : ℕ) → IsFormRight member (usable_form me own slot member)
    of_member member =
        cond_both (member == me) (Some own.form) (form_in own (slot member)) (IsFormRight member)
        (λ same. subst (λ (m : ℕ). Holds shape.need m own.form value) (sym (eqb-true member me same)) stands.2.2) (λ other. of_slot member (slot member) (slots member))

    abbrev IsWholeRight : Option (List ℕ) → Type 0
    IsWholeRight None = Unit {0}
    IsWholeRight (Some found) = found ≡ value

    of_whole : (member : ℕ) (o : Option Form) → IsFormRight member o → IsWholeRight (whole_in o)
    of_whole member None right = tt
    of_whole member (Some (forms.Whole found)) right = right
    of_whole member (Some (forms.Part found)) right = tt

    either_right : (one other : Option (List ℕ)) → IsWholeRight one → IsWholeRight other → IsWholeRight (option_or one other)
    either_right None other first second = second
    either_right (Some found) other first second = first

    whole_right : (members : List ℕ) → IsWholeRight (first_whole (usable_form me own slot) members)
    whole_right [] = tt
    whole_right (member ∷ others) =
        either_right (whole_in (usable_form me own slot member)) (first_whole (usable_form me own slot) others)
        (of_whole member (usable_form me own slot member) (of_member member)) (whole_right others)

    abbrev IsPartRight : TakenPart → Type 0
    IsPartRight part = part.bytes ≡ fragment value shape.need part.member

    of_part : (member : ℕ) (o : Option Form) → IsFormRight member o → All IsPartRight (part_in member o)
    of_part member None right = All-nil IsPartRight
    of_part member (Some (forms.Whole found)) right = All-nil IsPartRight
    of_part member (Some (forms.Part found)) right = All-cons IsPartRight (record { member = member; bytes = found }) [] right (All-nil IsPartRight)

    parts_right : (members : List ℕ) → All IsPartRight (parts_of (usable_form me own slot) members)
    parts_right [] = All-nil IsPartRight
    parts_right (member ∷ others) =
        All-append IsPartRight (part_in member (usable_form me own slot member)) (parts_of (usable_form me own slot) others)
        (of_part member (usable_form me own slot member) (of_member member)) (parts_right others)

    by_parts : IsValueRight value (verdict_of_parts shape own (parts_of (usable_form me own slot) (members shape)))
    by_parts =
        let parts : List TakenPart = parts_of (usable_form me own slot) (members shape) in
        cond_both (nat_le shape.need (length parts)) (verdicts.Rebuild (verdicts.Parts (rebuilding_by shape own parts))) verdicts.Cut (IsValueRight value)
        (λ enough.
        solution_of_fragments (rebuilding_by shape own parts) value is.2 bytes.1 (bytes.0 ∙ sym (ap (λ head. head.vlen) stands.2.1))
        (members_taken shape.need parts (members_all (usable_form me own slot) 0 (members_of shape) (omega (arith, is.1))))
        (length-take-le shape.need parts (leb-true shape.need (length parts) enough)) (All-take IsPartRight shape.need parts (parts_right (members shape))))
        (λ few. tt)

    by_forms : (whole : Option (List ℕ)) (without : Verdict) → IsWholeRight whole → IsValueRight value without → IsValueRight value (verdict_with whole without)
    by_forms None without right rest = rest
    by_forms (Some found) without right rest = right

    -- whoever has shown what it holds there
    pub forms_right : IsValueRight value (verdict_of_forms shape own (usable_form me own slot))
    forms_right =
        by_forms (first_whole (usable_form me own slot) (members shape)) (verdict_of_parts shape own (parts_of (usable_form me own slot) (members shape)))
        (whole_right (members shape)) by_parts

    pub verdict_right : (shown : ℕ → Bool) → IsValueRight value (verdict shape me own shown slot)
    verdict_right shown =
        cond_both (is_covered shape me shown) (verdict_of_forms shape own (usable_form me own slot)) verdicts.Wait (IsValueRight value)
        (λ covered. forms_right) (λ few. tt)

-- what each member's latest page shows at an index stands at that member
pub latest_slots_stand :
    (shape : Shape) (book : List Proposal) (index : ℕ) (pages : List Page) → All (PageStands shape book) pages → (member : ℕ) →
    SlotStands shape book index member (latest_slot member pages index)
latest_slots_stand shape book index pages seen member = of_slot (latest_slot member pages index) refl where
  of_slot : (o : Option Entry) → latest_slot member pages index ≡ o → SlotStands shape book index member o
  of_slot None there = tt
  of_slot (Some slot) there = latest_stands shape book index member pages seen slot there
