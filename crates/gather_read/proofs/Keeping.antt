-- Slots at the places of their members.
use Rattle.std.proofs.Common.{◌≡◌, ℕ, ◌<◌, List, length, get_or, Bool, true, false, Option, None, Some, refl, ap, sym, ◌∙◌, arith, subst}
use Rattle.std.specs.Prelude.{◌==◌, if◌then◌else◌, slice_set}
use Rattle.std.specs.Option.{option_or}
use Rattle.std.proofs.lemmas.Bool.{eqb-true, eqb-false}
use Rattle.std.proofs.lemmas.Grind.{get_or-set_at}
use Rattle.std.proofs.lemmas.List.{get_or-set_other, length-set}
use Rattle.craft_base.specs.declared.command.Entry.{Entry}
use Rattle.entry_frames.specs.Views.{IsInRange}
use Rattle.gather_read.specs.Keeping.{AreKept, IsKeptInRange, KeptSlots, kept_slot}
use Rattle.leader_prep.specs.Pages.{Page, slot_in, slot_of}

-- nothing stands there
pub none_kept : (k : ℕ) (places : List (Option Entry)) → length places ≡ 15 → ((place : ℕ) → get_or places place None ≡ None) → AreKept (record { k = k; places = places })
none_kept k places long none = record {
  all = long;
  in_range = λ member. subst (IsKeptInRange k) (sym (none member)) tt;
}

-- one more stands there
pub put_kept : (kept : KeptSlots) (place : ℕ) (entry : Entry) → AreKept kept → place < 15 → IsInRange (record { k = kept.k; entry = entry })
    → AreKept (record { k = kept.k; places = slice_set kept.places place (Some entry) })
put_kept kept place entry are within in_range = record {
  all = length-set kept.places place (Some entry) ∙ are.all;
  in_range = λ other. at other (other == place) refl;
} where
  at : (other : ℕ) (same : Bool) → (other == place) ≡ same → IsKeptInRange kept.k (get_or (slice_set kept.places place (Some entry)) other None)
  at other true e =
      let long : length kept.places ≡ 15 = are.all in
      let inside : place < length kept.places = omega (arith, within, long) in
      subst (IsKeptInRange kept.k) (sym (get_or-set_at kept.places place other (Some entry) None (eqb-true other place e) inside)) in_range
  at other false e = subst (IsKeptInRange kept.k) (sym (get_or-set_other kept.places place other (Some entry) None (eqb-false other place e))) (are.in_range other)

pub puts : (old : KeptSlots) (place sender : ℕ) (entry shown : Entry) → length old.places ≡ 15 → place ≡ sender → sender < 15 → entry ≡ shown → (member : ℕ)
    → get_or (slice_set old.places place (Some entry)) member None ≡ (if sender == member then Some shown else kept_slot old member)
puts old place sender entry shown long is within made member = by (sender == member) refl where
  by : (same : Bool) → (sender == member) ≡ same
      → get_or (slice_set old.places place (Some entry)) member None ≡ (if same then Some shown else kept_slot old member)
  by true e =
      let inside : place < length old.places = omega (arith, within, long, is) in
      get_or-set_at old.places place member (Some entry) None (sym (is ∙ eqb-true sender member e)) inside ∙ ap (λ (x : Entry). Some x) made
  by false e = get_or-set_other old.places place member (Some entry) None (λ same. eqb-false sender member e (sym (same ∙ is)))

-- what is put where a page shows it is the slot of the page
pub keeps_shown : (old new : KeptSlots) (page : Page) (index : ℕ) (entry : Entry) → slot_in page index ≡ Some entry
    → ((member : ℕ) → kept_slot new member ≡ (if page.sender == member then Some entry else kept_slot old member)) → (member : ℕ)
    → kept_slot new member ≡ option_or (slot_of member page index) (kept_slot old member)
keeps_shown old new page index entry shown put member = put member ∙ by (page.sender == member) where
  by : (same : Bool) → (if same then Some entry else kept_slot old member) ≡ option_or (if same then slot_in page index else None) (kept_slot old member)
  by true = sym (ap (λ (o : Option Entry). option_or o (kept_slot old member)) shown)
  by false = refl

-- where it shows nothing, nothing changes
pub keeps_nothing : (old : KeptSlots) (page : Page) (index : ℕ) → slot_in page index ≡ None → (member : ℕ)
    → kept_slot old member ≡ option_or (slot_of member page index) (kept_slot old member)
keeps_nothing old page index none member = by (page.sender == member) where
  by : (same : Bool) → kept_slot old member ≡ option_or (if same then slot_in page index else None) (kept_slot old member)
  by true = sym (ap (λ (o : Option Entry). option_or o (kept_slot old member)) none)
  by false = refl
