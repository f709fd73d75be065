-- Slots at their places.
use Rattle.std.proofs.Common.{◌≡◌, ℕ, ◌+◌, ◌<◌, ◌≤◌, List, length, get_or, Bool, true, false, Option, None, Some, refl, ap, sym, ◌∙◌, arith, subst}
use Rattle.std.specs.Prelude.{◌==◌, ◌&&◌, if◌then◌else◌, slice_set}
use Rattle.std.specs.Option.{option_or}
use Rattle.std.proofs.lemmas.Bool.{eq-eqb, eqb-true, eqb-false}
use Rattle.std.proofs.lemmas.Grind.{get_or-set_at}
use Rattle.std.proofs.lemmas.List.{get_or-set_other, length-set}
use Rattle.std.proofs.lemmas.Option.{none-some}
use Rattle.craft_base.specs.declared.command.Entry.{Entry}
use Rattle.entry_frames.specs.Views.{IsInRange}
use Rattle.leader_prep.specs.Changes.{AreNear, KeepsOne, Puts, shown_one}
use Rattle.leader_prep.specs.Keeping.{AreKept, IsKeptInRange, KeptSlots, entry_in, place_of, slot_at}
use Rattle.leader_prep.specs.declared.slots.Slot.{Slot}

-- nothing stands there
pub none_kept : (k : ℕ) (places : List (Option Slot)) → length places ≡ 120 → ((place : ℕ) → get_or places place None ≡ None) → AreKept (record { k = k; places = places })
none_kept k places long none = record {
  all = long;
  in_range = λ place. subst (IsKeptInRange k) (sym (none place)) tt;
}

pub nothing_at : (places : List (Option Slot)) → ((place : ℕ) → get_or places place None ≡ None) → (member index : ℕ) → slot_at places member index ≡ None
nothing_at places none member index = ap (entry_in index) (none (place_of member index))

-- one more stands there
pub put_kept : (kept : KeptSlots) (place : ℕ) (slot : Slot) → AreKept kept → place < 120 → IsInRange (record { k = kept.k; entry = slot.entry })
    → AreKept (record { k = kept.k; places = slice_set kept.places place (Some slot) })
put_kept kept place slot are within in_range = record {
  all = length-set kept.places place (Some slot) ∙ are.all;
  in_range = λ other. at other (other == place) refl;
} where
  at : (other : ℕ) (same : Bool) → (other == place) ≡ same → IsKeptInRange kept.k (get_or (slice_set kept.places place (Some slot)) other None)
  at other true e =
      let long : length kept.places ≡ 120 = are.all in
      let inside : place < length kept.places = omega (arith, within, long) in
      subst (IsKeptInRange kept.k) (sym (get_or-set_at kept.places place other (Some slot) None (eqb-true other place e) inside)) in_range
  at other false e = subst (IsKeptInRange kept.k) (sym (get_or-set_other kept.places place other (Some slot) None (eqb-false other place e))) (are.in_range other)

pub puts : (old : KeptSlots) (k sender index at_place : ℕ) (entry : Entry) (slot : Slot) → length old.places ≡ 120 → at_place ≡ place_of sender index → at_place < 120
    → slot ≡ record { index = index; entry = entry }
    → Puts old (record { k = k; places = slice_set old.places at_place (Some slot) }) sender index entry
puts old k sender index at_place entry slot long is within made member at =
    by (place_of member at == place_of sender index) refl where
      by : (same : Bool) → (place_of member at == place_of sender index) ≡ same
          → slot_at (slice_set old.places at_place (Some slot)) member at ≡ (if same then (if index == at then Some entry else None) else slot_at old.places member at)
      by true e =
          let here : place_of member at ≡ at_place = eqb-true _ _ e ∙ sym is in
          let inside : at_place < length old.places = omega (arith, within, long) in
          ap (entry_in at) (get_or-set_at old.places at_place (place_of member at) (Some slot) None here inside)
          ∙ ap (λ (s : Slot). entry_in at (Some s)) made
      by false e =
          ap (entry_in at) (get_or-set_other old.places at_place (place_of member at) (Some slot) None (λ same. eqb-false _ _ e (same ∙ is)))

-- ---- eight places of a member

same_place : (member sender at index : ℕ) → place_of member at ≡ place_of sender index → at < index + 8 → index < at + 8 → (member ≡ sender) × (at ≡ index)
same_place member sender at index e low high = (omega arith, omega arith)

same_member : (member sender at index : ℕ) → place_of member at ≡ place_of sender index → member ≡ sender
same_member member sender at index e = omega arith

-- ---- one slot

not_there : (sender index member at : ℕ) (entry : Entry) → (member ≡ sender → at ≡ index → ⊥) → shown_one sender index entry member at ≡ None
not_there sender index member at entry none = by (sender == member) (index == at) refl refl where
  by : (one other : Bool) → (sender == member) ≡ one → (index == at) ≡ other → shown_one sender index entry member at ≡ None
  by true true e f = absurd (none (sym (eqb-true _ _ e)) (sym (eqb-true _ _ f)))
  by true false e f = ap (λ (b : Bool). if ((sender == member) && b) then Some entry else None) f ∙ ap (λ (b : Bool). if (b && false) then Some entry else None) e
  by false other e f = ap (λ (b : Bool). if (b && (index == at)) then Some entry else None) e

is_there : (sender index member at : ℕ) (entry : Entry) → member ≡ sender → at ≡ index → shown_one sender index entry member at ≡ Some entry
is_there sender index member at entry m i =
    ap (λ (b : Bool). if (b && (index == at)) then Some entry else None) (eq-eqb sender member (sym m))
    ∙ ap (λ (b : Bool). if b then Some entry else None) (eq-eqb index at (sym i))

-- below the cursor nothing is kept
pub kept_below : (old : KeptSlots) (cursor sender index : ℕ) (entry : Entry) → index < cursor → KeepsOne old old cursor sender index entry
kept_below old cursor sender index entry below = record {
  near = λ near. near;
  slots = λ near member at above.
      sym (ap (λ (o : Option Entry). option_or o (slot_at old.places member at)) (not_there sender index member at entry (λ m same. omega (arith, same, below, above))));
}

-- what is put near the cursor is kept
pub kept_put : (old new : KeptSlots) (cursor sender index : ℕ) (entry : Entry) → Puts old new sender index entry → cursor ≤ index → index < cursor + 8
    → KeepsOne old new cursor sender index entry
kept_put old new cursor sender index entry put above within = record {
  near = λ near member at e is. near_then near member at e (place_of member at == place_of sender index) refl (index == at) refl (sym (put member at) ∙ is);
  slots = λ near member at low. slots_then near member at low (place_of member at == place_of sender index) refl (index == at) refl;
} where
  near_then : AreNear old cursor → (member at : ℕ) (e : Entry) (same : Bool) → (place_of member at == place_of sender index) ≡ same → (here : Bool) → (index == at) ≡ here
      → (if (place_of member at == place_of sender index) then (if (index == at) then Some entry else None) else slot_at old.places member at) ≡ Some e → at < cursor + 8
  near_then near member at e true p true i is = omega (arith, eqb-true index at i, within)
  near_then near member at e true p false i is =
      absurd (none-some e (sym (ap (λ (b : Bool). if b then (if (index == at) then Some entry else None) else slot_at old.places member at) p
      ∙ ap (λ (b : Bool). if b then Some entry else None) i) ∙ is))
  near_then near member at e false p here i is =
      near member at e (sym (ap (λ (b : Bool). if b then (if (index == at) then Some entry else None) else slot_at old.places member at) p) ∙ is)

  none_before : AreNear old cursor → (member at : ℕ) → cursor ≤ at → place_of member at ≡ place_of sender index → (at ≡ index → ⊥) → (o : Option Entry)
      → slot_at old.places member at ≡ o → o ≡ None
  none_before near member at low p other None is = refl
  none_before near member at low p other (Some e) is =
      let below : at < cursor + 8 = near member at e is in
      absurd (other (same_place member sender at index p (omega (arith, below, above)) (omega (arith, within, low))).1)

  slots_then : AreNear old cursor → (member at : ℕ) → cursor ≤ at → (same : Bool) → (place_of member at == place_of sender index) ≡ same → (here : Bool) → (index == at) ≡ here
      → slot_at new.places member at ≡ option_or (shown_one sender index entry member at) (slot_at old.places member at)
  slots_then near member at low true p true i =
      put member at ∙ ap (λ (b : Bool). if b then (if (index == at) then Some entry else None) else slot_at old.places member at) p
      ∙ ap (λ (b : Bool). if b then Some entry else None) i
      ∙ sym (ap (λ (o : Option Entry). option_or o (slot_at old.places member at))
      (is_there sender index member at entry (same_member member sender at index (eqb-true _ _ p)) (sym (eqb-true _ _ i))))
  slots_then near member at low true p false i =
      put member at ∙ ap (λ (b : Bool). if b then (if (index == at) then Some entry else None) else slot_at old.places member at) p
      ∙ ap (λ (b : Bool). if b then Some entry else None) i
      ∙ sym (ap (λ (o : Option Entry). option_or o (slot_at old.places member at)) (not_there sender index member at entry (λ m same. eqb-false _ _ i (sym same)))
      ∙ none_before near member at low (eqb-true _ _ p) (λ same. eqb-false _ _ i (sym same)) (slot_at old.places member at) refl)
  slots_then near member at low false p here i =
      put member at ∙ ap (λ (b : Bool). if b then (if (index == at) then Some entry else None) else slot_at old.places member at) p
      ∙ sym (ap (λ (o : Option Entry). option_or o (slot_at old.places member at))
      (not_there sender index member at entry (λ m same. eqb-false _ _ p (ap (λ (n : ℕ). place_of n at) m ∙ ap (λ (n : ℕ). place_of sender n) same))))
