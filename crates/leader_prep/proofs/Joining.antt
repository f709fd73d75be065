-- The slots of a page, one after the other.
use Rattle.std.proofs.Common.{◌≡◌, ℕ, zero, suc, ◌+◌, ◌-◌, ◌<◌, ◌≤◌, List, [], ◌∷◌, length, take, Bool, true, false, Option, None, Some, refl, ap, sym, ◌∙◌, arith, subst, inl, inr}
use Rattle.std.specs.Prelude.{◌==◌, ◌&&◌, if◌then◌else◌, nat_le, slice_get}
use Rattle.std.specs.Option.{option_or}
use Rattle.std.proofs.lemmas.Bool.{cases_lt, eq-eqb, eqb-true, eqb-false, ne_eqb, le-leb, leb-true, true≢false}
use Rattle.craft_base.specs.declared.command.Entry.{Entry}
use Rattle.leader_prep.specs.Changes.{Keeps, KeepsPage, shown_one}
use Rattle.leader_prep.specs.Keeping.{KeptSlots, slot_at}
use Rattle.leader_prep.specs.Pages.{Page, slot_in, slot_of}

-- a page with its first slots alone
abbrev pub first_slots : ℕ → Page → Page
first_slots n page = record page { slots = take n page.slots }

nested : (a b c : Option Entry) → option_or a (option_or b c) ≡ option_or (option_or a b) c
nested None b c = refl
nested (Some x) b c = refl

-- one thing kept after the other
pub keeps_then : (a b c : KeptSlots) (cursor : ℕ) (f g h : ℕ → ℕ → Option Entry) → Keeps a b cursor f → Keeps b c cursor g
    → ((member at : ℕ) → h member at ≡ option_or (g member at) (f member at)) → Keeps a c cursor h
keeps_then a b c cursor f g h first second both = record {
  near = λ near. second.near (first.near near);
  slots = λ near member at low.
      second.slots (first.near near) member at low ∙ ap (option_or (g member at)) (first.slots near member at low)
      ∙ nested (g member at) (f member at) (slot_at a.places member at)
      ∙ sym (ap (λ (o : Option Entry). option_or o (slot_at a.places member at)) (both member at));
}

-- nothing is kept
pub keeps_nothing : (a : KeptSlots) (cursor : ℕ) (f : ℕ → ℕ → Option Entry) → ((member at : ℕ) → f member at ≡ None) → Keeps a a cursor f
keeps_nothing a cursor f none = record {
  near = λ near. near;
  slots = λ near member at low. sym (ap (λ (o : Option Entry). option_or o (slot_at a.places member at)) (none member at));
}

-- ---- the slots of a list

get_first : {A : Type 0} (xs : List A) (n i : ℕ) → i < n → slice_get (take n xs) i ≡ slice_get xs i
get_first xs zero i below = absurd (omega (arith, below))
get_first [] (suc n) i below = refl
get_first (x ∷ xs) (suc n) zero below = refl
get_first (x ∷ xs) (suc n) (suc i) below = get_first xs n i (omega (arith, below))

get_none : {A : Type 0} (xs : List A) (n i : ℕ) → n ≤ i → slice_get (take n xs) i ≡ None
get_none xs zero i past = refl
get_none [] (suc n) i past = refl
get_none (x ∷ xs) (suc n) zero past = absurd (omega (arith, past))
get_none (x ∷ xs) (suc n) (suc i) past = get_none xs n i (omega (arith, past))

-- ---- one slot more

none_first : (page : Page) (index : ℕ) → slot_in (first_slots 0 page) index ≡ None
none_first page index = by (nat_le page.start index) where
  by : (within : Bool) → (if within then slice_get (take 0 page.slots) (index - page.start) else None) ≡ None
  by true = refl
  by false = refl

pub no_slots : (page : Page) (member index : ℕ) → slot_of member (first_slots 0 page) index ≡ None
no_slots page member index = by (page.sender == member) where
  by : (same : Bool) → (if same then slot_in (first_slots 0 page) index else None) ≡ None
  by true = none_first page index
  by false = refl

shown_here : (index at : ℕ) → Entry → Option Entry
shown_here index at e = if index == at then Some e else None

one_in : (page : Page) (n index at : ℕ) (e : Entry) → slice_get page.slots n ≡ Some e → index ≡ page.start + n
    → slot_in (first_slots (n + 1) page) at ≡ option_or (shown_here index at e) (slot_in (first_slots n page) at)
unfolding shown_here
one_in page n index at e there is = by (nat_le page.start at) refl where
  other : (at ≡ index → ⊥) → (index == at) ≡ false
  other none = ne_eqb index at (λ same. none (sym same))

  none_here : (o : Option Entry) → (at ≡ index → ⊥) → o ≡ option_or (if index == at then Some e else None) o
  none_here o none = sym (ap (λ (b : Bool). option_or (if b then Some e else None) o) (other none))

  inside : page.start ≤ at → (i : ℕ) → i ≡ at - page.start
      → slice_get (take (n + 1) page.slots) i ≡ option_or (if index == at then Some e else None) (slice_get (take n page.slots) i)
  inside low i same = elim (cases_lt i n) [
    | inl below ↦
        get_first page.slots (n + 1) i (omega (arith, below)) ∙ sym (get_first page.slots n i below)
        ∙ none_here (slice_get (take n page.slots) i) (λ hit. omega (arith, hit, below, same, low, is))
    | inr past ↦ at_or_past low i same past (i == n) refl
  ] where
    at_or_past : page.start ≤ at → (i : ℕ) → i ≡ at - page.start → n ≤ i → (hit : Bool) → (i == n) ≡ hit
        → slice_get (take (n + 1) page.slots) i ≡ option_or (if index == at then Some e else None) (slice_get (take n page.slots) i)
    at_or_past low i same past true h =
        let last : i ≡ n = eqb-true i n h in
        let place : index ≡ at = omega (arith, last, same, low, is) in
        get_first page.slots (n + 1) i (omega (arith, last)) ∙ ap (slice_get page.slots) last ∙ there
        ∙ sym (ap (λ (b : Bool). option_or (if b then Some e else None) (slice_get (take n page.slots) i)) (eq-eqb index at place))
    at_or_past low i same past false h =
        get_none page.slots (n + 1) i (omega (arith, past, eqb-false i n h)) ∙ sym (get_none page.slots n i past)
        ∙ none_here (slice_get (take n page.slots) i) (λ hit. eqb-false i n h (omega (arith, hit, same, low, is)))

  by : (low : Bool) → nat_le page.start at ≡ low
      → (if low then slice_get (take (n + 1) page.slots) (at - page.start) else None)
      ≡ option_or (if index == at then Some e else None) (if low then slice_get (take n page.slots) (at - page.start) else None)
  by true l = inside (leb-true _ _ l) (at - page.start) refl
  by false l = none_here None (λ hit. true≢false (sym (le-leb page.start at (omega (arith, hit, is))) ∙ l))

-- one slot more of a page
pub one_slot_more : (page : Page) (n index : ℕ) (e : Entry) → slice_get page.slots n ≡ Some e → index ≡ page.start + n → (member at : ℕ)
    → slot_of member (first_slots (n + 1) page) at ≡ option_or (shown_one page.sender index e member at) (slot_of member (first_slots n page) at)
unfolding shown_here
one_slot_more page n index e there is member at = by (page.sender == member) where
  by : (same : Bool) → (if same then slot_in (first_slots (n + 1) page) at else None)
      ≡ option_or (if (same && (index == at)) then Some e else None) (if same then slot_in (first_slots n page) at else None)
  by true = one_in page n index at e there is
  by false = refl

-- all slots of a page
pub all_slots : (old new : KeptSlots) (cursor n : ℕ) (page : Page) → length page.slots ≤ n → Keeps old new cursor (λ member at. slot_of member (first_slots n page) at)
    → KeepsPage old new cursor page
all_slots old new cursor n page all kept =
    subst (λ (slots : List Entry). Keeps old new cursor (λ member at. slot_of member (record page { slots = slots }) at)) (whole page.slots n all) kept
  where
    whole : (xs : List Entry) (m : ℕ) → length xs ≤ m → take m xs ≡ xs
    whole [] zero h = refl
    whole [] (suc m) h = refl
    whole (x ∷ xs) zero h = absurd (omega (arith, h))
    whole (x ∷ xs) (suc m) h = ap (λ ys. x ∷ ys) (whole xs m (omega (arith, h)))
