-- A client's greatest number: it is that of its last effective command.
use Rattle.std.proofs.Common.{◌≡◌, ℕ, List, [], ◌∷◌, Bool, true, false, max, Option, None, Some, refl, sym, ap, ◌∙◌, inl, inr, arith}
use Rattle.std.specs.Prelude.{◌&&◌, ◌||◌, not, ◌==◌, nat_lt, if◌then◌else◌}
use Rattle.std.specs.List.{list_all}
use Rattle.std.proofs.lemmas.Bool.{and_parts, cases_Bool, eqb-true, le-ltb, lt-ltb, ltb-true, ltb-false}
use Rattle.craft_base.specs.declared.command.Head.{Head}
use Rattle.kv_apply.specs.Commands.{exceeds, greater, greatest_number, is_asked, is_effective, is_of, kept_by, kept_of, last_of, outcome}
use Rattle.kv_apply.specs.Laws.{is_below}
use Rattle.kv_apply.specs.declared.outcome.Kept.{Kept}
use Rattle.kv_apply.specs.declared.outcome.Kept.TheVariants as keeps
use Rattle.kv_apply.specs.declared.outcome.Last.{Last}
use Rattle.kv_apply.specs.declared.outcome.Outcome.{Outcome}

-- the number of what is kept, if anything is
abbrev pub number_kept : Option Last → Option ℕ
number_kept None = None
number_kept (Some last) = Some last.number

-- a command of the client more: the greatest number of them is its own where that is above the greatest so far
more : (n : ℕ) (so_far : Option ℕ) (o : Outcome) (last : Option Last) → number_kept last ≡ so_far
    → number_kept (if exceeds n so_far then Some (record { number = n; outcome = o }) else last) ≡ Some (greater n so_far)
more n None o last same = refl
more n (Some m) o last same = elim (cases_Bool (nat_lt m n)) [
  | inl above ↦ rw above (ap (λ (k : ℕ). Some k) (omega (arith, ltb-true m n above)))
  | inr below ↦ rw below (same ∙ ap (λ (k : ℕ). Some k) (omega (arith, ltb-false m n below)))
]

-- the same where it may be of another client
either : (of : Bool) (n : ℕ) (so_far own : Option ℕ) (asked : Bool) (o : Outcome) (last : Option Last) → number_kept last ≡ so_far → (of ≡ true → (asked ≡ true) × (own ≡ so_far))
    → number_kept (if of && (asked && exceeds n own) then Some (record { number = n; outcome = o }) else last) ≡ (if of then Some (greater n so_far) else so_far)
either false n so_far own asked o last same given = same
either true n so_far own asked o last same given = rw ((given refl).0, (given refl).1) (more n so_far o last same)

pub last_is_greatest : (client : ℕ) (heads : List Head) → number_kept (last_of client heads) ≡ greatest_number client heads
last_is_greatest client [] = refl
last_is_greatest client (h ∷ earlier) =
    either (is_of client h) h.seq (greatest_number client earlier) (greatest_number h.client earlier) (is_asked h) (outcome h earlier) (last_of client earlier)
    (last_is_greatest client earlier)
    (λ of. let both = and_parts (is_asked h) (h.client == client) of in (both.0, ap (λ (c : ℕ). greatest_number c earlier) (eqb-true h.client client both.1)))

abbrev pub is_new : Kept → Bool
is_new keeps.New = true
is_new _ = false

by_last : (seq : ℕ) (last : Option Last) → exceeds seq (number_kept last) ≡ is_new (kept_by seq last)
by_last seq None = refl
by_last seq (Some last) = split (nat_lt last.number seq) (nat_lt seq last.number) last.outcome where
  split : (above below : Bool) (o : Outcome) → above ≡ is_new (if above then keeps.New else (if below then keeps.Old else keeps.Same o))
  split true below o = refl
  split false true o = refl
  split false false o = refl

-- a command that is asked for is effective exactly where nothing is kept for its number
pub effective_is_new : (h : Head) (earlier : List Head) → is_asked h ≡ true → is_effective h earlier ≡ is_new (kept_of h.client h.seq earlier)
effective_is_new h earlier asked =
    ap (λ test. test && exceeds h.seq (greatest_number h.client earlier)) asked
    ∙ ap (λ greatest. exceeds h.seq greatest) (sym (last_is_greatest h.client earlier)) ∙ by_last h.seq (last_of h.client earlier)

-- ---- the greatest number

above_greater : (n seq : ℕ) (so_far : Option ℕ) → exceeds n (Some (greater seq so_far)) ≡ (nat_lt seq n && exceeds n so_far)
above_greater n seq None = sym (and_true (nat_lt seq n)) where
  and_true : (b : Bool) → (b && true) ≡ b
  and_true true = refl
  and_true false = refl
above_greater n seq (Some m) = elim (cases_Bool (nat_lt seq n)) [
  | inl below ↦ elim (cases_Bool (nat_lt m n)) [
    | inl too ↦ rw (below, too) (lt-ltb (max seq m) n (omega (arith, ltb-true seq n below, ltb-true m n too)))
    | inr not_so ↦ rw (below, not_so) (le-ltb (max seq m) n (omega (arith, ltb-false m n not_so)))
  ]
  | inr above ↦ rw above (le-ltb (max seq m) n (omega (arith, ltb-false seq n above)))
]

pub above_all_others : (client n : ℕ) (heads : List Head) → exceeds n (greatest_number client heads) ≡ list_all (is_below client n) heads
above_all_others client n [] = refl
above_all_others client n (h ∷ earlier) = by (is_of client h) (above_all_others client n earlier) where
  by : (of : Bool) → exceeds n (greatest_number client earlier) ≡ list_all (is_below client n) earlier → exceeds n (if of then Some (greater h.seq (greatest_number client earlier)) else greatest_number client earlier)
      ≡ ((not of || nat_lt h.seq n) && list_all (is_below client n) earlier)
  by true same = above_greater n h.seq (greatest_number client earlier) ∙ ap (λ rest. nat_lt h.seq n && rest) same
  by false same = same
