-- The map takes each number of a client once.
use Rattle.std.proofs.Common.{◌≡◌, ℕ, List, [], ◌∷◌, Bool, true, false, max, Option, None, Some, refl, sym, ap, ◌∙◌, inl, inr, arith}
use Rattle.std.specs.Prelude.{◌&&◌, ◌==◌, nat_lt, if◌then◌else◌}
use Rattle.std.proofs.lemmas.Bool.{and_parts, and_right, cases_Bool, eq-eqb, eqb-true, le-ltb, ltb-true, ltb-false, lt-ltb, true≢false}
use Rattle.craft_base.specs.declared.command.Head.{Head}
use Rattle.kv_apply.specs.Commands.{answer, answer_by, exceeds, greater, greatest_number, is_asked, is_effective, is_of, kept_by, kept_of, last_of, map_outcome, outcome}
use Rattle.kv_apply.specs.Laws.{IsAnswer, IsKept, is_outrun}
use Rattle.kv_apply.specs.declared.outcome.Kept.{Kept}
use Rattle.kv_apply.specs.declared.outcome.Kept.TheVariants as keeps
use Rattle.kv_apply.specs.declared.outcome.Last.{Last}
use Rattle.kv_apply.specs.declared.outcome.Outcome.{Outcome}
use Rattle.kv_apply.specs.declared.outcome.Outcome.TheVariants.{Nothing, Old}
use Rattle.kv_apply.proofs.Numbers.{last_is_greatest, number_kept}

-- ---- what is kept

-- the outcome that is kept is that of the number
abbrev IsTold : (ℕ → Option Outcome) → Option Last → Type 0
IsTold told None = Unit {0}
IsTold told (Some last) = told last.number ≡ Some last.outcome

told_with : (of effect : Bool) (n : ℕ) (o : Outcome) (last : Option Last) (told : ℕ → Option Outcome) → IsTold told last
    → IsTold (λ seq. if of && ((n == seq) && effect) then Some o else told seq) (if of && effect then Some (record { number = n; outcome = o }) else last)
told_with false effect n o None told was = was
told_with false effect n o (Some last) told was = was
told_with true true n o last told was = rw (eq-eqb n n refl) refl
told_with true false n o None told was = was
told_with true false n o (Some last) told was = rw (and_right (n == last.number) false refl) was

kept_is_told : (client : ℕ) (heads : List Head) → IsTold (λ seq. map_outcome client seq heads) (last_of client heads)
kept_is_told client [] = record {}
kept_is_told client (h ∷ earlier) =
    told_with (is_of client h) (is_effective h earlier) h.seq (outcome h earlier) (last_of client earlier) (λ seq. map_outcome client seq earlier) (kept_is_told client earlier)

kept_by_last : (client seq : ℕ) (heads : List Head) (last : Option Last) → number_kept last ≡ greatest_number client heads → IsTold (λ n. map_outcome client n heads) last
    → IsKept client seq heads (kept_by seq last)
kept_by_last client seq heads None same told = ap (exceeds seq) (sym same)
kept_by_last client seq heads (Some last) same told = elim (cases_Bool (nat_lt last.number seq)) [
  | inl above ↦ rw above (ap (exceeds seq) (sym same) ∙ above)
  | inr no_more ↦ rw no_more (elim (cases_Bool (nat_lt seq last.number)) [
    | inl below ↦ rw below (ap (is_outrun seq) (sym same) ∙ below)
    | inr no_less ↦
        let one : last.number ≡ seq = omega (arith, ltb-false last.number seq no_more, ltb-false seq last.number no_less) in
        rw no_less (sym same ∙ ap (λ (n : ℕ). Some n) one, ap (λ (n : ℕ). map_outcome client n heads) (sym one) ∙ told)
  ])
]

pub kept_is_kept : (client seq : ℕ) (heads : List Head) → IsKept client seq heads (kept_of client seq heads)
kept_is_kept client seq heads = kept_by_last client seq heads (last_of client heads) (last_is_greatest client heads) (kept_is_told client heads)

-- ---- what is answered

-- it is its own client's
own : (h : Head) → is_asked h ≡ true → is_of h.client h ≡ true
own h asked = rw (asked, eq-eqb h.client h.client refl) refl

-- what there is with one command more
greatest_with : (h : Head) (earlier : List Head) → is_asked h ≡ true → greatest_number h.client (h ∷ earlier) ≡ Some (greater h.seq (greatest_number h.client earlier))
greatest_with h earlier asked = rw (own h asked) refl

outcome_with : (h : Head) (earlier : List Head) (effect : Bool) → is_asked h ≡ true → is_effective h earlier ≡ effect
    → map_outcome h.client h.seq (h ∷ earlier) ≡ (if effect then Some (outcome h earlier) else map_outcome h.client h.seq earlier)
outcome_with h earlier effect asked is = rw (own h asked, eq-eqb h.seq h.seq refl, is) refl

not_outrun : (n : ℕ) (so_far : Option ℕ) → is_outrun n so_far ≡ false → is_outrun n (Some (greater n so_far)) ≡ false
not_outrun n None small = le-ltb n n (omega arith)
not_outrun n (Some m) small = le-ltb n (max n m) (omega (arith, ltb-false n m small))

outrun : (n : ℕ) (so_far : Option ℕ) → is_outrun n so_far ≡ true → is_outrun n (Some (greater n so_far)) ≡ true
outrun n (Some m) great = lt-ltb n (max n m) (omega (arith, ltb-true n m great))
outrun n None great = absurd (true≢false (sym great))

-- a number above the others isn't outrun
above_all : (n : ℕ) (so_far : Option ℕ) → exceeds n so_far ≡ true → is_outrun n so_far ≡ false
above_all n None above = refl
above_all n (Some m) above = le-ltb n m (omega (arith, ltb-true m n above))

below_one : (n : ℕ) (so_far : Option ℕ) → is_outrun n so_far ≡ true → exceeds n so_far ≡ false
below_one n None below = absurd (true≢false (sym below))
below_one n (Some m) below = le-ltb m n (omega (arith, ltb-true n m below))

effect_of : (h : Head) (earlier : List Head) (above : Bool) → is_asked h ≡ true → exceeds h.seq (greatest_number h.client earlier) ≡ above → is_effective h earlier ≡ above
effect_of h earlier above asked is = rw (asked, is) refl

module _ (h : Head) (earlier : List Head) (asked : is_asked h ≡ true) where
  given : (kept : Kept) → IsKept h.client h.seq earlier kept
      → (is_outrun h.seq (greatest_number h.client (h ∷ earlier)) ≡ true → answer_by kept (outcome h earlier) ≡ Old)
      × (is_outrun h.seq (greatest_number h.client (h ∷ earlier)) ≡ false → map_outcome h.client h.seq (h ∷ earlier) ≡ Some (answer_by kept (outcome h earlier)))
  given keeps.New is = (
    λ great. absurd (true≢false (sym great ∙ ap (is_outrun h.seq) (greatest_with h earlier asked) ∙ not_outrun h.seq _ (above_all h.seq _ is))),
    λ small. outcome_with h earlier true asked (effect_of h earlier true asked is),
  )
  given (keeps.Same o) is =
      let level : is_outrun h.seq (greatest_number h.client earlier) ≡ false = ap (is_outrun h.seq) is.0 ∙ le-ltb h.seq h.seq (omega arith) in
      let none : exceeds h.seq (greatest_number h.client earlier) ≡ false = ap (exceeds h.seq) is.0 ∙ le-ltb h.seq h.seq (omega arith) in (
        λ great. absurd (true≢false (sym great ∙ ap (is_outrun h.seq) (greatest_with h earlier asked) ∙ not_outrun h.seq _ level)),
        λ small. outcome_with h earlier false asked (effect_of h earlier false asked none) ∙ is.1,
      )
  given keeps.Old is = (
    λ great. refl,
    λ small. absurd (true≢false (sym (outrun h.seq _ is) ∙ sym (ap (is_outrun h.seq) (greatest_with h earlier asked)) ∙ small)),
  )

pub answered_by_one_map : (h : Head) (earlier : List Head) → IsAnswer h (h ∷ earlier) (answer h earlier)
answered_by_one_map h earlier = record {
  noop = λ none. rw none refl;
  old = λ asked great. ap (λ test. if test then answer_by (kept_of h.client h.seq earlier) (outcome h earlier) else Nothing) asked ∙ (given h earlier asked _ (kept_is_kept h.client h.seq earlier)).0 great;
  told = λ asked small. (given h earlier asked _ (kept_is_kept h.client h.seq earlier)).1 small
      ∙ ap (λ test. Some (if test then answer_by (kept_of h.client h.seq earlier) (outcome h earlier) else Nothing)) (sym asked);
}

-- ---- what stays

-- no number above those of the client has come
taken_step : (of effect : Bool) (n seq : ℕ) (so_far : Option ℕ) (o : Outcome) (rest : Option Outcome) (found : Outcome) → (rest ≡ Some found → exceeds seq so_far ≡ false)
    → (if of && ((n == seq) && effect) then Some o else rest) ≡ Some found → exceeds seq (if of then Some (greater n so_far) else so_far) ≡ false
taken_step false effect n seq so_far o rest found before is = before is
taken_step true effect n seq None o rest found before is = elim (cases_Bool (n == seq)) [
  | inl same ↦ le-ltb n seq (omega (arith, eqb-true n seq same))
  | inr other ↦ absurd (true≢false (before (sym (ap (λ test. if test && effect then Some o else rest) other) ∙ is)))
]
taken_step true effect n seq (Some m) o rest found before is = elim (cases_Bool (n == seq)) [
  | inl same ↦ le-ltb (max n m) seq (omega (arith, eqb-true n seq same))
  | inr other ↦ le-ltb (max n m) seq (omega (arith, ltb-false m seq (before (sym (ap (λ test. if test && effect then Some o else rest) other) ∙ is))))
]

taken : (client seq : ℕ) (heads : List Head) (found : Outcome) → map_outcome client seq heads ≡ Some found → exceeds seq (greatest_number client heads) ≡ false
taken client seq [] found is = absurd (none_is_not_some is) where
  is_none : Option Outcome → Bool
  is_none None = true
  is_none (Some o) = false

  none_is_not_some : None ≡ Some found → ⊥
  none_is_not_some same = true≢false (ap is_none same)
taken client seq (h ∷ earlier) found is =
    taken_step (is_of client h) (is_effective h earlier) h.seq seq (greatest_number client earlier) (outcome h earlier) (map_outcome client seq earlier) found (taken client seq earlier found) is

pub outcome_stays : (client seq : ℕ) (h : Head) (earlier : List Head) (found : Outcome) → map_outcome client seq earlier ≡ Some found → map_outcome client seq (h ∷ earlier) ≡ Some found
outcome_stays client seq h earlier found is = by (is_asked h) (h.client == client) (h.seq == seq) (exceeds h.seq (greatest_number h.client earlier)) (λ of same.
    ap (λ (c : ℕ). exceeds h.seq (greatest_number c earlier)) (eqb-true h.client client of)
    ∙ ap (λ (n : ℕ). exceeds n (greatest_number client earlier)) (eqb-true h.seq seq same) ∙ taken client seq earlier found is) where
      by : (asked of same above : Bool) → (of ≡ true → same ≡ true → above ≡ false)
          → (if (asked && of) && (same && (asked && above)) then Some (outcome h earlier) else map_outcome client seq earlier) ≡ Some found
      by false of same above none = is
      by true false same above none = is
      by true true false above none = is
      by true true true above none = rw (none refl refl) is

-- and no later command of the client takes effect with that number
pub no_second : (client seq : ℕ) (h : Head) (earlier : List Head) (found : Outcome) → map_outcome client seq earlier ≡ Some found → is_of client h ≡ true → h.seq ≡ seq
    → is_effective h earlier ≡ false
no_second client seq h earlier found is of same =
    let client_is : h.client ≡ client = eqb-true h.client client (and_parts (is_asked h) (h.client == client) of).1 in
    let below : exceeds h.seq (greatest_number h.client earlier) ≡ false =
    ap (λ (c : ℕ). exceeds h.seq (greatest_number c earlier)) client_is ∙ ap (λ (n : ℕ). exceeds n (greatest_number client earlier)) same ∙ taken client seq earlier found is in
    elim (cases_Bool (is_asked h)) [
      | inl asked ↦ ap (λ test. test && exceeds h.seq (greatest_number h.client earlier)) asked ∙ below
      | inr none ↦ ap (λ test. test && exceeds h.seq (greatest_number h.client earlier)) none
    ]
