-- The first of some numbers in a row that passes a test, and the start that it makes.
use Rattle.std.proofs.Common.{◌≡◌, ℕ, zero, suc, ◌+◌, ◌-◌, ◌<◌, ◌≤◌, List, length, Bool, true, false, not, Option, None, Some, refl, sym, ap, subst, ◌∙◌, arith, inl, inr, ◌⊎◌}
use Rattle.std.specs.List.{find, range_with_len}
use Rattle.std.proofs.lemmas.Bool.{cases_lt, cond_both}
use Rattle.craft_base.specs.Knowledge.{Heard, is_held_whole, next_index}
use Rattle.craft_base.specs.declared.command.Entry.{Entry}
use Rattle.coded_append.specs.Laws.{IsStart}
use Rattle.coded_append.specs.Starts.{first_lacking, no_later_than}

-- what is found among n numbers from a on
abbrev IsFirst : (ℕ → Bool) → (a n : ℕ) → Option ℕ → Type 0
IsFirst p a n None = (i : ℕ) → a ≤ i → i < a + n → p i ≡ false
IsFirst p a n (Some x) = (a ≤ x) × (x < a + n) × (p x ≡ true) × ((i : ℕ) → a ≤ i → i < x → p i ≡ false)

module _ (p : ℕ → Bool) where
  fails_from : (a i : ℕ) → p a ≡ false → a ≤ i → (a + 1 ≤ i → p i ≡ false) → p i ≡ false
  fails_from a i here from later = one (cases_lt a i) where
    one : (a < i) ⊎ (i ≤ a) → p i ≡ false
    one (inl above) = later (omega (arith, above))
    one (inr below) =
        let same : a ≡ i = omega (arith, below, from) in
        subst (λ (j : ℕ). p j ≡ false) same here

  after_one : (a n : ℕ) (o : Option ℕ) → p a ≡ false → IsFirst p (a + 1) n o → IsFirst p a (suc n) o
  after_one a n None here is = λ i from below. fails_from a i here from (λ above. is i above (omega (arith, below)))
  after_one a n (Some x) here is =
      (omega (arith, is.0), omega (arith, is.1), is.2, λ i from below. fails_from a i here from (λ above. is.3 i above below))

  first_is : (a n : ℕ) → IsFirst p a n (find p (range_with_len a n))
  first_is a zero = λ i from below. absurd (omega (arith, from, below))
  first_is a (suc n) =
      cond_both (p a) (Some a) (find p (range_with_len (a + 1) n)) (IsFirst p a (suc n))
      (λ passes. (omega arith, omega arith, passes, λ i from below. absurd (omega (arith, from, below))))
      (λ fails. after_one a n (find p (range_with_len (a + 1) n)) fails (first_is (a + 1) n))

not_false : (b : Bool) → not b ≡ false → b ≡ true
not_false true is = refl
not_false false is = sym is

not_true : (b : Bool) → not b ≡ true → b ≡ false
not_true true is = sym is
not_true false is = refl

module _ (member commit : ℕ) (log : List Entry) (heard : List Heard) (first : ℕ) where
  start_with :
      (o : Option ℕ) → IsFirst (λ index. not (is_held_whole member index heard)) (commit + 1) (length log - commit) o
      → IsStart member commit log heard first (no_later_than o (next_index member heard first))
  start_with None is = record {
    no_later = omega arith;
    held = λ index above within before. not_false (is_held_whole member index heard) (is index (omega (arith, above)) (omega (arith, above, within)));
    lacks = λ sooner. absurd (omega (arith, sooner));
  }
  start_with (Some x) is = record {
    no_later = omega arith;
    held = λ index above within before. not_false (is_held_whole member index heard) (is.3 index (omega (arith, above)) (omega (arith, before)));
    lacks = λ sooner.
        let same : x ≡ no_later_than (Some x) (next_index member heard first) = omega (arith, sooner) in
        (omega (arith, sooner, is.0), omega (arith, sooner, is.1), ap (λ (i : ℕ). is_held_whole member i heard) (sym same) ∙ not_true (is_held_whole member x heard) is.2);
  }

  pub start_is : IsStart member commit log heard first (no_later_than (first_lacking member commit log heard) (next_index member heard first))
  start_is = start_with (first_lacking member commit log heard) (first_is (λ index. not (is_held_whole member index heard)) (commit + 1) (length log - commit))
