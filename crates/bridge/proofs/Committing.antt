-- The commit index that a leader chooses: the present one, or an entry of its term up to which it counted enough.
use Rattle.std.proofs.Common.{◌≡◌, ℕ, ◌+◌, ◌-◌, ◌<◌, ◌≤◌, ◌⊎◌, max, Bool, true, ◌==◌, fold, filter, get_or, List, [], ◌∷◌, length, refl, sym, ap, subst, ◌∙◌, inl, inr, arith}
use Rattle.std.specs.List.{All, list_all, range_with_len}
use Rattle.std.proofs.lemmas.Bool.{and_parts, cases_lt, eqb-true, true≢false, true_from_ne_false}
use Rattle.std.proofs.lemmas.List.Elements.{All-filter, All-from_get_or, All-head, All-tail, filter_passes}
use Rattle.std.proofs.lemmas.List.Folds.{list_all_at}
use Rattle.std.proofs.lemmas.List.FromFn.{length-range_with_len, get_or-range_with_len}
use Rattle.craft_base.specs.Knowledge.{Heard}
use Rattle.craft_base.specs.Shape.{Shape}
use Rattle.craft_base.specs.declared.command.Entry.{Entry}
use Rattle.entry_frames.specs.Logs as node
use Rattle.coded_append.specs.Starts.{open_indexes}
use Rattle.world_model.specs.Quorums.{is_enough, may_commit, new_commit}

-- the greatest of some numbers and one more is one of them
greatest_of : (P : ℕ → Type 0) (first : ℕ) (numbers : List ℕ) → P first → All P numbers → P (fold max first numbers)
greatest_of P first [] p all = p
greatest_of P first (n ∷ numbers) p all =
    greatest_of P (max first n) numbers (elim (cases_lt first n) [
      | inl less ↦ let e : n ≡ max first n = omega (arith, less) in subst P e (All-head P n numbers all)
      | inr ge ↦ let e : first ≡ max first n = omega (arith, ge) in subst P e p
    ]) (All-tail P n numbers all)

-- what passes in a stretch of numbers passes at each of them
each_passes : (test : ℕ → Bool) (from count : ℕ) → list_all test (range_with_len from count) ≡ true → (i : ℕ) → from ≤ i → i < from + count → test i ≡ true
each_passes test from count all i le lt =
    true_from_ne_false (test i) λ fails.
    let long : length (range_with_len from count) ≡ count = length-range_with_len from count in
    let at : get_or (range_with_len from count) (i - from) 0 ≡ i =
    get_or-range_with_len from count (i - from) 0 (omega (arith, le, lt)) ∙ (let e : from + (i - from) ≡ i = omega (arith, le) in e) in
    true≢false (sym all ∙ list_all_at test (range_with_len from count) (i - from) 0 (omega (arith, long, le, lt)) (ap test at ∙ fails))

open_within : (commit : ℕ) (log : List Entry) → All (λ i. i ≤ length log) (open_indexes commit log)
open_within commit log =
    All-from_get_or (λ i. i ≤ length log) (open_indexes commit log) 0 λ i lt.
    let long : length (open_indexes commit log) ≡ length log - commit = length-range_with_len (commit + 1) (length log - commit) in
    let at : get_or (open_indexes commit log) i 0 ≡ commit + 1 + i =
    get_or-range_with_len (commit + 1) (length log - commit) i 0 (omega (arith, lt, long)) in
    omega (arith, at, lt, long)

-- a leader may commit up to an index of its log: the entry is of its term, and enough hold each that isn't committed
pub record IsCounted (shape : Shape) (me term commit : ℕ) (log : List Entry) (heard : List Heard) (index : ℕ) : Type 0 where
  pub within : index ≤ length log
  pub own : node.term_at log index ≡ term
  pub each : (i : ℕ) → commit < i → i ≤ index → is_enough shape me log heard i ≡ true

module _ (shape : Shape) (me term commit : ℕ) (log : List Entry) (heard : List Heard) where
  may_counted : (index : ℕ) → index ≤ length log → may_commit shape me term commit log heard index ≡ true → IsCounted shape me term commit log heard index
  may_counted index within may =
      let parts = and_parts (node.term_at log index == term) _ may in
      record {
        within = within;
        own = eqb-true _ _ parts.0;
        each = λ i above le.
            each_passes (is_enough shape me log heard) (commit + 1) (index - commit) parts.1 i (omega (arith, above)) (omega (arith, above, le));
      }

  pub new_counted :
      (new_commit shape me term commit log heard ≡ commit)
      ⊎ IsCounted shape me term commit log heard (new_commit shape me term commit log heard)
  new_counted =
      let may = may_commit shape me term commit log heard in
      let within : All (λ i. i ≤ length log) (filter may (open_indexes commit log)) =
      All-filter may (λ i. i ≤ length log) (open_indexes commit log) (open_within commit log) in
      let passes : All (λ i. may i ≡ true) (filter may (open_indexes commit log)) = filter_passes may (open_indexes commit log) in
      greatest_of (λ i. (i ≡ commit) ⊎ IsCounted shape me term commit log heard i) commit (filter may (open_indexes commit log)) (inl refl)
      (λ k d lt. inr (may_counted (get_or (filter may (open_indexes commit log)) k d) (within k d lt) (passes k d lt)))
