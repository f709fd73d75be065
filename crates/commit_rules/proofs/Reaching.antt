-- How far the log may be committed, by the indexes that were looked at so far: which of them enough members hold, and which are of
-- the term, stands as a test each.
use Rattle.std.proofs.Common.{◌≡◌, ℕ, suc, ◌+◌, ◌-◌, ◌<◌, ◌≤◌, Bool, true, false, cond, max, refl, ap, ◌∙◌, sym, arith}
use Rattle.std.specs.Prelude.{◌&&◌}
use Rattle.std.specs.List.{list_all, range_with_len}
use Rattle.commit_rules.proofs.Rows.{all_more, all_not, greatest, greatest_more, greatest_kept}

-- whether an index is of the term, and each up to it is held by enough
abbrev pub passes : (held own : ℕ → Bool) → (commit index : ℕ) → Bool
passes held own commit index = own index && list_all held (range_with_len (commit + 1) (index - commit))

-- the greatest such index up to `last`
abbrev pub reach : (held own : ℕ → Bool) → (commit last : ℕ) → ℕ
reach held own commit last = greatest (passes held own commit) commit (commit + 1) (last - commit)

-- each up to `before` is held by enough, and that one was reached
pub record SoFar (held own : ℕ → Bool) (commit before reached : ℕ) : Type 0 where
  pub all_held : list_all held (range_with_len (commit + 1) (before - commit)) ≡ true
  pub is_reach : reached ≡ reach held own commit before

pub nothing_yet : (held own : ℕ → Bool) (commit : ℕ) → SoFar held own commit commit commit
nothing_yet held own commit =
    let none : commit - commit ≡ 0 = omega arith in
    record {
      all_held = ap (λ (n : ℕ). list_all held (range_with_len (commit + 1) n)) none;
      is_reach = sym (ap (λ (n : ℕ). greatest (passes held own commit) commit (commit + 1) n) none);
    }

-- one more that enough hold
pub one_more : (held own : ℕ → Bool) (commit before reached index next : ℕ) (hit : Bool) → SoFar held own commit before reached → commit ≤ before → reached ≤ before
    → index ≡ before + 1 → held index ≡ true → hit ≡ own index → next ≡ cond hit index reached → SoFar held own commit index next
one_more held own commit before reached index next hit so_far above below is one of_term new =
    let n : ℕ = before - commit in
    let more : index - commit ≡ suc n = omega arith in
    let at : (commit + 1) + n ≡ index = omega arith in
    let all : list_all held (range_with_len (commit + 1) (index - commit)) ≡ true =
    ap (λ (k : ℕ). list_all held (range_with_len (commit + 1) k)) more ∙ all_more held (commit + 1) n index at so_far.all_held one in
    record {
      all_held = all;
      is_reach =
          new ∙ turned hit (reached) (reach held own commit before) so_far.is_reach below
          ∙ ap (λ test. cond test (max (reach held own commit before) index) (reach held own commit before)) (of_term ∙ sym (and_true (own index)) ∙ sym (ap (λ rest. own index && rest) all))
          ∙ sym (ap (λ (k : ℕ). greatest (passes held own commit) commit (commit + 1) k) more ∙ greatest_more (passes held own commit) commit (commit + 1) n index at);
    } where
      and_true : (b : Bool) → (b && true) ≡ b
      and_true true = refl
      and_true false = refl

      turned : (test : Bool) (x y : ℕ) → x ≡ y → x ≤ before → cond test index x ≡ cond test (max y index) y
      turned true x y same small = omega arith
      turned false x y same small = same

-- an index that too few hold: none from there on may be committed
pub no_more : (held own : ℕ → Bool) (commit before reached index last : ℕ) → SoFar held own commit before reached → commit ≤ before → before < last
    → index ≡ before + 1 → held index ≡ false → reached ≡ reach held own commit last
no_more held own commit before reached index last so_far above below is none =
    let n : ℕ = before - commit in
    let split : last - commit ≡ n + (last - before) = omega arith in
    so_far.is_reach ∙ sym (greatest_kept (passes held own commit) commit (commit + 1) n (last - before) (last - commit) split stopped) where
      off : (b : Bool) → (b && false) ≡ false
      off true = refl
      off false = refl

      stopped : (j : ℕ) → (commit + 1) + (before - commit) < j + 1 → passes held own commit j ≡ false
      stopped j behind =
          let within : before - commit < j - commit = omega arith in
          let at : (commit + 1) + (before - commit) ≡ index = omega arith in
          ap (λ rest. own j && rest) (all_not held (commit + 1) (j - commit) (before - commit) index within at none) ∙ off (own j)
