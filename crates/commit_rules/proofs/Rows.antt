-- Numbers in a row, and one more of them.
use Rattle.std.proofs.Common.{◌≡◌, ℕ, zero, suc, ◌+◌, ◌<◌, List, [], ◌∷◌, ◌++◌, Bool, true, false, cond, length, max, refl, ap, ◌∙◌, arith}
use Rattle.std.specs.Prelude.{◌&&◌, filter}
use Rattle.std.specs.List.{count_by, fold, list_all, range_with_len}
use Rattle.std.proofs.lemmas.List.Elements.{filter-append}
use Rattle.std.proofs.lemmas.List.Folds.{list_all-append, list_all_at}
use Rattle.std.proofs.lemmas.List.FromFn.{get_or-range_with_len, length-range_with_len}
use Rattle.std.proofs.lemmas.List.Sums.{fold-append, sum_by-append}

pub row_more : (a n j : ℕ) → a + n ≡ j → range_with_len a (suc n) ≡ range_with_len a n ++ j ∷ []
row_more a zero j is =
    let start : a ≡ j = omega arith in
    ap (λ (i : ℕ). i ∷ []) start
row_more a (suc n) j is = ap (λ (row : List ℕ). a ∷ row) (row_more (a + 1) n j (omega arith))

-- how many of them pass a test
pub count_more : (p : ℕ → Bool) (a n j : ℕ) → a + n ≡ j → count_by p (range_with_len a (suc n)) ≡ count_by p (range_with_len a n) + cond (p j) 1 0
count_more p a n j is =
    ap (λ (row : List ℕ). count_by p row) (row_more a n j is) ∙ sum_by-append (λ x. cond {A = ℕ} (p x) 1 0) (range_with_len a n) (j ∷ [])
    ∙ omega arith

-- whether all of them do
pub all_more : (p : ℕ → Bool) (a n j : ℕ) → a + n ≡ j → list_all p (range_with_len a n) ≡ true → p j ≡ true → list_all p (range_with_len a (suc n)) ≡ true
all_more p a n j is all one =
    ap (λ (row : List ℕ). list_all p row) (row_more a n j is) ∙ list_all-append p (range_with_len a n) (j ∷ [])
    ∙ ap (λ before. before && (p j && true)) all ∙ ap (λ last. last && true) one

pub all_not : (p : ℕ → Bool) (a n i j : ℕ) → i < n → a + i ≡ j → p j ≡ false → list_all p (range_with_len a n) ≡ false
all_not p a n i j within is one =
    let inside : i < length (range_with_len a n) = omega (arith, within, length-range_with_len a n) in
    list_all_at p (range_with_len a n) i 0 inside (ap p (get_or-range_with_len a n i 0 within ∙ is) ∙ one)

-- the greatest number of those that pass, and the start where there is none
abbrev pub greatest : (ℕ → Bool) → (start a n : ℕ) → ℕ
greatest p start a n = fold max start (filter p (range_with_len a n))

pub greatest_more : (p : ℕ → Bool) (start a n j : ℕ) → a + n ≡ j
    → greatest p start a (suc n) ≡ cond (p j) (max (greatest p start a n) j) (greatest p start a n)
greatest_more p start a n j is =
    ap (λ (row : List ℕ). fold max start (filter p row)) (row_more a n j is)
    ∙ ap (λ (row : List ℕ). fold max start row) (filter-append p (range_with_len a n) (j ∷ []))
    ∙ fold-append max start (filter p (range_with_len a n)) (filter p (j ∷ [])) ∙ last (p j) where
      last : (hit : Bool) → fold max (greatest p start a n) (cond hit (j ∷ []) []) ≡ cond hit (max (greatest p start a n) j) (greatest p start a n)
      last true = refl
      last false = refl

-- those behind that don't pass change nothing
pub greatest_kept : (p : ℕ → Bool) (start a n m k : ℕ) → k ≡ n + m → ((j : ℕ) → a + n < j + 1 → p j ≡ false) → greatest p start a k ≡ greatest p start a n
greatest_kept p start a n zero k is none =
    let same : k ≡ n = omega arith in
    ap (λ (l : ℕ). greatest p start a l) same
greatest_kept p start a n (suc m) k is none =
    let same : k ≡ suc (n + m) = omega arith in
    let above : a + n < (a + (n + m)) + 1 = omega arith in
    ap (λ (l : ℕ). greatest p start a l) same ∙ greatest_more p start a (n + m) (a + (n + m)) refl
    ∙ ap (λ hit. cond hit (max (greatest p start a (n + m)) (a + (n + m))) (greatest p start a (n + m))) (none (a + (n + m)) above)
    ∙ greatest_kept p start a n m (n + m) refl none
