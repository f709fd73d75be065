-- The first index at which something holds, looked for one after the other.
use Rattle.std.proofs.Common.{◌≡◌, ℕ, suc, ◌+◌, ◌-◌, ◌≤◌, ◌<◌, Bool, true, false, cond, Option, None, Some, ap, sym, ◌∙◌, arith}
use Rattle.std.specs.List.{find, range_with_len}

-- what is left to look through begins with the next one
left_is : (p : ℕ → Bool) (before last : ℕ) → before < last →
    find p (range_with_len (before + 1) (last - before)) ≡ cond (p (before + 1)) (Some (before + 1)) (find p (range_with_len (before + 1 + 1) (last - (before + 1))))
left_is p before last lt =
    let more : last - before ≡ suc (last - (before + 1)) = omega (arith, lt) in
    ap (λ count. find p (range_with_len (before + 1) count)) more

find_on : (p : ℕ → Bool) (before last : ℕ) → before < last → p (before + 1) ≡ false →
    find p (range_with_len (before + 1) (last - before)) ≡ find p (range_with_len (before + 1 + 1) (last - (before + 1)))
find_on p before last lt fails =
    left_is p before last lt ∙ ap (λ b. cond b (Some (before + 1)) (find p (range_with_len (before + 1 + 1) (last - (before + 1))))) fails

find_here : (p : ℕ → Bool) (before last : ℕ) → before < last → p (before + 1) ≡ true → find p (range_with_len (before + 1) (last - before)) ≡ Some (before + 1)
find_here p before last lt holds =
    left_is p before last lt ∙ ap (λ b. cond b (Some (before + 1)) (find p (range_with_len (before + 1 + 1) (last - (before + 1))))) holds

find_none : (p : ℕ → Bool) (before last : ℕ) → last ≤ before → find p (range_with_len (before + 1) (last - before)) ≡ None
find_none p before last le =
    let none : last - before ≡ 0 = omega (arith, le) in
    ap (λ count. find p (range_with_len (before + 1) count)) none

-- what is looked for, where what is left begins with it, where it begins with another, and where nothing is left
pub found_here : (p : ℕ → Bool) (before last : ℕ) (first : Option ℕ) → first ≡ find p (range_with_len (before + 1) (last - before)) → before < last → p (before + 1) ≡ true
    → Some (before + 1) ≡ first
found_here p before last first left lt holds = sym (left ∙ find_here p before last lt holds)

pub left_on : (p : ℕ → Bool) (before last : ℕ) (first : Option ℕ) → first ≡ find p (range_with_len (before + 1) (last - before)) → before < last → p (before + 1) ≡ false
    → first ≡ find p (range_with_len (before + 1 + 1) (last - (before + 1)))
left_on p before last first left lt fails = left ∙ find_on p before last lt fails

pub found_none : (p : ℕ → Bool) (before last : ℕ) (first : Option ℕ) → first ≡ find p (range_with_len (before + 1) (last - before)) → last ≤ before → None ≡ first
found_none p before last first left le = sym (left ∙ find_none p before last le)
