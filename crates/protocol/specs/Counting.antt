-- How many members pass a test, and functions that differ from others at one number.
use Rattle.std.specs.Prelude.{ℕ, zero, suc, ◌+◌, ◌*◌, Bool, cond, nat_eq}

-- how many numbers below n pass the test
abbrev pub count : (ℕ → Bool) → ℕ → ℕ
count p zero = 0
count p (suc n) = cond (p n) 1 0 + count p n

-- how many members there are where F of them may be lost: they are the numbers below it
abbrev pub members : ℕ → ℕ
members F = 2 * F + 1

-- v at i, and what f has elsewhere
abbrev pub put : {A : Type 0} → ℕ → A → (ℕ → A) → ℕ → A
put i v f k = cond (nat_eq k i) v (f k)

-- v at term t and member j, and what f has elsewhere
abbrev pub put_at : {A : Type 0} → ℕ → ℕ → A → (ℕ → ℕ → A) → ℕ → ℕ → A
put_at t j v f u k = cond (nat_eq u t) (cond (nat_eq k j) v (f u k)) (f u k)
