-- A candidate's count of votes, over a list of members, is at most the protocol's.
use Rattle.std.proofs.Common.{◌≡◌, ℕ, zero, suc, ◌+◌, ◌<◌, ◌≤◌, Bool, true, false, cond, refl, sym, ap, arith, inl, inr}
use Rattle.std.proofs.lemmas.Bool.{true≢false, cases_eq}
use Rattle.std.proofs.lemmas.List.Sums.{sum_by-cons}
use Rattle.std.specs.List.{count_by, range_with_len}
use Rattle.protocol.specs.Counting.{count}
use Rattle.protocol.proofs.Counting.{count_more}

-- the members of a stretch that pass a test, and those below it
count_stretch : (p : ℕ → Bool) (a n : ℕ) → count_by p (range_with_len a n) + count p a ≡ count p (a + n)
count_stretch p a zero = let e : count p (a + 0) ≡ count p a = ap (count p) (omega arith) in omega arith
count_stretch p a (suc n) =
    let up : a + 1 ≡ suc a = omega arith in
    let first : count p (a + 1) ≡ count p (suc a) = ap (count p) up in
    let all : count p (a + suc n) ≡ count p ((a + 1) + n) = ap (count p) (omega arith) in
    omega (arith, first, all, count_stretch p (a + 1) n, sum_by-cons (λ k. cond (p k) 1 0) a (range_with_len (a + 1) n))

-- counted by a list of the members, or one below the other
pub count_members : (p : ℕ → Bool) (n : ℕ) → count_by p (range_with_len 0 n) ≡ count p n
count_members p n = let all : count p (0 + n) ≡ count p n = ap (count p) (omega arith) in omega (arith, count_stretch p 0 n)

-- one more member, where one test is passed whenever the other is
less_step : (a b : Bool) (m n : ℕ) → (a ≡ true → b ≡ true) → m + 1 ≤ n → (cond a 1 0 + m) + 1 ≤ cond b 1 0 + n
less_step true true m n h le = omega arith
less_step true false m n h le = absurd (true≢false (sym (h refl)))
less_step false true m n h le = omega arith
less_step false false m n h le = omega arith

-- where a test is passed whenever another is, and at one member where that isn't, one more passes it at least
pub count_one_more :
    (p q : ℕ → Bool) (n j : ℕ) → ((k : ℕ) → k < n → p k ≡ true → q k ≡ true) →
    j < n → p j ≡ false → q j ≡ true → count p n + 1 ≤ count q n
count_one_more p q zero j more lt fails passes = absurd (omega arith)
count_one_more p q (suc n) j more lt fails passes = elim (cases_eq j n) [
  | inl here ↦
      let a : p n ≡ false = rw (← here) fails in
      let b : q n ≡ true = rw (← here) passes in
      let le : count p n ≤ count q n = count_more p q n (λ k l. more k (omega arith)) in
      rw (a, b) (omega arith)
  | inr there ↦
      less_step (p n) (q n) (count p n) (count q n) (more n (omega arith))
      (count_one_more p q n j (λ k l. more k (omega arith)) (omega arith) fails passes)
]
