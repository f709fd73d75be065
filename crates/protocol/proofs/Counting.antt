-- Counting members, and reading a function that differs from another at one place.
use Rattle.std.proofs.Common.{◌≡◌, ℕ, zero, suc, ◌+◌, ◌<◌, ◌≤◌, ◌≢◌, Bool, true, false, cond, ◌&&◌, nat_eq, refl, sym, inl, inr, arith, Option, Some, None}
use Rattle.std.proofs.lemmas.Bool.{eqb-true, eqb-false, eq-eqb, ne_eqb, cases_Bool, and_parts, true≢false}
use Rattle.protocol.specs.Counting.{count, put, put_at}
use Rattle.protocol.specs.Words.{is_for}

-- one more member, where one test is passed whenever the other is
more_step : (a b : Bool) (m n : ℕ) → (a ≡ true → b ≡ true) → m ≤ n → cond a 1 0 + m ≤ cond b 1 0 + n
more_step true true m n h le = omega arith
more_step true false m n h le = absurd (true≢false (sym (h refl)))
more_step false true m n h le = omega arith
more_step false false m n h le = omega arith

-- as many or more pass a test that is passed whenever the other is
pub count_more : (p q : ℕ → Bool) (n : ℕ) → ((j : ℕ) → j < n → p j ≡ true → q j ≡ true) → count p n ≤ count q n
count_more p q zero h = omega arith
count_more p q (suc n) h =
    more_step (p n) (q n) (count p n) (count q n) (h n (omega arith)) (count_more p q n (λ j lt. h j (omega arith)))

share_step : (a b : Bool) (k l m n : ℕ) → k + l ≤ n + m → (cond a 1 0 + k) + (cond b 1 0 + l) ≤ suc n + (cond (a && b) 1 0 + m)
share_step true true k l m n h = omega arith
share_step true false k l m n h = omega arith
share_step false true k l m n h = omega arith
share_step false false k l m n h = omega arith

-- two sets share at least what they have together above the number of members
pub count_share : (p q : ℕ → Bool) (n : ℕ) → count p n + count q n ≤ n + count (λ j. p j && q j) n
count_share p q zero = omega arith
count_share p q (suc n) =
    share_step (p n) (q n) (count p n) (count q n) (count (λ j. p j && q j) n) n (count_share p q n)

found_step : (p : ℕ → Bool) (n : ℕ) (b : Bool) → p n ≡ b → (0 < count p n → (j : ℕ) × (j < n) × (p j ≡ true)) → 0 < cond b 1 0 + count p n → (j : ℕ) × (j < suc n) × (p j ≡ true)
found_step p n true e h lt = (n, omega arith, e)
found_step p n false e h lt = let r : (j : ℕ) × (j < n) × (p j ≡ true) = h (omega arith) in (r.0, omega arith, r.2)

-- a set that isn't empty has a member
pub count_found : (p : ℕ → Bool) (n : ℕ) → 0 < count p n → (j : ℕ) × (j < n) × (p j ≡ true)
count_found p zero h = absurd (omega arith)
count_found p (suc n) h = found_step p n (p n) refl (count_found p n) h

-- two sets with more together than there are members share one
pub overlap : (p q : ℕ → Bool) (n : ℕ) → n < count p n + count q n → (j : ℕ) × (j < n) × (p j ≡ true) × (q j ≡ true)
overlap p q n h =
    let both : (j : ℕ) × (j < n) × ((p j && q j) ≡ true) =
    count_found (λ j. p j && q j) n (omega (arith, count_share p q n)) in
    let parts : (p both.0 ≡ true) × (q both.0 ≡ true) = and_parts (p both.0) (q both.0) both.2 in
    (both.0, both.1, parts.0, parts.1)

-- two numbers are the same or not, with the test's value
pub data SameNumber (k j : ℕ) : Type 0 where
  Equal : nat_eq k j ≡ true → k ≡ j → SameNumber k j
  Apart : nat_eq k j ≡ false → k ≢ j → SameNumber k j

pub same_or_other : (k j : ℕ) → SameNumber k j
same_or_other k j = elim (cases_Bool (nat_eq k j)) [ inl e ↦ Equal e (eqb-true k j e) | inr e ↦ Apart e (eqb-false k j e) ]

pub test_same : (k : ℕ) → nat_eq k k ≡ true
test_same k = eq-eqb k k refl

-- what holds of the value that is put, and of each other, holds of all
pub put_all : {A : Type 0} (P : ℕ → A → Type 0) (i : ℕ) (v : A) (f : ℕ → A) → P i v → ((k : ℕ) → k ≢ i → P k (f k)) → (k : ℕ) → P k (put i v f k)
put_all P i v f here there k =
    elim (same_or_other k i) [ Equal e q ↦ rw (e, q) here | Apart e n ↦ rw e (there k n) ]

pub put_at_all :
    {A : Type 0} (P : ℕ → ℕ → A → Type 0) (t j : ℕ) (v : A) (f : ℕ → ℕ → A) →
    P t j v → ((u k : ℕ) → ((u ≡ t) × (k ≡ j) → ⊥) → P u k (f u k)) → (u k : ℕ) → P u k (put_at t j v f u k)
put_at_all P t j v f here there u k =
    elim (same_or_other u t) [
      | Equal e q ↦ elim (same_or_other k j) [ Equal e2 q2 ↦ rw (e, e2, q, q2) here | Apart e2 n ↦ rw (e, e2) (there u k (λ b. n b.1)) ]
      | Apart e n ↦ rw e (there u k (λ b. n b.0))
    ]

pub is_for-Some : (c : ℕ) (o : Option ℕ) → is_for c o ≡ true → o ≡ Some c
is_for-Some c None e = absurd (true≢false (sym e))
is_for-Some c (Some d) e = rw (eqb-true d c e) refl

pub is_for_from : (c : ℕ) (o : Option ℕ) → o ≡ Some c → is_for c o ≡ true
is_for_from c o e = rw e (test_same c)

pub cond_same : {A : Type 0} (b : Bool) (x : A) → cond b x x ≡ x
cond_same true x = refl
cond_same false x = refl

-- where the value that is put isn't x, a function with it is x only elsewhere
pub put_elsewhere : {A : Type 0} (i : ℕ) (v : A) (f : ℕ → A) (k : ℕ) (x : A) → (v ≡ x → ⊥) → put i v f k ≡ x → (k ≢ i) × (f k ≡ x)
put_elsewhere i v f k x apart =
    put_all (λ k r. r ≡ x → (k ≢ i) × (f k ≡ x)) i v f (λ e. absurd (apart e)) (λ m n e. (n, e)) k

-- the same of two functions, each with a value put at the place
pub put_at_both :
    {A B : Type 0} (P : ℕ → ℕ → A → B → Type 0) (t j : ℕ) (v : A) (f : ℕ → ℕ → A) (w : B) (g : ℕ → ℕ → B) →
    P t j v w → ((u k : ℕ) → ((u ≡ t) × (k ≡ j) → ⊥) → P u k (f u k) (g u k)) →
    (u k : ℕ) → P u k (put_at t j v f u k) (put_at t j w g u k)
put_at_both P t j v f w g here there u k =
    elim (same_or_other u t) [
      | Equal e q ↦ elim (same_or_other k j) [ Equal e2 q2 ↦ rw (e, e2, q, q2) here | Apart e2 n ↦ rw (e, e2) (there u k (λ b. n b.1)) ]
      | Apart e n ↦ rw e (there u k (λ b. n b.0))
    ]

-- what is put is there
pub put_same : {A : Type 0} (j : ℕ) (v : A) (f : ℕ → A) → put j v f j ≡ v
put_same j v f = rw (test_same j) refl

pub put_at_same : {A : Type 0} (t j : ℕ) (v : A) (f : ℕ → ℕ → A) → put_at t j v f t j ≡ v
put_at_same t j v f = rw (test_same t, test_same j) refl

-- and nothing elsewhere
pub off : {A : Type 0} (k j : ℕ) (v : A) (f : ℕ → A) → k ≢ j → put j v f k ≡ f k
off k j v f apart = rw (ne_eqb k j apart) refl

pub off_at : {A : Type 0} (k t j : ℕ) (v : A) (f : ℕ → ℕ → A) → k ≢ j → (u : ℕ) → put_at t j v f u k ≡ f u k
off_at k t j v f apart u = rw (ne_eqb k j apart, cond_same) refl

pub off_term : {A : Type 0} (u t j : ℕ) (v : A) (f : ℕ → ℕ → A) → u ≢ t → (k : ℕ) → put_at t j v f u k ≡ f u k
off_term u t j v f apart k = rw (ne_eqb u t apart) refl
