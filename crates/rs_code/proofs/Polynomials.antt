-- Polynomials: equal coefficients, sums, multiples, one power more, and coefficients that are 0.
use Rattle.std.proofs.Common.{◌≡◌, ℕ, zero, suc, ◌+◌, ◌^◌, ◌<◌, ◌≤◌, refl, sym, ap, ◌∙◌, arith, bit_xor}
use Rattle.std.specs.Int.Bits.{xor_zero_r, xor_assoc}
use Rattle.std.proofs.lemmas.Nat.{xor_of_8}
use Rattle.gf_lanes.specs.Field.{product}
use Rattle.gf_lanes.proofs.Bits.{xor_cross}
use Rattle.gf_lanes.proofs.Products.{product-xor_l, product-xor_r, product_lt}
use Rattle.gf_lanes.proofs.Laws.{product_assoc, product_left, product-zero_l, product-zero_r, product-one_r}
use Rattle.rs_code.specs.Polynomials.{power, polynomial}

pub power_lt : (x r : ℕ) → power x r < 2 ^ 8
unfolding power
power_lt x zero = omega arith
power_lt x (suc r) = product_lt x (power x r)

pub polynomial_lt : (c : ℕ → ℕ) (n x : ℕ) → polynomial c n x < 2 ^ 8
unfolding polynomial
polynomial_lt c zero x = omega arith
polynomial_lt c (suc n) x = xor_of_8 (polynomial c n x) (product (c n) (power x n)) (polynomial_lt c n x) (product_lt (c n) (power x n))

-- equal coefficients below the degree
pub polynomial-same : (c d : ℕ → ℕ) (n x : ℕ) → ((r : ℕ) → r < n → c r ≡ d r) → polynomial c n x ≡ polynomial d n x
unfolding polynomial
polynomial-same c d zero x h = refl
polynomial-same c d (suc n) x h =
    ap (λ m. bit_xor m (product (c n) (power x n))) (polynomial-same c d n x (λ r within. h r (omega arith)))
    ∙ ap (λ m. bit_xor (polynomial d n x) (product m (power x n))) (h n (omega arith))

-- the sum of two polynomials
pub polynomial-xor : (c d : ℕ → ℕ) (n x : ℕ) → polynomial (λ r. bit_xor (c r) (d r)) n x ≡ bit_xor (polynomial c n x) (polynomial d n x)
unfolding polynomial
polynomial-xor c d zero x = refl
polynomial-xor c d (suc n) x =
    ap (λ m. bit_xor m (product (bit_xor (c n) (d n)) (power x n))) (polynomial-xor c d n x)
    ∙ ap (λ m. bit_xor (bit_xor (polynomial c n x) (polynomial d n x)) m) (product-xor_l (c n) (d n) (power x n))
    ∙ xor_cross (polynomial c n x) (polynomial d n x) (product (c n) (power x n)) (product (d n) (power x n))

-- a multiple of a polynomial
pub polynomial-times : (t : ℕ) (c : ℕ → ℕ) (n x : ℕ) → polynomial (λ r. product t (c r)) n x ≡ product t (polynomial c n x)
unfolding polynomial
polynomial-times t c zero x = sym (product-zero_r t)
polynomial-times t c (suc n) x =
    ap (λ m. bit_xor m (product (product t (c n)) (power x n))) (polynomial-times t c n x)
    ∙ ap (λ m. bit_xor (product t (polynomial c n x)) m) (product_assoc t (c n) (power x n))
    ∙ sym (product-xor_r t (polynomial c n x) (product (c n) (power x n)))

-- the lowest coefficient apart
pub polynomial-low : (c : ℕ → ℕ) (n x : ℕ) → polynomial c (suc n) x ≡ bit_xor (product (c 0) 1) (product x (polynomial (λ r. c (suc r)) n x))
unfolding polynomial power
polynomial-low c zero x = sym (ap (λ m. bit_xor (product (c 0) 1) m) (product-zero_r x) ∙ xor_zero_r (product (c 0) 1))
polynomial-low c (suc n) x =
    ap (λ m. bit_xor m (product (c (suc n)) (product x (power x n)))) (polynomial-low c n x)
    ∙ ap (λ m. bit_xor (bit_xor (product (c 0) 1) (product x (polynomial (λ r. c (suc r)) n x))) m) (product_left (c (suc n)) x (power x n))
    ∙ xor_assoc (product (c 0) 1) (product x (polynomial (λ r. c (suc r)) n x)) (product x (product (c (suc n)) (power x n)))
    ∙ ap (λ m. bit_xor (product (c 0) 1) m) (sym (product-xor_r x (polynomial (λ r. c (suc r)) n x) (product (c (suc n)) (power x n))))

-- Horner's rule
pub polynomial-horner : (c : ℕ → ℕ) (n x : ℕ) → c 0 < 2 ^ 8 → polynomial c (suc n) x ≡ bit_xor (c 0) (product x (polynomial (λ r. c (suc r)) n x))
polynomial-horner c n x low =
    polynomial-low c n x ∙ ap (λ m. bit_xor m (product x (polynomial (λ r. c (suc r)) n x))) (product-one_r (c 0) low)

-- a highest coefficient that is 0
pub polynomial-top : (c : ℕ → ℕ) (n x : ℕ) → c n ≡ 0 → polynomial c (suc n) x ≡ polynomial c n x
unfolding polynomial
polynomial-top c n x h =
    ap (λ m. bit_xor (polynomial c n x) (product m (power x n))) h
    ∙ ap (λ m. bit_xor (polynomial c n x) m) (product-zero_l (power x n))
    ∙ xor_zero_r (polynomial c n x)

-- coefficients that are all 0
pub polynomial-zero : (c : ℕ → ℕ) (n x : ℕ) → ((r : ℕ) → r < n → c r ≡ 0) → polynomial c n x ≡ 0
unfolding polynomial
polynomial-zero c zero x h = refl
polynomial-zero c (suc n) x h = polynomial-top c n x (h n (omega arith)) ∙ polynomial-zero c n x (λ r within. h r (omega arith))

-- more coefficients, which are 0
pub polynomial-more : (c : ℕ → ℕ) (n more x : ℕ) → ((r : ℕ) → n ≤ r → c r ≡ 0) → polynomial c (n + more) x ≡ polynomial c n x
polynomial-more c n zero x h = ap (λ m. polynomial c m x) (omega arith)
polynomial-more c n (suc more) x h =
    let next : n + suc more ≡ suc (n + more) = omega arith in
    ap (λ m. polynomial c m x) next ∙ polynomial-top c (n + more) x (h (n + more) (omega arith)) ∙ polynomial-more c n more x h
