-- What one turn of a loop does to a value of a polynomial.
use Rattle.std.proofs.Common.{◌≡◌, ℕ, suc, ◌+◌, ◌^◌, ◌<◌, refl, sym, ap, ◌∙◌, arith, bit_xor}
use Rattle.std.specs.Int.Bits.{xor_assoc}
use Rattle.std.proofs.lemmas.Nat.{xor_comm}
use Rattle.gf_lanes.specs.Field.{product}
use Rattle.gf_lanes.proofs.Laws.{product_comm, product_assoc, product_left}
use Rattle.gf_lanes.proofs.Products.{product-xor_r}
use Rattle.rs_code.specs.Polynomials.{power, polynomial}
use Rattle.rs_code.proofs.Polynomials.{polynomial-same, polynomial-horner}

pub polynomial_none : (c : ℕ → ℕ) (x : ℕ) → 0 ≡ polynomial c 0 x
unfolding polynomial
polynomial_none c x = refl

pub power_none : (x : ℕ) → 1 ≡ power x 0
unfolding power
power_none x = refl

-- the next power
pub power_step : (x r p q : ℕ) → p ≡ power x r → q ≡ product x p → q ≡ power x (r + 1)
unfolding power
power_step x r p q h k =
    let next : suc r ≡ r + 1 = omega arith in
    k ∙ ap (λ n. product x n) h ∙ ap (λ n. power x n) next

-- the next summand of a value
pub value_step : (c : ℕ → ℕ) (x r v p t : ℕ) → v ≡ polynomial c r x → p ≡ power x r → t ≡ product (c r) p → bit_xor v t ≡ polynomial c (r + 1) x
unfolding polynomial
value_step c x r v p t h k e =
    let next : suc r ≡ r + 1 = omega arith in
    ap (λ n. bit_xor n t) h ∙ ap (λ n. bit_xor (polynomial c r x) n) (e ∙ ap (λ n. product (c r) n) k) ∙ ap (λ n. polynomial c n x) next

-- the next power, times a factor
pub multiple_step : (f x r p q : ℕ) → p ≡ product f (power x r) → q ≡ product x p → q ≡ product f (power x (r + 1))
multiple_step f x r p q h k = k ∙ ap (product x) h ∙ product_left x f (power x r) ∙ ap (product f) (power_step x r (power x r) (product x (power x r)) refl refl)

-- the next summand of f times a value, which is added to s
pub added_step : (c : ℕ → ℕ) (x f r s v p t w : ℕ) → v ≡ bit_xor s (product f (polynomial c r x)) → p ≡ product f (power x r) → t ≡ c r → w ≡ bit_xor v (product p t) → w ≡ bit_xor s (product f (polynomial c (r + 1) x))
added_step c x f r s v p t w h k e made =
    let value : ℕ = polynomial c r x in
    let more : ℕ = product (c r) (power x r) in
    let summand : product p t ≡ product f more =
    ap (λ n. product n t) k ∙ product_assoc f (power x r) t
    ∙ ap (product f) (product_comm (power x r) t ∙ ap (λ n. product n (power x r)) e) in
    made
    ∙ ap (λ n. bit_xor n (product p t)) h
    ∙ xor_assoc s (product f value) (product p t)
    ∙ ap (bit_xor s) (ap (bit_xor (product f value)) summand ∙ sym (product-xor_r f value more) ∙ ap (product f) (value_step c x r value (power x r) more refl refl refl))

-- Horner's rule, from the coefficients above r to those from r on
pub horner_step : (c : ℕ → ℕ) (x r n v s w : ℕ) → c r < 2 ^ 8 → v ≡ polynomial (λ i. c (r + 1 + i)) n x → s ≡ product x v → w ≡ bit_xor s (c r) → w ≡ polynomial (λ i. c (r + i)) (n + 1) x
horner_step c x r n v s w low h scaled made =
    let next : suc n ≡ n + 1 = omega arith in
    let here : r + 0 ≡ r = omega arith in
    made ∙ ap (λ m. bit_xor m (c r)) (scaled ∙ ap (λ m. product x m) (h ∙ polynomial-same (λ i. c (r + 1 + i)) (λ i. c (r + suc i)) n x (λ i within. ap c (omega arith))))
    ∙ xor_comm (product x (polynomial (λ i. c (r + suc i)) n x)) (c r)
    ∙ ap (λ m. bit_xor m (product x (polynomial (λ i. c (r + suc i)) n x))) (sym (ap c here))
    ∙ sym (polynomial-horner (λ i. c (r + i)) n x (at_here low here))
    ∙ ap (λ m. polynomial (λ i. c (r + i)) m x) next
  where
    at_here : c r < 2 ^ 8 → r + 0 ≡ r → c (r + 0) < 2 ^ 8
    at_here h e = let same : c (r + 0) ≡ c r = ap c e in omega arith
