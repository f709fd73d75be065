-- Two polynomials of as many coefficients as there are distinct points, equal at each of the points, are equal.
use Rattle.std.proofs.Common.{◌≡◌, ℕ, suc, ◌^◌, ◌<◌, ◌≤◌, List, [], ◌∷◌, length, get_or, inl, inr, sym, ap, ◌∙◌, arith, bit_xor}
use Rattle.std.specs.Int.Bits.{xor_zero_r, xor_self}
use Rattle.std.proofs.Math.Nat.{eq-or-lt_of_le}
use Rattle.std.proofs.lemmas.Nat.{xor_of_8}
use Rattle.gf_lanes.specs.Field.{product}
use Rattle.gf_lanes.proofs.Bits.{same_from_xor}
use Rattle.gf_lanes.proofs.Products.{product_lt}
use Rattle.gf_lanes.proofs.Laws.{product_comm, product-zero_l, product-zero_r, product-one_r}
use Rattle.gf_lanes.proofs.Inverses.{zero_from_product}
use Rattle.rs_code.specs.Polynomials.{polynomial}
use Rattle.rs_code.specs.Fragments.{point_of}
use Rattle.rs_code.specs.Roots.{differences, AreMembers, IsRootPolynomial}
use Rattle.rs_code.proofs.Polynomials.{polynomial-top, polynomial-xor, polynomial-times, polynomial-zero}
use Rattle.rs_code.proofs.Roots.{differences_lt, differences-apart, differences-root, root_coefficients, IsRootPolynomial-root_coefficients}

-- the polynomial less its highest coefficient times the root polynomial of the other members
reduced : (ℕ → ℕ) → List ℕ → ℕ → ℕ
reduced c js r = bit_xor (c r) (product (c (length js)) (root_coefficients js r))

reduced-value : (c : ℕ → ℕ) (js : List ℕ) (x : ℕ) → c (length js) < 2 ^ 8 → polynomial (reduced c js) (length js) x ≡ bit_xor (polynomial c (suc (length js)) x) (product (c (length js)) (differences js x))
unfolding reduced
reduced-value c js x low =
    let n : ℕ = length js in
    let root : IsRootPolynomial (root_coefficients js) js = IsRootPolynomial-root_coefficients js in
    let top : bit_xor (c (length js)) (product (c (length js)) (root_coefficients js (length js))) ≡ 0 =
    ap (λ m. bit_xor (c (length js)) (product (c (length js)) m)) root.monic
    ∙ ap (λ m. bit_xor (c (length js)) m) (product-one_r (c (length js)) low) ∙ xor_self (c (length js)) in
    sym (polynomial-top (λ r. bit_xor (c r) (product (c (length js)) (root_coefficients js r))) (length js) x top)
    ∙ polynomial-xor c (λ r. product (c (length js)) (root_coefficients js r)) (suc (length js)) x
    ∙ ap (λ m. bit_xor (polynomial c (suc (length js)) x) m)
    (polynomial-times (c (length js)) (root_coefficients js) (suc (length js)) x ∙ ap (λ m. product (c (length js)) m) (root.value x))

-- a polynomial with a root at each of as many distinct points as it has coefficients is 0
pub zero_from_roots : (members : List ℕ) (c : ℕ → ℕ) → AreMembers members → ((r : ℕ) → r < length members → c r < 2 ^ 8) → ((k : ℕ) → k < length members → polynomial c (length members) (point_of (get_or members k 0)) ≡ 0) → (r : ℕ) → r < length members → c r ≡ 0
unfolding reduced
zero_from_roots [] c all low roots r h = absurd (omega arith)
zero_from_roots (j ∷ js) c all low roots r h =
    let top_low : c (length js) < 2 ^ 8 = low (length js) (omega arith) in
    let rest : (i : ℕ) → i < length js → reduced c js i ≡ 0 =
    zero_from_roots js (reduced c js) all.2
    (λ i within. xor_of_8 (c i) (product (c (length js)) (root_coefficients js i)) (low i (omega arith)) (product_lt (c (length js)) (root_coefficients js i)))
    (λ k within. reduced-value c js (point_of (get_or js k 0)) top_low
    ∙ ap (λ m. bit_xor m (product (c (length js)) (differences js (point_of (get_or js k 0))))) (roots (suc k) (omega arith))
    ∙ ap (λ m. product (c (length js)) m) (differences-root js k within) ∙ product-zero_r (c (length js))) in
    let at_new : product (c (length js)) (differences js (point_of j)) ≡ 0 =
    sym (ap (λ m. bit_xor m (product (c (length js)) (differences js (point_of j)))) (roots 0 (omega arith)))
    ∙ sym (reduced-value c js (point_of j) top_low)
    ∙ polynomial-zero (reduced c js) (length js) (point_of j) rest in
    let top : c (length js) ≡ 0 =
    zero_from_product (differences js (point_of j)) (c (length js)) (differences-apart js j all.2 all.1 all.0)
    (differences_lt js (point_of j)) top_low (product_comm (differences js (point_of j)) (c (length js)) ∙ at_new) in
    elim (eq-or-lt_of_le (le_before r (length js) h)) [
      | inl same ↦ ap c same ∙ top
      | inr below ↦
          sym (xor_zero_r (c r)) ∙ sym (ap (λ m. bit_xor (c r) m) (ap (λ m. product m (root_coefficients js r)) top ∙ product-zero_l (root_coefficients js r)))
          ∙ rest r below
    ]
  where
    le_before : (a b : ℕ) → a < suc b → a ≤ b
    le_before a b k = omega arith

-- two polynomials that agree at as many distinct points as they have coefficients are equal
pub same_polynomials : (members : List ℕ) (c d : ℕ → ℕ) → AreMembers members → ((r : ℕ) → r < length members → c r < 2 ^ 8) → ((r : ℕ) → r < length members → d r < 2 ^ 8) → ((k : ℕ) → k < length members → polynomial c (length members) (point_of (get_or members k 0)) ≡ polynomial d (length members) (point_of (get_or members k 0))) → (r : ℕ) → r < length members → c r ≡ d r
same_polynomials members c d all c_low d_low agree r h =
    same_from_xor (c r) (d r)
    (zero_from_roots members (λ i. bit_xor (c i) (d i)) all
    (λ i within. xor_of_8 (c i) (d i) (c_low i within) (d_low i within))
    (λ k within.
    polynomial-xor c d (length members) (point_of (get_or members k 0))
    ∙ ap (λ m. bit_xor m (polynomial d (length members) (point_of (get_or members k 0)))) (agree k within)
    ∙ xor_self (polynomial d (length members) (point_of (get_or members k 0))))
    r h)
