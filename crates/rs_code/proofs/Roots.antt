-- The polynomial whose roots are the points of given members.
use Rattle.std.proofs.Common.{◌≡◌, ◌≢◌, ℕ, zero, suc, ◌^◌, ◌<◌, List, [], ◌∷◌, ◌++◌, length, get_or, refl, sym, ap, ◌∙◌, arith, bit_xor, length-append}
use Rattle.std.specs.Int.Bits.{xor_self}
use Rattle.std.proofs.lemmas.Nat.{xor_of_8}
use Rattle.gf_lanes.specs.Field.{product}
use Rattle.gf_lanes.proofs.Bits.{same_from_xor, xor_left}
use Rattle.gf_lanes.proofs.Products.{product-xor_l, product-xor_r, product_lt}
use Rattle.gf_lanes.proofs.Laws.{product_assoc, product_left, product-zero_l, product-zero_r, product-one_r}
use Rattle.gf_lanes.proofs.Inverses.{zero_from_product}
use Rattle.rs_code.specs.Polynomials.{power, polynomial}
use Rattle.rs_code.specs.Fragments.{point_of}
use Rattle.rs_code.specs.Roots.{differences, Differs, AreMembers, IsRootPolynomial, times_root}
use Rattle.rs_code.proofs.Polynomials.{polynomial-low, polynomial-same, polynomial-top, polynomial-xor, polynomial-times}

pub differences_lt : (members : List ℕ) (x : ℕ) → differences members x < 2 ^ 8
unfolding differences
differences_lt [] x = omega arith
differences_lt (j ∷ js) x = product_lt (bit_xor x (point_of j)) (differences js x)

-- a member more, at the end
pub differences-push : (members : List ℕ) (j x : ℕ) → differences (members ++ j ∷ []) x ≡ product (bit_xor x (point_of j)) (differences members x)
unfolding differences
differences-push [] j x = refl
differences-push (i ∷ is) j x =
    ap (λ m. product (bit_xor x (point_of i)) m) (differences-push is j x)
    ∙ product_left (bit_xor x (point_of i)) (bit_xor x (point_of j)) (differences is x)

-- it isn't 0 at the point of another member
pub differences-apart : (members : List ℕ) (j : ℕ) → AreMembers members → Differs j members → j < 15 → differences members (point_of j) ≢ 0
unfolding differences
differences-apart [] j all h small = λ e. omega arith
differences-apart (i ∷ is) j all h small = λ e.
    differences-apart is j all.2 h.1 small
    (zero_from_product (bit_xor (point_of j) (point_of i)) (differences is (point_of j))
    (λ same. h.0 (let points : point_of j ≡ point_of i = same_from_xor (point_of j) (point_of i) same in omega arith))
    (xor_of_8 (point_of j) (point_of i) (omega arith) (omega (arith, all.0))) (differences_lt is (point_of j)) e)

-- it is 0 at the point of each of the members
pub differences-root : (members : List ℕ) (k : ℕ) → k < length members → differences members (point_of (get_or members k 0)) ≡ 0
unfolding differences
differences-root [] k h = absurd (omega arith)
differences-root (i ∷ is) zero h =
    ap (λ m. product m (differences is (point_of i))) (xor_self (point_of i)) ∙ product-zero_l (differences is (point_of i))
differences-root (i ∷ is) (suc k) h =
    ap (λ m. product (bit_xor (point_of (get_or is k 0)) (point_of i)) m) (differences-root is k (omega arith))
    ∙ product-zero_r (bit_xor (point_of (get_or is k 0)) (point_of i))

-- ---- a polynomial times x + a

-- s is the rest above the lowest coefficient
join_root : (p s low a x : ℕ) → p ≡ bit_xor (product low 1) (product x s) → bit_xor (product (product a low) 1) (product x (bit_xor p (product a s))) ≡ product (bit_xor x a) p
join_root p s low a x whole =
    let first : product (product a low) 1 ≡ product a (product low 1) = product_assoc a low 1 in
    let rest : product x (bit_xor p (product a s)) ≡ bit_xor (product x p) (product a (product x s)) =
    product-xor_r x p (product a s) ∙ ap (λ m. bit_xor (product x p) m) (product_left x a s) in
    ap (λ m. bit_xor m (product x (bit_xor p (product a s)))) first
    ∙ ap (λ m. bit_xor (product a (product low 1)) m) rest
    ∙ xor_left (product a (product low 1)) (product x p) (product a (product x s))
    ∙ ap (λ m. bit_xor (product x p) m) (sym (product-xor_r a (product low 1) (product x s)) ∙ ap (λ m. product a m) (sym whole))
    ∙ sym (product-xor_l x a p)

pub times_root-value : (c : ℕ → ℕ) (n a x : ℕ) → c n ≡ 0 → polynomial (times_root c a) (suc n) x ≡ product (bit_xor x a) (polynomial c n x)
times_root-value c n a x top =
    polynomial-low (times_root c a) n x
    ∙ ap (λ m. bit_xor (product (product a (c 0)) 1) (product x m))
    (polynomial-xor c (λ r. product a (c (suc r))) n x
    ∙ ap (λ m. bit_xor (polynomial c n x) m) (polynomial-times a (λ r. c (suc r)) n x))
    ∙ join_root (polynomial c n x) (polynomial (λ r. c (suc r)) n x) (c 0) a x (sym (polynomial-top c n x top) ∙ polynomial-low c n x)

times_root-above : (c : ℕ → ℕ) (a n : ℕ) → ((r : ℕ) → n < r → c r ≡ 0) → (r : ℕ) → suc n < r → times_root c a r ≡ 0
times_root-above c a n h zero below = absurd (omega arith)
times_root-above c a n h (suc r) below =
    ap (λ m. bit_xor m (product a (c (suc r)))) (h r (omega arith))
    ∙ ap (λ m. product a m) (h (suc r) (omega arith)) ∙ product-zero_r a

times_root-monic : (c : ℕ → ℕ) (a n : ℕ) → c n ≡ 1 → c (suc n) ≡ 0 → times_root c a (suc n) ≡ 1
times_root-monic c a n one top =
    ap (λ m. bit_xor m (product a (c (suc n)))) one
    ∙ ap (λ m. bit_xor 1 m) (ap (λ m. product a m) top ∙ product-zero_r a)

-- one member more makes a root polynomial times x + point
more_roots : (c : ℕ → ℕ) (members more : List ℕ) (j : ℕ) → length more ≡ suc (length members) → ((x : ℕ) → differences more x ≡ product (bit_xor x (point_of j)) (differences members x)) → IsRootPolynomial c members → IsRootPolynomial (times_root c (point_of j)) more
more_roots c members more j longer value h = record {
  monic = ap (λ n. times_root c (point_of j) n) longer ∙ times_root-monic c (point_of j) (length members) h.monic (h.above (suc (length members)) (omega arith));
  above = λ r below. times_root-above c (point_of j) (length members) h.above r (omega arith);
  value = λ x. ap (λ n. polynomial (times_root c (point_of j)) (suc n) x) longer
      ∙ times_root-value c (suc (length members)) (point_of j) x (h.above (suc (length members)) (omega arith))
      ∙ ap (λ m. product (bit_xor x (point_of j)) m) (h.value x) ∙ sym (value x);
}

pub IsRootPolynomial-push : (c : ℕ → ℕ) (members : List ℕ) (j : ℕ) → IsRootPolynomial c members → IsRootPolynomial (times_root c (point_of j)) (members ++ j ∷ [])
IsRootPolynomial-push c members j h =
    more_roots c members (members ++ j ∷ []) j (omega (arith, length-append members (j ∷ []))) (differences-push members j) h

pub IsRootPolynomial-cons : (c : ℕ → ℕ) (members : List ℕ) (j : ℕ) → IsRootPolynomial c members → IsRootPolynomial (times_root c (point_of j)) (j ∷ members)
unfolding differences
IsRootPolynomial-cons c members j h = more_roots c members (j ∷ members) j refl (λ x. refl) h

-- the coefficients, member by member
abbrev pub root_coefficients : List ℕ → ℕ → ℕ
root_coefficients [] zero = 1
root_coefficients [] (suc r) = 0
root_coefficients (j ∷ js) r = times_root (root_coefficients js) (point_of j) r

pub IsRootPolynomial-root_coefficients : (members : List ℕ) → IsRootPolynomial (root_coefficients members) members
unfolding differences polynomial power
IsRootPolynomial-root_coefficients [] = record { monic = refl; above = no_more; value = λ x. product-one_r 1 (omega arith) }
  where
    no_more : (r : ℕ) → 0 < r → root_coefficients [] r ≡ 0
    no_more zero h = absurd (omega arith)
    no_more (suc r) h = refl
IsRootPolynomial-root_coefficients (j ∷ js) =
    IsRootPolynomial-cons (root_coefficients js) js j (IsRootPolynomial-root_coefficients js)

-- the same coefficients
pub IsRootPolynomial-same : (c d : ℕ → ℕ) (members : List ℕ) → ((r : ℕ) → c r ≡ d r) → IsRootPolynomial c members → IsRootPolynomial d members
IsRootPolynomial-same c d members e h = record {
  monic = sym (e (length members)) ∙ h.monic;
  above = λ r below. sym (e r) ∙ h.above r below;
  value = λ x. polynomial-same d c (suc (length members)) x (λ r below. sym (e r)) ∙ h.value x;
}
