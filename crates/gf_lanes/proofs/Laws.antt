-- The laws of the field: they hold on the powers of two by a table, and so everywhere, since a product is additive.
use Rattle.std.proofs.Common.{◌≡◌, ℕ, ◌%◌, ◌^◌, ◌<◌, Bool, true, eqb, eqb-true, refl, sym, ap, ◌∙◌, arith}
use Rattle.gf_lanes.specs.Field.{double, doubled, sum_of_doubled, product}
use Rattle.gf_lanes.proofs.Products.{additive_l, additive_r, product-low_l, product-low_r, product-xor_l, product-xor_r}
use Rattle.gf_lanes.proofs.Additive.{IsAdditive, additive_same, additive-zero, passes_below, passes_at}

commutes : ℕ → ℕ → Bool
unfolding double doubled sum_of_doubled product
commutes i j = eqb (product (2 ^ i) (2 ^ j)) (product (2 ^ j) (2 ^ i))

commute_table : passes_below (λ i. passes_below (λ j. commutes i j) 8) 8 ≡ true
unfolding double doubled sum_of_doubled product commutes
commute_table = refl

commute_powers : (i j : ℕ) → i < 8 → j < 8 → product (2 ^ i) (2 ^ j) ≡ product (2 ^ j) (2 ^ i)
unfolding commutes
commute_powers i j p q =
    eqb-true (product (2 ^ i) (2 ^ j)) (product (2 ^ j) (2 ^ i))
    (passes_at (λ j. commutes i j) 8 (passes_at (λ i. passes_below (λ j. commutes i j) 8) 8 commute_table i p) j q)

commute_bytes : (a b : ℕ) → a < 2 ^ 8 → b < 2 ^ 8 → product a b ≡ product b a
commute_bytes a b p q =
    additive_same (λ n. product n b) (λ n. product b n) (additive_l b) (additive_r b) 8
    (λ i within. additive_same (λ n. product (2 ^ i) n) (λ n. product n (2 ^ i)) (additive_r (2 ^ i)) (additive_l (2 ^ i)) 8
    (λ j inside. commute_powers i j within inside) b q)
    a p

-- the product doesn't depend on the order of its factors
pub product_comm : (a b : ℕ) → product a b ≡ product b a
product_comm a b =
    sym (product-low_l a b) ∙ sym (product-low_r (a % 256) b)
    ∙ commute_bytes (a % 256) (b % 256) (omega arith) (omega arith)
    ∙ product-low_l b (a % 256) ∙ product-low_r b a

associates : ℕ → ℕ → ℕ → Bool
unfolding double doubled sum_of_doubled product
associates i j k = eqb (product (product (2 ^ i) (2 ^ j)) (2 ^ k)) (product (2 ^ i) (product (2 ^ j) (2 ^ k)))

associate_table : passes_below (λ i. passes_below (λ j. passes_below (λ k. associates i j k) 8) 8) 8 ≡ true
unfolding double doubled sum_of_doubled product associates
associate_table = refl

associate_powers : (i j k : ℕ) → i < 8 → j < 8 → k < 8 → product (product (2 ^ i) (2 ^ j)) (2 ^ k) ≡ product (2 ^ i) (product (2 ^ j) (2 ^ k))
unfolding associates
associate_powers i j k p q r =
    eqb-true (product (product (2 ^ i) (2 ^ j)) (2 ^ k)) (product (2 ^ i) (product (2 ^ j) (2 ^ k)))
    (passes_at (λ k. associates i j k) 8
    (passes_at (λ j. passes_below (λ k. associates i j k) 8) 8
    (passes_at (λ i. passes_below (λ j. passes_below (λ k. associates i j k) 8) 8) 8 associate_table i p) j q) k r)

-- ---- products of three, as functions of one factor
first_left : (b c : ℕ) → IsAdditive (λ a. product (product a b) c)
first_left b c = record { of_xor = λ x y. ap (λ n. product n c) (product-xor_l x y b) ∙ product-xor_l (product x b) (product y b) c }

second_left : (a c : ℕ) → IsAdditive (λ b. product (product a b) c)
second_left a c = record { of_xor = λ x y. ap (λ n. product n c) (product-xor_r a x y) ∙ product-xor_l (product a x) (product a y) c }

second_right : (a c : ℕ) → IsAdditive (λ b. product a (product b c))
second_right a c = record { of_xor = λ x y. ap (λ n. product a n) (product-xor_l x y c) ∙ product-xor_r a (product x c) (product y c) }

third_right : (a b : ℕ) → IsAdditive (λ c. product a (product b c))
third_right a b = record { of_xor = λ x y. ap (λ n. product a n) (product-xor_r b x y) ∙ product-xor_r a (product b x) (product b y) }

associate_third : (i j c : ℕ) → i < 8 → j < 8 → c < 2 ^ 8 → product (product (2 ^ i) (2 ^ j)) c ≡ product (2 ^ i) (product (2 ^ j) c)
associate_third i j c p q r =
    additive_same (λ n. product (product (2 ^ i) (2 ^ j)) n) (λ n. product (2 ^ i) (product (2 ^ j) n))
    (additive_r (product (2 ^ i) (2 ^ j))) (third_right (2 ^ i) (2 ^ j)) 8 (λ k within. associate_powers i j k p q within) c r

associate_second : (i b c : ℕ) → i < 8 → b < 2 ^ 8 → c < 2 ^ 8 → product (product (2 ^ i) b) c ≡ product (2 ^ i) (product b c)
associate_second i b c p q r =
    additive_same (λ n. product (product (2 ^ i) n) c) (λ n. product (2 ^ i) (product n c))
    (second_left (2 ^ i) c) (second_right (2 ^ i) c) 8 (λ j within. associate_third i j c p within r) b q

associate_bytes : (a b c : ℕ) → a < 2 ^ 8 → b < 2 ^ 8 → c < 2 ^ 8 → product (product a b) c ≡ product a (product b c)
associate_bytes a b c p q r =
    additive_same (λ n. product (product n b) c) (λ n. product n (product b c))
    (first_left b c) (additive_l (product b c)) 8 (λ i within. associate_second i b c within q r) a p

-- the product of three factors doesn't depend on which two are multiplied first
pub product_assoc : (a b c : ℕ) → product (product a b) c ≡ product a (product b c)
product_assoc a b c =
    sym (ap (λ n. product n c) (product-low_r (a % 256) b ∙ product-low_l a b))
    ∙ sym (product-low_r (product (a % 256) (b % 256)) c)
    ∙ associate_bytes (a % 256) (b % 256) (c % 256) (omega arith) (omega arith) (omega arith)
    ∙ product-low_l a (product (b % 256) (c % 256))
    ∙ ap (λ n. product a n) (product-low_l b (c % 256) ∙ product-low_r b c)

-- the factors of three change places
pub product_left : (a b c : ℕ) → product a (product b c) ≡ product b (product a c)
product_left a b c = sym (product_assoc a b c) ∙ ap (λ n. product n c) (product_comm a b) ∙ product_assoc b a c

pub product-zero_l : (b : ℕ) → product 0 b ≡ 0
product-zero_l b = additive-zero (λ n. product n b) (additive_l b)

pub product-zero_r : (a : ℕ) → product a 0 ≡ 0
product-zero_r a = additive-zero (λ n. product a n) (additive_r a)

is_kept : ℕ → Bool
unfolding double doubled sum_of_doubled product
is_kept i = eqb (product (2 ^ i) 1) (2 ^ i)

kept_table : passes_below (λ i. is_kept i) 8 ≡ true
unfolding double doubled sum_of_doubled product is_kept
kept_table = refl

identity : IsAdditive (λ n. n)
identity = record { of_xor = λ a b. refl }

-- 1 leaves a byte as it is
pub product-one_r : (a : ℕ) → a < 2 ^ 8 → product a 1 ≡ a
unfolding is_kept
product-one_r a h =
    additive_same (λ n. product n 1) (λ n. n) (additive_l 1) identity 8
    (λ i within. eqb-true (product (2 ^ i) 1) (2 ^ i) (passes_at (λ i. is_kept i) 8 kept_table i within)) a h

pub product-one_l : (a : ℕ) → a < 2 ^ 8 → product 1 a ≡ a
product-one_l a h = product_comm 1 a ∙ product-one_r a h
