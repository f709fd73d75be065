-- Each byte but 0 has one inverse, its power 254.
use Rattle.std.proofs.Common.{◌≡◌, ℕ, zero, suc, ◌+◌, ◌^◌, ◌<◌, ◌≢◌, Bool, true, eqb, eqb-true, refl, sym, ap, ◌∙◌, arith}
use Rattle.gf_lanes.specs.Field.{double, doubled, sum_of_doubled, product}
use Rattle.gf_lanes.proofs.Additive.{passes_below, passes_at}
use Rattle.gf_lanes.proofs.Products.{product-xor_r, product_lt}
use Rattle.gf_lanes.specs.Laws.{IsField}
use Rattle.gf_lanes.proofs.Laws.{product_comm, product_assoc, product-zero_r, product-one_l, product-one_r}

-- a squared i times
unfoldable pub squared : ℕ → ℕ → ℕ
squared a zero = a
squared a (suc i) = product (squared a i) (squared a i)

-- the product of the first n of those squares
unfoldable pub squares_product : ℕ → ℕ → ℕ
squares_product a zero = 1
squares_product a (suc n) = product (squares_product a n) (squared a (suc n))

is_inverted : ℕ → Bool
unfolding double doubled sum_of_doubled product squared squares_product
is_inverted a = eqb (product (a + 1) (squares_product (a + 1) 7)) 1

inverse_table : passes_below (λ a. is_inverted a) 255 ≡ true
unfolding double doubled sum_of_doubled product squared squares_product is_inverted
inverse_table = refl

inverse_at : (a : ℕ) → a < 255 → product (a + 1) (squares_product (a + 1) 7) ≡ 1
unfolding is_inverted
inverse_at a h = eqb-true (product (a + 1) (squares_product (a + 1) 7)) 1 (passes_at (λ a. is_inverted a) 255 inverse_table a h)

-- a byte that isn't 0, times its power 254
pub product-inverse : (a : ℕ) → a ≢ 0 → a < 2 ^ 8 → product a (squares_product a 7) ≡ 1
product-inverse zero p h = absurd (p refl)
product-inverse (suc a) p h =
    let next : suc a ≡ a + 1 = omega arith in
    ap (λ n. product n (squares_product n 7)) next ∙ inverse_at a (omega arith)

pub squares_product_lt : (a n : ℕ) → squares_product a n < 2 ^ 8
unfolding squares_product
squares_product_lt a zero = omega arith
squares_product_lt a (suc n) = product_lt (squares_product a n) (squared a (suc n))

-- factors that give one product with the same byte are equal, where that byte has an inverse
cancel_by : (a i b c : ℕ) → product a i ≡ 1 → b < 2 ^ 8 → c < 2 ^ 8 → product a b ≡ product a c → b ≡ c
cancel_by a i b c one p q same =
    let back : (n : ℕ) → n < 2 ^ 8 → product i (product a n) ≡ n = λ n h.
    sym (product_assoc i a n) ∙ ap (λ m. product m n) (product_comm i a ∙ one) ∙ product-one_l n h in
    sym (back b p) ∙ ap (λ m. product i m) same ∙ back c q

-- a byte that isn't 0 can be cancelled
pub product_cancel : (a b c : ℕ) → a ≢ 0 → a < 2 ^ 8 → b < 2 ^ 8 → c < 2 ^ 8 → product a b ≡ product a c → b ≡ c
product_cancel a b c p h = cancel_by a (squares_product a 7) b c (product-inverse a p h)

-- a product of bytes is 0 only where one of them is
pub zero_from_product : (a b : ℕ) → a ≢ 0 → a < 2 ^ 8 → b < 2 ^ 8 → product a b ≡ 0 → b ≡ 0
zero_from_product a b p h k zero_is = product_cancel a b 0 p h k (omega arith) (zero_is ∙ sym (product-zero_r a))

-- the laws, together
pub product_field : IsField product
product_field = record {
  closed = product_lt;
  commutative = product_comm;
  associative = product_assoc;
  distributive = product-xor_r;
  one = product-one_r;
  inverse = λ a p h. (squares_product a 7, squares_product_lt a 7, product-inverse a p h);
}
