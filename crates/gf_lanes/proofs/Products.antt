-- A product is additive in each factor, is a byte, and reads the low bytes of its factors alone.
use Rattle.std.proofs.Common.{◌≡◌, ℕ, zero, suc, ◌+◌, ◌*◌, ◌/◌, ◌%◌, ◌^◌, ◌<◌, ◌≤◌, refl, sym, ap, ◌∙◌, arith, bit_xor}
use Rattle.std.specs.Int.{bit_at}
use Rattle.std.proofs.lemmas.Nat.{xor_mod, xor_of_8}
use Rattle.std.proofs.lemmas.Nat.Bits.{bit_at_cat_low}
use Rattle.gf_lanes.specs.Field.{double, doubled, sum_of_doubled, product}
use Rattle.gf_lanes.proofs.Bits.{double-xor, double_lt, times_bit-xor, times_bit_lt, xor_cross}
use Rattle.gf_lanes.proofs.Additive.{IsAdditive}

doubled-xor : (a b i : ℕ) → doubled (bit_xor a b) i ≡ bit_xor (doubled a i) (doubled b i)
unfolding doubled
doubled-xor a b zero = xor_mod a b 8
doubled-xor a b (suc i) = ap double (doubled-xor a b i) ∙ double-xor (doubled a i) (doubled b i)

pub doubled_lt : (a i : ℕ) → doubled a i < 2 ^ 8
unfolding doubled
doubled_lt a zero = omega arith
doubled_lt a (suc i) = double_lt (doubled a i)

bit_times-xor : (x a b : ℕ) → x < 2 → x * bit_xor a b ≡ bit_xor (x * a) (x * b)
bit_times-xor zero a b h =
    let none : (n : ℕ) → 0 * n ≡ 0 = λ n. omega arith in
    none (bit_xor a b) ∙ sym (ap (λ n. bit_xor n (0 * b)) (none a) ∙ none b)
bit_times-xor (suc zero) a b h =
    let one : (n : ℕ) → 1 * n ≡ n = λ n. omega arith in
    one (bit_xor a b) ∙ sym (ap (λ n. bit_xor n (1 * b)) (one a) ∙ ap (λ n. bit_xor a n) (one b))
bit_times-xor (suc (suc x)) a b h = absurd (omega arith)

sum-xor_l : (a b c n : ℕ) → sum_of_doubled (bit_xor a b) c n ≡ bit_xor (sum_of_doubled a c n) (sum_of_doubled b c n)
unfolding sum_of_doubled
sum-xor_l a b c zero = refl
sum-xor_l a b c (suc n) =
    ap (λ m. bit_xor m (bit_at c n * doubled (bit_xor a b) n)) (sum-xor_l a b c n)
    ∙ ap (λ m. bit_xor (bit_xor (sum_of_doubled a c n) (sum_of_doubled b c n)) m) (ap (λ m. bit_at c n * m) (doubled-xor a b n) ∙ bit_times-xor (bit_at c n) (doubled a n) (doubled b n) (omega arith))
    ∙ xor_cross (sum_of_doubled a c n) (sum_of_doubled b c n) (bit_at c n * doubled a n) (bit_at c n * doubled b n)

sum-xor_r : (a b c n : ℕ) → sum_of_doubled a (bit_xor b c) n ≡ bit_xor (sum_of_doubled a b n) (sum_of_doubled a c n)
unfolding sum_of_doubled
sum-xor_r a b c zero = refl
sum-xor_r a b c (suc n) =
    ap (λ m. bit_xor m (bit_at (bit_xor b c) n * doubled a n)) (sum-xor_r a b c n)
    ∙ ap (λ m. bit_xor (bit_xor (sum_of_doubled a b n) (sum_of_doubled a c n)) m) (times_bit-xor b c n (doubled a n))
    ∙ xor_cross (sum_of_doubled a b n) (sum_of_doubled a c n) (bit_at b n * doubled a n) (bit_at c n * doubled a n)

pub sum_lt : (a b n : ℕ) → sum_of_doubled a b n < 2 ^ 8
unfolding sum_of_doubled
sum_lt a b zero = omega arith
sum_lt a b (suc n) = xor_of_8 (sum_of_doubled a b n) (bit_at b n * doubled a n) (sum_lt a b n) (times_bit_lt b n (doubled a n) (doubled_lt a n))

-- a product is a byte
pub product_lt : (a b : ℕ) → product a b < 2 ^ 8
unfolding product
product_lt a b = sum_lt a b 8

-- a product is additive in its first factor
pub product-xor_l : (a b c : ℕ) → product (bit_xor a b) c ≡ bit_xor (product a c) (product b c)
unfolding product
product-xor_l a b c = sum-xor_l a b c 8

-- a product is additive in its second factor
pub product-xor_r : (a b c : ℕ) → product a (bit_xor b c) ≡ bit_xor (product a b) (product a c)
unfolding product
product-xor_r a b c = sum-xor_r a b c 8

-- as functions of one factor
pub additive_l : (c : ℕ) → IsAdditive (λ a. product a c)
additive_l c = record { of_xor = λ a b. product-xor_l a b c }

pub additive_r : (a : ℕ) → IsAdditive (λ b. product a b)
additive_r a = record { of_xor = λ b c. product-xor_r a b c }

-- ---- the low byte

doubled-low : (a i : ℕ) → doubled (a % 256) i ≡ doubled a i
unfolding doubled
doubled-low a zero = omega arith
doubled-low a (suc i) = ap double (doubled-low a i)

sum-low_l : (a b n : ℕ) → sum_of_doubled (a % 256) b n ≡ sum_of_doubled a b n
unfolding sum_of_doubled
sum-low_l a b zero = refl
sum-low_l a b (suc n) =
    ap (λ m. bit_xor m (bit_at b n * doubled (a % 256) n)) (sum-low_l a b n)
    ∙ ap (λ m. bit_xor (sum_of_doubled a b n) (bit_at b n * m)) (doubled-low a n)

bit_low : (b i : ℕ) → i < 8 → bit_at (b % 256) i ≡ bit_at b i
bit_low b i h =
    let whole : b / 256 * 2 ^ 8 + b % 256 ≡ b = omega arith in
    sym (bit_at_cat_low (b / 256) 8 (b % 256) i h) ∙ ap (λ n. bit_at n i) whole

sum-low_r : (a b n : ℕ) → n ≤ 8 → sum_of_doubled a (b % 256) n ≡ sum_of_doubled a b n
unfolding sum_of_doubled
sum-low_r a b zero h = refl
sum-low_r a b (suc n) h =
    ap (λ m. bit_xor m (bit_at (b % 256) n * doubled a n)) (sum-low_r a b n (omega arith))
    ∙ ap (λ m. bit_xor (sum_of_doubled a b n) (m * doubled a n)) (bit_low b n (omega arith))

pub product-low_l : (a b : ℕ) → product (a % 256) b ≡ product a b
unfolding product
product-low_l a b = sum-low_l a b 8

pub product-low_r : (a b : ℕ) → product a (b % 256) ≡ product a b
unfolding product
product-low_r a b = sum-low_r a b 8 (omega arith)
