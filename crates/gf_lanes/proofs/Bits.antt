-- Doubling, and a product by one bit, are additive.
use Rattle.std.proofs.Common.{◌≡◌, ℕ, zero, suc, ◌+◌, ◌*◌, ◌%◌, ◌^◌, ◌<◌, sym, ap, ◌∙◌, arith, bit_xor}
use Rattle.std.specs.Int.{bit_at}
use Rattle.std.specs.Int.Bits.{xor_assoc, xor_zero_r, xor_self}
use Rattle.std.proofs.lemmas.Nat.{xor_comm, xor_mod, xor_block, xor_of_8}
use Rattle.std.proofs.lemmas.Nat.Bits.{bit_at_xor, bit_at-lt}
use Rattle.gf_lanes.specs.Field.{double}

-- the first of three sums changes places with the second
pub xor_left : (a b c : ℕ) → bit_xor a (bit_xor b c) ≡ bit_xor b (bit_xor a c)
xor_left a b c = sym (xor_assoc a b c) ∙ ap (λ n. bit_xor n c) (xor_comm a b) ∙ xor_assoc b a c

-- what is added twice is gone
pub xor_again : (a b : ℕ) → bit_xor a (bit_xor a b) ≡ b
xor_again a b = sym (xor_assoc a a b) ∙ ap (λ n. bit_xor n b) (xor_self a)

-- two pairs are added crosswise
pub xor_cross : (a b c d : ℕ) → bit_xor (bit_xor a b) (bit_xor c d) ≡ bit_xor (bit_xor a c) (bit_xor b d)
xor_cross a b c d = simp (xor_assoc, xor_left)

-- numbers whose sum is 0 are equal
pub same_from_xor : (a b : ℕ) → bit_xor a b ≡ 0 → a ≡ b
same_from_xor a b h = sym (xor_zero_r a) ∙ ap (λ n. bit_xor a n) (sym h) ∙ xor_again a b

-- the sum of two bits, times d
times_bit : (x y d : ℕ) → x < 2 → y < 2 → (x + y) % 2 * d ≡ bit_xor (x * d) (y * d)
times_bit zero zero d p q = let none : 0 * d ≡ 0 = omega arith in rw none
times_bit zero (suc zero) d p q = let none : 0 * d ≡ 0 = omega arith in rw none
times_bit (suc zero) zero d p q = let none : 0 * d ≡ 0 = omega arith in rw none (sym (xor_zero_r (1 * d)))
times_bit (suc zero) (suc zero) d p q = let none : 0 * d ≡ 0 = omega arith in none ∙ sym (xor_self (1 * d))
times_bit (suc (suc x)) y d p q = absurd (omega arith)
times_bit x (suc (suc y)) d p q = absurd (omega arith)

-- a bit of a sum, times d
pub times_bit-xor : (a b i d : ℕ) → bit_at (bit_xor a b) i * d ≡ bit_xor (bit_at a i * d) (bit_at b i * d)
times_bit-xor a b i d = ap (λ n. n * d) (bit_at_xor a b i) ∙ times_bit (bit_at a i) (bit_at b i) d (bit_at-lt a i) (bit_at-lt b i)

shift-xor : (a b : ℕ) → bit_xor a b * 2 % 256 ≡ bit_xor (a * 2 % 256) (b * 2 % 256)
shift-xor a b =
    let left : a * 2 ^ 1 + 0 ≡ a * 2 = omega arith in
    let right : b * 2 ^ 1 + 0 ≡ b * 2 = omega arith in
    let sum : bit_xor a b * 2 ^ 1 + bit_xor 0 0 ≡ bit_xor a b * 2 = omega arith in
    let shifted : bit_xor a b * 2 ≡ bit_xor (a * 2) (b * 2) =
    sym sum ∙ sym (xor_block 1 a b 0 0 (omega arith) (omega arith))
    ∙ ap (λ n. bit_xor n (b * 2 ^ 1 + 0)) left ∙ ap (λ n. bit_xor (a * 2) n) right in
    ap (λ n. n % 256) shifted ∙ xor_mod (a * 2) (b * 2) 8

pub double-xor : (a b : ℕ) → double (bit_xor a b) ≡ bit_xor (double a) (double b)
unfolding double
double-xor a b =
    ap (λ n. bit_xor n (bit_at (bit_xor a b) 7 * 29)) (shift-xor a b)
    ∙ ap (λ n. bit_xor (bit_xor (a * 2 % 256) (b * 2 % 256)) n) (times_bit-xor a b 7 29)
    ∙ xor_cross (a * 2 % 256) (b * 2 % 256) (bit_at a 7 * 29) (bit_at b 7 * 29)

-- a bit times a byte is a byte
pub times_bit_lt : (n i d : ℕ) → d < 2 ^ 8 → bit_at n i * d < 2 ^ 8
times_bit_lt n i d h = at_most (bit_at n i) (bit_at-lt n i)
  where
    at_most : (x : ℕ) → x < 2 → x * d < 2 ^ 8
    at_most zero p = omega arith
    at_most (suc zero) p = omega arith
    at_most (suc (suc x)) p = absurd (omega arith)

pub double_lt : (a : ℕ) → double a < 2 ^ 8
unfolding double
double_lt a = xor_of_8 (a * 2 % 256) (bit_at a 7 * 29) (omega arith) (times_bit_lt a 7 29 (omega arith))
