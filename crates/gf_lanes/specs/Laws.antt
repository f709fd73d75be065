-- What makes bytes a field, with exclusive or as their sum.
use Rattle.std.specs.Prelude.{ℕ, ◌≡◌, ◌≢◌, ◌<◌, bit_xor}

-- the laws of a product of bytes; those of the sum are the laws of exclusive or
pub record IsField (times : ℕ → ℕ → ℕ) : Type 0 where
  pub closed : (a b : ℕ) → times a b < 256
  pub commutative : (a b : ℕ) → times a b ≡ times b a
  pub associative : (a b c : ℕ) → times (times a b) c ≡ times a (times b c)
  pub distributive : (a b c : ℕ) → times a (bit_xor b c) ≡ bit_xor (times a b) (times a c)
  pub one : (a : ℕ) → a < 256 → times a 1 ≡ a
  pub inverse : (a : ℕ) → a ≢ 0 → a < 256 → (b : ℕ) × (b < 256) × (times a b ≡ 1)
