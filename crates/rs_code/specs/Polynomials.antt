-- Polynomials over the field of bytes, as functions from a power to its coefficient.
use Rattle.std.specs.Prelude.{ℕ, zero, suc, bit_xor}
use Rattle.gf_lanes.specs.Field.{product}

-- x to the power r
unfoldable pub power : ℕ → ℕ → ℕ
power x zero = 1
power x (suc r) = product x (power x r)

-- the value at x of the polynomial of n coefficients: the sum of each coefficient times its power of x
unfoldable pub polynomial : (ℕ → ℕ) → ℕ → ℕ → ℕ
polynomial coefficient zero x = 0
polynomial coefficient (suc n) x = bit_xor (polynomial coefficient n x) (product (coefficient n) (power x n))
