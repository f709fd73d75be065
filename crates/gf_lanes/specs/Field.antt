-- The field of 256 numbers that fragments are computed in: GF(2^8) over the polynomial 0x11D. Its numbers are bytes, of a larger number the lowest byte counts, and its sum is exclusive or.
use Rattle.std.specs.Prelude.{ℕ, zero, suc, ◌*◌, ◌%◌, bit_xor}
use Rattle.std.specs.Int.{bit_at}

-- shifted left by one, and 0x1d added where bit 7 was set
unfoldable pub double : ℕ → ℕ
double a = bit_xor (a * 2 % 256) (bit_at a 7 * 0x1d)

-- a doubled i times
unfoldable pub doubled : ℕ → ℕ → ℕ
doubled a zero = a % 256
doubled a (suc i) = double (doubled a i)

-- the sum of a doubled i times, over the bits i of b that are set and are below n
unfoldable pub sum_of_doubled : ℕ → ℕ → ℕ → ℕ
sum_of_doubled a b zero = 0
sum_of_doubled a b (suc n) = bit_xor (sum_of_doubled a b n) (bit_at b n * doubled a n)

-- the product: the sum of a doubled i times, over the set bits i of b
unfoldable pub product : ℕ → ℕ → ℕ
product a b = sum_of_doubled a b 8
