-- Blocks of 32 numbers, as vectors hold them.
use Rattle.std.specs.Prelude.{◌≡◌, ℕ, ◌+◌, ◌*◌, ◌%◌, ◌<◌, ◌≤◌, List, length, slice_index}
use Rattle.gf_lanes.specs.Field.{product}

-- v has 32 lanes, and lane k holds f k
pub record HasLanes (v : List ℕ) (f : ℕ → ℕ) : Type 0 where
  pub long : length v ≡ 32
  pub each : (k : ℕ) → k < 32 → slice_index v k ≡ f k

-- the products of c with the numbers below 16, and with 16 times those, each of the two twice over
pub record AreProducts (c : ℕ) (low high : List ℕ) : Type 0 where
  pub of_low : HasLanes low (λ k. product c (k % 16))
  pub of_high : HasLanes high (λ k. product c (16 * (k % 16)))

-- new is old with a block's lanes in the 32 places from at on
pub record IsStored (old : List ℕ) (block : List ℕ) (at : ℕ) (new : List ℕ) : Type 0 where
  pub within : (k : ℕ) → k < 32 → slice_index new (at + k) ≡ slice_index block k
  pub below : (p : ℕ) → p < at → slice_index new p ≡ slice_index old p
  pub above : (p : ℕ) → at + 32 ≤ p → slice_index new p ≡ slice_index old p
