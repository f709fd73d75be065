use Rattle.std.proofs.Common.{◌≡◌, ℕ, ◌*◌, ◌/◌, ◌%◌, ◌^◌, ◌<◌, List, length, get_or, replicate, ◌∙◌, arith, bit_and, Fits, w8}
use Rattle.std.proofs.lemmas.Nat.{and_mask}
use Rattle.std.proofs.lemmas.Simd.{Each1-get_or}
use Rattle.std.specs.Simd.Lanes.{zip2, Each1}
use Rattle.gf_lanes.specs.Field.{product}
use Rattle.gf_lanes.specs.Lanes.{HasLanes}
use Rattle.gf_lanes.proofs.Blocks.{HasLanes-splat, HasLanes-sum, HasLanes-same, SwzOk-nibbles, HasLanes-look_up, product_halves}
use Rattle.gf_lanes.proofs.lanes.looked_up.Goals as goal

low_bits : (v : List ℕ) → length v ≡ 32 → HasLanes (zip2 bit_and v (replicate 32 15)) (λ k. get_or v k 0 % 16)
low_bits v long =
    let h = HasLanes-splat bit_and v 15 long in
    record { long = h.long; each = λ k l. h.each k l ∙ and_mask (get_or v k 0) 4 }

high_bits : (v : List ℕ) → length v ≡ 32 → HasLanes (zip2 (λ a b. a / 2 ^ b) v (replicate 32 4)) (λ k. get_or v k 0 / 16)
high_bits v long = HasLanes-splat (λ a b. a / 2 ^ b) v 4 long

small : (v : List ℕ) → length v ≡ 32 → Each1 (Fits w8) v → (k : ℕ) → k < 32 → get_or v k 0 / 16 < 16
small v long fits k l = omega (arith, (Each1-get_or (Fits w8) v k 0 (omega arith) fits).fits)

pub swizzle-low : goal.swizzle-low
swizzle-low c = SwzOk-nibbles _ _ (low_bits c.args.block c.fits-block.0) (λ k l. omega arith)

pub swizzle-high : goal.swizzle-high
swizzle-high c = SwzOk-nibbles _ _ (high_bits c.args.block c.fits-block.0) (small c.args.block c.fits-block.0 c.fits-block.1)

pub returns : goal.returns
returns c =
    let v : List ℕ = c.args.block in
    HasLanes-same _ _ _
    (HasLanes-sum _ _ _ _
    (HasLanes-look_up _ _ (low_bits v c.fits-block.0) (λ k l. omega arith) c.args.low (λ n. product c.args.c n) c.requires.of_low)
    (HasLanes-look_up _ _ (high_bits v c.fits-block.0) (small v c.fits-block.0 c.fits-block.1) c.args.high (λ n. product c.args.c (16 * n)) c.requires.of_high))
    (λ k l. product_halves c.args.c (get_or v k 0))
