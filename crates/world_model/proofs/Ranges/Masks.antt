-- A mask of so many entries has no other bits.
use Rattle.std.proofs.Common.{◌≡◌, ℕ, zero, suc, ◌+◌, ◌*◌, ◌^◌, ◌<◌, ◌≤◌, Bool, true, false, List, [], ◌∷◌, length, arith, if◌then◌else◌}
use Rattle.std.proofs.Math.Nat.{pow-succ'}
use Rattle.craft_base.specs.declared.command.Entry.{Entry}
use Rattle.world_model.specs.Quorums.{is_whole}
use Rattle.world_model.specs.Rules.Append.{mask_of}

bit_small : (b : Bool) → (if b then 1 else 0) ≤ 1
bit_small true = omega arith
bit_small false = omega arith

twice_more : (p q : ℕ) → 0 < p → q ≡ 2 * p → 0 < q
twice_more p q some is = omega (arith, some, is)

power_positive : (n : ℕ) → 0 < 2 ^ n
power_positive zero = omega arith
power_positive (suc n) = twice_more (2 ^ n) (2 ^ suc n) (power_positive n) (pow-succ' 2 n)

bounded : (b m p q : ℕ) → b ≤ 1 → m < p → q ≡ 2 * p → b + 2 * m < q
bounded b m p q low less is = omega (arith, low, less, is)

pub mask_low : (n : ℕ) (es : List Entry) → length es ≤ n → mask_of es < 2 ^ n
mask_low n [] le = power_positive n
mask_low zero (e ∷ es) le = absurd (omega (arith, le))
mask_low (suc n) (e ∷ es) le =
    bounded (if is_whole e.form then 1 else 0) (mask_of es) (2 ^ n) (2 ^ suc n) (bit_small (is_whole e.form)) (mask_low n es (omega (arith, le))) (pow-succ' 2 n)
