use Rattle.std.proofs.Common.{◌≡◌, ℕ, ◌<◌, ◌≤◌, ◌^◌, ◌/◌, ◌%◌, ◌==◌, false, ap, ◌∙◌, sym, arith}
use Rattle.std.specs.Prelude.{nat_lt}
use Rattle.std.specs.Int.{bit_at}
use Rattle.std.proofs.Math.Nat.{div-eq_of_lt}
use Rattle.std.proofs.Math.Pow.{pow_mono}
use Rattle.std.proofs.lemmas.Bool.Decides.{nat_tests}
use Rattle.craft_base.proofs.heard_list.has_bit.Goals as goal

-- a byte has no bit past its eighth
past : (mask bit : ℕ) → mask < 2 ^ 8 → nat_lt bit 8 ≡ false → (bit_at mask bit == 1) ≡ false
past mask bit small far =
    let later : 8 ≤ bit = grind (arith, nat_tests) in
    let powers : 2 ^ 8 ≤ 2 ^ bit = pow_mono later in
    let none : mask / 2 ^ bit ≡ 0 = div-eq_of_lt (omega (arith, powers)) in
    ap (λ q. q % 2 == 1) none

pub returns-else-bit-lt8 : goal.returns-else-bit-lt8
returns-else-bit-lt8 c =
    let far : nat_lt c.args.bit 8 ≡ false = not_less c.args.bit c.if-bit-lt8.false in
    far ∙ sym (past c.args.mask c.args.bit c.ranges.mask.fits far) where
      not_less : (bit : ℕ) → 8 ≤ bit → nat_lt bit 8 ≡ false
      not_less bit h = grind (arith, nat_tests)
