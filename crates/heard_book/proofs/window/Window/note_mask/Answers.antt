use Rattle.std.proofs.Common.{◌≡◌, ℕ, ◌+◌, ◌-◌, ◌<◌, ◌≤◌, ◌^◌, ◌/◌, ◌%◌, Bool, true, false, refl, ap, ◌∙◌, sym, arith}
use Rattle.std.specs.Prelude.{◌==◌, ◌&&◌, ◌||◌, nat_lt}
use Rattle.std.specs.Int.{bit_at}
use Rattle.std.proofs.Math.Nat.{div-eq_of_lt}
use Rattle.std.proofs.Math.Pow.{pow_mono}
use Rattle.std.proofs.lemmas.Bool.{ltb-false}
use Rattle.heard_book.specs.Kept.{is_noted}
use Rattle.heard_book.proofs.window.Window.note_mask.Goals as goal

-- a byte has no bit past its eighth
past : (mask bit : ℕ) → mask < 2 ^ 8 → 8 ≤ bit → (bit_at mask bit == 1) ≡ false
past mask bit small later =
    let powers : 2 ^ 8 ≤ 2 ^ bit = pow_mono later in
    let none : mask / 2 ^ bit ≡ 0 = div-eq_of_lt (omega (arith, powers, small)) in
    ap (λ (q : ℕ). q % 2 == 1) none

all_bits : (mask prev at bits : ℕ) → mask < 2 ^ 8 → 8 ≤ bits
    → ((nat_lt prev at && nat_lt at (prev + 1 + bits)) && (bit_at mask (at - (prev + 1)) == 1)) ≡ (nat_lt prev at && (bit_at mask (at - (prev + 1)) == 1))
all_bits mask prev at bits small long = one (nat_lt at (prev + 1 + bits)) refl where
  within : (a b : Bool) → ((a && true) && b) ≡ (a && b)
  within true b = refl
  within false b = refl

  none : (a : Bool) → (a && false) ≡ false
  none true = refl
  none false = refl

  one : (hit : Bool) → nat_lt at (prev + 1 + bits) ≡ hit
      → ((nat_lt prev at && nat_lt at (prev + 1 + bits)) && (bit_at mask (at - (prev + 1)) == 1)) ≡ (nat_lt prev at && (bit_at mask (at - (prev + 1)) == 1))
  one true e = ap (λ is. (nat_lt prev at && is) && (bit_at mask (at - (prev + 1)) == 1)) e ∙ within (nat_lt prev at) (bit_at mask (at - (prev + 1)) == 1)
  one false e =
      let far : prev + 1 + bits ≤ at = ltb-false at (prev + 1 + bits) e in
      ap (λ is. (nat_lt prev at && is) && (bit_at mask (at - (prev + 1)) == 1)) e
      ∙ ap (λ is. is && (bit_at mask (at - (prev + 1)) == 1)) (none (nat_lt prev at))
      ∙ sym (ap (λ is. nat_lt prev at && is) (past mask (at - (prev + 1)) small (omega (arith, far, long))) ∙ none (nat_lt prev at))

pub returns-clause-noted : goal.returns-clause-noted
returns-clause-noted c = λ other at above.
    c.loop-bit.invariant.noted other at (omega (arith, c.loop-bit.invariant.same, above))
    ∙ ap (λ is. ((c.args.member == other) && is) || is_noted c.args.self.now other at)
    (all_bits c.args.mask c.args.prev at c.loop-bit.bit c.ranges.mask.fits (omega (arith, c.loop-bit-test.false)))
