use Rattle.std.proofs.Common.{◌≡◌, ℕ, ◌*◌, ◌^◌, ◌%◌, ◌<◌, Bool, true, false, bit_or, refl, ap, ◌∙◌, sym, arith, w16}
use Rattle.std.specs.Prelude.{◌==◌, ◌||◌}
use Rattle.std.specs.Int.{bit_at}
use Rattle.std.proofs.lemmas.Bool.{eqb-true, eqb-false}
use Rattle.std.proofs.lemmas.Nat.Bits.{bit_at_set_same, bit_at_set_other}
use Rattle.heard_book.proofs.masks.with_member.Goals as goal

marked : (mask member bit other : ℕ) → bit ≡ member → bit < 15 → (bit_at (bit_or mask (1 * 2 ^ bit % 65536)) other == 1) ≡ ((member == other) || (bit_at mask other == 1))
marked mask member bit other is small = one (member == other) refl where
  one : (hit : Bool) → (member == other) ≡ hit → (bit_at (bit_or mask (1 * 2 ^ bit % 65536)) other == 1) ≡ ((member == other) || (bit_at mask other == 1))
  one true e =
      ap (λ (o : ℕ). bit_at (bit_or mask (1 * 2 ^ bit % 65536)) o == 1) (sym (is ∙ eqb-true member other e))
      ∙ ap (λ (n : ℕ). n == 1) (bit_at_set_same w16 mask bit (omega (arith, small))) ∙ sym (ap (λ hit. hit || (bit_at mask other == 1)) e)
  one false e =
      ap (λ (n : ℕ). n == 1) (bit_at_set_other w16 mask bit (omega (arith, small)) other (λ same. eqb-false member other e (sym (same ∙ is))))
      ∙ sym (ap (λ hit. hit || (bit_at mask other == 1)) e)

pub returns : goal.returns
returns c = λ other. marked c.args.mask c.args.member c.number.result other c.number.ensures.value (omega (arith, c.number.ensures.value, c.number.ensures.range))
