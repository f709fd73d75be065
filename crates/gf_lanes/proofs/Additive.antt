-- Two additive functions that agree on the powers of two below 2 ^ w agree below 2 ^ w.
use Rattle.std.proofs.Common.{◌≡◌, ℕ, zero, suc, ◌+◌, ◌-◌, ◌*◌, ◌^◌, ◌<◌, ◌≤◌, Bool, true, false, ◌&&◌, refl, sym, ap, ◌∙◌, arith, inl, inr, bit_xor}
use Rattle.std.proofs.Math.Nat.{two-pow-succ}
use Rattle.std.proofs.lemmas.Bool.{cases_lt}
use Rattle.std.specs.Int.Bits.{xor_shifted, xor_self}

-- the function of a sum is the sum of its values
pub record IsAdditive (f : ℕ → ℕ) : Type 0 where
  pub of_xor : (a b : ℕ) → f (bit_xor a b) ≡ bit_xor (f a) (f b)

pub additive-zero : (f : ℕ → ℕ) → IsAdditive f → f 0 ≡ 0
additive-zero f h = h.of_xor 0 0 ∙ xor_self (f 0)

-- the top bit of a number, and the rest
top_bit : (w a : ℕ) → 2 ^ w ≤ a → a < 2 ^ suc w → (bit_xor (2 ^ w) (a - 2 ^ w) ≡ a) × (a - 2 ^ w < 2 ^ w)
top_bit w a high below =
    let double_is : 2 ^ suc w ≡ 2 ^ w + 2 ^ w = two-pow-succ w in
    let rest : a - 2 ^ w < 2 ^ w = omega arith in
    let once : 1 * 2 ^ w ≡ 2 ^ w = omega arith in
    (ap (λ n. bit_xor n (a - 2 ^ w)) (sym once) ∙ xor_shifted 1 w (a - 2 ^ w) rest ∙ omega arith, rest)

pub additive_same : (f g : ℕ → ℕ) → IsAdditive f → IsAdditive g → (w : ℕ) → ((i : ℕ) → i < w → f (2 ^ i) ≡ g (2 ^ i)) → (a : ℕ) → a < 2 ^ w → f a ≡ g a
additive_same f g p q zero powers zero h = additive-zero f p ∙ sym (additive-zero g q)
additive_same f g p q zero powers (suc a) h = absurd (omega arith)
additive_same f g p q (suc w) powers a h =
    let lower : (b : ℕ) → b < 2 ^ w → f b ≡ g b = additive_same f g p q w (λ i within. powers i (omega arith)) in
    elim (cases_lt a (2 ^ w)) [
      | inl below ↦ lower a below
      | inr high ↦ split lower (powers w (omega arith)) (top_bit w a high h)
    ]
  where
    split : ((b : ℕ) → b < 2 ^ w → f b ≡ g b) → f (2 ^ w) ≡ g (2 ^ w) → (bit_xor (2 ^ w) (a - 2 ^ w) ≡ a) × (a - 2 ^ w < 2 ^ w) → f a ≡ g a
    split lower top parts =
        ap f (sym parts.0) ∙ p.of_xor (2 ^ w) (a - 2 ^ w)
        ∙ ap (λ n. bit_xor n (f (a - 2 ^ w))) top
        ∙ ap (λ n. bit_xor (g (2 ^ w)) n) (lower (a - 2 ^ w) parts.1)
        ∙ sym (q.of_xor (2 ^ w) (a - 2 ^ w)) ∙ ap g parts.0

-- whether a test passes at each number below n
abbrev pub passes_below : (ℕ → Bool) → ℕ → Bool
passes_below p zero = true
passes_below p (suc n) = p n && passes_below p n

both : (a b : Bool) → (a && b) ≡ true → (a ≡ true) × (b ≡ true)
both true b h = (refl, h)
both false b h = (cc, cc)

pub passes_at : (p : ℕ → Bool) (n : ℕ) → passes_below p n ≡ true → (i : ℕ) → i < n → p i ≡ true
passes_at p zero h i within = absurd (omega arith)
passes_at p (suc n) h i within =
    let parts : (p n ≡ true) × (passes_below p n ≡ true) = both (p n) (passes_below p n) h in
    elim (cases_lt i n) [
      | inl below ↦ passes_at p n parts.1 i below
      | inr high ↦ let same : i ≡ n = omega arith in ap p same ∙ parts.0
    ]
