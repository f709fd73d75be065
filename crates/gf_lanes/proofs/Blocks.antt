-- What the operations on blocks hold at each lane.
use Rattle.std.proofs.Common.{◌≡◌, ℕ, ◌+◌, ◌-◌, ◌*◌, ◌/◌, ◌%◌, ◌<◌, ◌≤◌, ◌^◌, List, Bool, true, false, cond, leb, eqb, eqb-true, length, get_or, replicate, refl, sym, ap, ◌∙◌, arith, inl, inr, w8, bit_xor}
use Rattle.std.specs.Int.{bit_at}
use Rattle.std.specs.Simd.Lanes.{zip2, sel_l}
use Rattle.std.proofs.lemmas.Bool.{leb-true, leb-false, cases_lt}
use Rattle.std.proofs.lemmas.Simd.{length-zip2, get_or-zip2, get_or-replicate, length-sel_l, get_or-sel_l, length-swz_l, get_or-swz_l_below, swz_l, SwzOk, SwzOk-from_below, Each1-from_get_or}
use Rattle.std.specs.Int.Bits.{xor_shifted}
use Rattle.std.proofs.lemmas.Nat.{xor_comm}
use Rattle.gf_lanes.specs.Field.{double, doubled, sum_of_doubled, product}
use Rattle.gf_lanes.specs.Lanes.{HasLanes, IsStored}
use Rattle.gf_lanes.proofs.Bits.{double-xor}
use Rattle.gf_lanes.proofs.Additive.{additive_same, passes_below, passes_at}
use Rattle.gf_lanes.proofs.Products.{additive_r, product-xor_l, product-xor_r}
use Rattle.gf_lanes.proofs.Laws.{product-one_l}

-- an operator on two blocks
pub HasLanes-zip2 : (f : ℕ → ℕ → ℕ) (a b : List ℕ) → length a ≡ 32 → length b ≡ 32 → HasLanes (zip2 f a b) (λ k. f (get_or a k 0) (get_or b k 0))
HasLanes-zip2 f a b p q = record {
  long = length-zip2 f a b (p ∙ sym q) ∙ p;
  each = λ k l. get_or-zip2 f a b k 0 0 0 (omega arith) (omega arith);
}

-- an operator on a block and a splat
pub HasLanes-splat : (f : ℕ → ℕ → ℕ) (a : List ℕ) (x : ℕ) → length a ≡ 32 → HasLanes (zip2 f a (replicate 32 x)) (λ k. f (get_or a k 0) x)
HasLanes-splat f a x p =
    let h = HasLanes-zip2 f a (replicate 32 x) p refl in
    record { long = h.long; each = λ k l. h.each k l ∙ ap (f (get_or a k 0)) (get_or-replicate 32 k x 0 l) }

-- a choice of two splats by the comparison of a splat with a block
pub HasLanes-select : (t : ℕ → ℕ → Bool) (x : ℕ) (a : List ℕ) (y z : ℕ) → length a ≡ 32
    → HasLanes (sel_l (zip2 t (replicate 32 x) a) (replicate 32 y) (replicate 32 z)) (λ k. cond (t x (get_or a k 0)) y z)
HasLanes-select t x a y z p =
    let long : length (zip2 t (replicate 32 x) a) ≡ 32 = length-zip2 t (replicate 32 x) a (sym p) in
    record {
      long = length-sel_l _ (replicate 32 y) (replicate 32 z) long long ∙ long;
      each = λ k l.
          get_or-sel_l _ (replicate 32 y) (replicate 32 z) k 0 (omega arith) l l
          ∙ (λ i. cond ((get_or-zip2 t (replicate 32 x) a k 0 0 false l (omega arith) ∙ ap (λ n. t n (get_or a k 0)) (get_or-replicate 32 k x 0 l)) i) (get_or-replicate 32 k y 0 l i) (get_or-replicate 32 k z 0 l i));
    }

-- the sum of two blocks whose lanes are known
pub HasLanes-sum : (a b : List ℕ) (f g : ℕ → ℕ) → HasLanes a f → HasLanes b g → HasLanes (zip2 bit_xor a b) (λ k. bit_xor (f k) (g k))
HasLanes-sum a b f g p q =
    let h = HasLanes-zip2 bit_xor a b p.long q.long in
    record {
      long = h.long;
      each = λ k l. h.each k l ∙ ap (λ n. bit_xor n (get_or b k 0)) (p.each k l) ∙ ap (bit_xor (f k)) (q.each k l);
    }

-- lanes that are the same by each other name
pub HasLanes-same : (v : List ℕ) (f g : ℕ → ℕ) → HasLanes v f → ((k : ℕ) → k < 32 → f k ≡ g k) → HasLanes v g
HasLanes-same v f g h same = record { long = h.long; each = λ k l. h.each k l ∙ same k l }

-- ---- a look-up, at places below 16

module _ (js : List ℕ) (f : ℕ → ℕ) (h : HasLanes js f) (small : (k : ℕ) → k < 32 → f k < 16) where
  pub SwzOk-nibbles : SwzOk w8 16 32 0 js
  SwzOk-nibbles =
      let long = h.long in
      SwzOk-from_below w8 16 2 32 0 js refl (omega arith) (Each1-from_get_or (λ j. j < 16) js 0 (λ i l. omega (arith, h.each i (omega arith), small i (omega arith))))

  HasLanes-swz_l : (table : List ℕ) → HasLanes (swz_l w8 16 table 0 js) (λ k. get_or table (16 * (k / 16) + f k) 0)
  HasLanes-swz_l table =
      let long = h.long in
      record {
        long = length-swz_l w8 16 table 0 js ∙ long;
        each = λ k l.
            let e = h.each k l in
            get_or-swz_l_below w8 16 table 0 js k (omega arith) (omega (arith, small k l)) ∙ ap (λ j. get_or table j 0) (omega arith);
      }

  -- in a block that holds the values of g twice over
  pub HasLanes-look_up : (wide : List ℕ) (g : ℕ → ℕ) → HasLanes wide (λ k. g (k % 16)) → HasLanes (swz_l w8 16 wide 0 js) (λ k. g (f k))
  HasLanes-look_up wide g twice =
      let got = HasLanes-swz_l wide in
      record {
        long = got.long;
        each = λ k l.
            let below = small k l in
            got.each k l ∙ twice.each (16 * (k / 16) + f k) (omega arith) ∙ ap g (omega arith);
      }

-- ---- one number

-- the carry of a byte, by a comparison
carry_at : (b : Bool) (a : ℕ) → leb 128 a ≡ b → a < 2 ^ 8 → cond b 29 0 ≡ bit_at a 7 * 29
carry_at true a e h = let high : 128 ≤ a = leb-true 128 a e in omega arith
carry_at false a e h = let low : a < 128 = leb-false 128 a e in omega arith

pub double_is : (a : ℕ) → a < 2 ^ 8 → bit_xor (a * 2 ^ 1 % 2 ^ 8) (cond (leb 128 a) 29 0) ≡ double a
unfolding double
double_is a h = ap (bit_xor (a * 2 % 256)) (carry_at (leb 128 a) a refl h)

-- a product is the sum of those with the low and with the high four bits
pub product_halves : (c a : ℕ) → bit_xor (product c (a % 16)) (product c (16 * (a / 16))) ≡ product c a
product_halves c a =
    let whole : a / 16 * 2 ^ 4 + a % 16 ≡ a = omega arith in
    let high : 16 * (a / 16) ≡ a / 16 * 2 ^ 4 = omega arith in
    sym (product-xor_r c (a % 16) (16 * (a / 16)))
    ∙ ap (product c) (xor_comm (a % 16) (16 * (a / 16)) ∙ ap (λ n. bit_xor n (a % 16)) high ∙ xor_shifted (a / 16) 4 (a % 16) (omega arith) ∙ whole)

is_doubled : ℕ → Bool
unfolding double doubled sum_of_doubled product
is_doubled i = eqb (product 2 (2 ^ i)) (double (2 ^ i))

doubled_table : passes_below (λ i. is_doubled i) 8 ≡ true
unfolding double doubled sum_of_doubled product is_doubled
doubled_table = refl

-- twice a byte is its double
pub product-two : (a : ℕ) → a < 2 ^ 8 → product 2 a ≡ double a
unfolding is_doubled
product-two a h =
    additive_same (λ n. product 2 n) (λ n. double n) (additive_r 2) (record { of_xor = λ x y. double-xor x y }) 8
    (λ i within. eqb-true (product 2 (2 ^ i)) (double (2 ^ i)) (passes_at (λ i. is_doubled i) 8 doubled_table i within)) a h

-- three times a byte is the byte and its double
pub product-three : (a : ℕ) → a < 2 ^ 8 → product 3 a ≡ bit_xor a (double a)
product-three a h =
    product-xor_l 1 2 a ∙ ap (λ n. bit_xor n (product 2 a)) (product-one_l a h) ∙ ap (bit_xor a) (product-two a h)

-- ---- a loop over blocks

-- where the places below `at` hold the values of f and the others what they held, a block of those values takes this on
pub stored_step : (f old : ℕ → ℕ) (now new block : List ℕ) (at next : ℕ) → next ≡ at + 32 → ((p : ℕ) → p < at → get_or now p 0 ≡ f p) → ((p : ℕ) → at ≤ p → get_or now p 0 ≡ old p)
    → HasLanes block (λ k. f (at + k)) → IsStored now block at new
    → ((p : ℕ) → p < next → get_or new p 0 ≡ f p) × ((p : ℕ) → next ≤ p → get_or new p 0 ≡ old p)
stored_step f old now new block at next step done left lanes stored = (
  λ p below. elim (cases_lt p at) [
    | inl before ↦ stored.below p before ∙ done p before
    | inr from ↦ in_block p from (omega arith)
  ],
  λ p past. stored.above p (omega arith) ∙ left p (omega arith),
)
  where
    in_block : (p : ℕ) → at ≤ p → p < at + 32 → get_or new p 0 ≡ f p
    in_block p from below =
        let place : at + (p - at) ≡ p = omega arith in
        ap (λ n. get_or new n 0) (sym place) ∙ stored.within (p - at) (omega arith) ∙ lanes.each (p - at) (omega arith) ∙ ap f place
