-- What a rebuilder answers and keeps, by what it is seen as.
use Rattle.std.proofs.Common.{◌≡◌, ◌≢◌, ℕ, zero, suc, ◌<◌, ◌≤◌, List, length, take, slice_index, true, false, ◌==◌, inl, inr, sym, ap, ◌∙◌, arith, bit_xor, cond, eq-eqb, ne_eqb}
use Rattle.std.specs.List.{list_any}
use Rattle.std.proofs.lemmas.Bool.{cases_lt}
use Rattle.std.proofs.lemmas.List.{length-map, length-take-le, get_or_past}
use Rattle.gf_lanes.specs.Field.{product}
use Rattle.gf_lanes.proofs.Laws.{product-zero_r}
use Rattle.craft_base.specs.Parts.{part_length}
use Rattle.rs_code.specs.declared.rebuilder.Added.TheVariants.{Taken, Known, Enough}
use Rattle.rs_code.specs.declared.rebuilder.Rebuilder.TheInside.{Inside}
use Rattle.rs_code.specs.Rebuilding.{Rebuilding, is_taken}
use Rattle.rs_code.specs.Roots.{IsRootPolynomial, times_root}
use Rattle.rs_code.specs.Registers.{part_of, rebuilding_of, KeepsParts}
use Rattle.rs_code.specs.Answers.{answer_to}
use Rattle.rs_code.proofs.Members.{is_taken-parts}

-- ---- the answer

pub answer_known : (rebuilding : Rebuilding) (j : ℕ) → is_taken rebuilding.parts j ≡ true → Known ≡ answer_to rebuilding j
answer_known rebuilding j h = ap (λ b. cond b Known (cond (length rebuilding.parts == rebuilding.need) Enough Taken)) (sym h)

pub answer_enough : (rebuilding : Rebuilding) (j : ℕ) → is_taken rebuilding.parts j ≡ false → length rebuilding.parts ≡ rebuilding.need → Enough ≡ answer_to rebuilding j
answer_enough rebuilding j h all =
    ap (λ b. cond b Enough Taken) (sym (eq-eqb (length rebuilding.parts) rebuilding.need all))
    ∙ ap (λ b. cond b Known (cond (length rebuilding.parts == rebuilding.need) Enough Taken)) (sym h)

pub answer_taken : (rebuilding : Rebuilding) (j : ℕ) → is_taken rebuilding.parts j ≡ false → length rebuilding.parts ≢ rebuilding.need → Taken ≡ answer_to rebuilding j
answer_taken rebuilding j h few =
    ap (λ b. cond b Enough Taken) (sym (ne_eqb (length rebuilding.parts) rebuilding.need few))
    ∙ ap (λ b. cond b Known (cond (length rebuilding.parts == rebuilding.need) Enough Taken)) (sym h)

-- ---- what is seen

pub members_long : (inside : Inside) → KeepsParts inside → length (take inside.count inside.members) ≡ inside.count
members_long inside h = length-take-le inside.count inside.members (omega (arith, h.within, h.most_need, h.places))

pub parts_long : (inside : Inside) → KeepsParts inside → length (rebuilding_of inside).parts ≡ inside.count
parts_long inside h =
    length-map (take inside.count inside.members) (part_of inside.registers.items (part_length inside.value_length inside.need) inside.count) ∙ members_long inside h

pub taken_is : (inside : Inside) (j : ℕ) → is_taken (rebuilding_of inside).parts j ≡ list_any (λ y. y == j) (take inside.count inside.members)
taken_is inside j = is_taken-parts inside.registers.items (part_length inside.value_length inside.need) inside.count j (take inside.count inside.members)

-- ---- the polynomial of the roots, as nine numbers

-- those of a polynomial times x + a, past the ninth too, where the degree isn't 8
pub nine_roots : (m n members : List ℕ) (a : ℕ) → IsRootPolynomial (slice_index m) members → length members ≤ 7 → length m ≡ 9 → length n ≡ 9 → ((r : ℕ) → r < 9 → slice_index n r ≡ times_root (slice_index m) a r) → (r : ℕ) → times_root (slice_index m) a r ≡ slice_index n r
nine_roots m n members a h few m_long n_long made zero = sym (made 0 (omega arith))
nine_roots m n members a h few m_long n_long made (suc r) = elim (cases_lt (suc r) 9) [
  | inl below ↦ sym (made (suc r) below)
  | inr past ↦
      ap (λ v. bit_xor v (product a (slice_index m (suc r)))) (h.above r (omega arith))
      ∙ ap (λ v. product a v) (h.above (suc r) (omega arith)) ∙ product-zero_r a
      ∙ sym (get_or_past n (suc r) 0 (omega arith))
]
