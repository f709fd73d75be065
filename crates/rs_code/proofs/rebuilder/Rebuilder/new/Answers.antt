use Rattle.std.proofs.Common.{◌≡◌, ◌<◌, ◌*◌, ℕ, zero, suc, [], ◌∷◌, length, All, replicate, slice_index, refl, arith, sym, ap, subst, ◌∙◌}
use Rattle.std.proofs.Math.Nat.{mul_comm}
use Rattle.std.proofs.lemmas.List.Elements.{All-replicate}
use Rattle.craft_base.specs.Parts.{part_length}
use Rattle.std.proofs.lemmas.List.{length-replicate}
use Rattle.gf_lanes.proofs.Laws.{product-one_r}
use Rattle.rs_code.specs.Polynomials.{power, polynomial}
use Rattle.rs_code.specs.Roots.{differences, IsRootPolynomial}
use Rattle.rs_code.proofs.rebuilder.Rebuilder.new.Goals as goal

-- of no roots the polynomial is 1
no_roots : IsRootPolynomial (slice_index (1 ∷ 0 ∷ 0 ∷ 0 ∷ 0 ∷ 0 ∷ 0 ∷ 0 ∷ 0 ∷ [])) []
unfolding differences polynomial power
no_roots = record { monic = refl; above = only_first; value = λ x. product-one_r 1 (omega arith) }
  where
    only_first : (r : ℕ) → 0 < r → slice_index (1 ∷ 0 ∷ 0 ∷ 0 ∷ 0 ∷ 0 ∷ 0 ∷ 0 ∷ 0 ∷ []) r ≡ 0
    only_first zero h = absurd (omega arith)
    only_first (suc zero) h = refl
    only_first (suc (suc zero)) h = refl
    only_first (suc (suc (suc zero))) h = refl
    only_first (suc (suc (suc (suc zero)))) h = refl
    only_first (suc (suc (suc (suc (suc zero))))) h = refl
    only_first (suc (suc (suc (suc (suc (suc zero)))))) h = refl
    only_first (suc (suc (suc (suc (suc (suc (suc zero))))))) h = refl
    only_first (suc (suc (suc (suc (suc (suc (suc (suc zero)))))))) h = refl
    only_first (suc (suc (suc (suc (suc (suc (suc (suc (suc r))))))))) h = refl

-- the registers are zeros
zeros : (c : goal.In_ok-registers) → c.in_ok-registers.registers.items ≡ replicate (c.part_len.result * c.from.result) 0
zeros c = c.in_ok-registers.ensures.items_if_clones_equal (λ y e. e)

pub invariant_of-result : goal.invariant_of-result
invariant_of-result c = record {
  some_need = c.requires.some_need;
  most_need = c.requires.most_need;
  within = omega arith;
  places = refl;
  room = ap length (zeros c) ∙ length-replicate (c.part_len.result * c.from.result) 0
      ∙ ap (λ n. n * c.from.result) c.part_len.ensures.value ∙ ap (λ n. part_length c.args.vlen c.args.k * n) c.from.ensures ∙ mul_comm (part_length c.args.vlen c.args.k) c.args.k;
  bytes = subst (All (λ b. b < 256)) (sym (zeros c)) (All-replicate (λ b. b < 256) (c.part_len.result * c.from.result) 0 (omega arith));
  members = tt;
  roots = no_roots;
}
