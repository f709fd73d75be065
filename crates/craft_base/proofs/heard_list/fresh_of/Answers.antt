use Rattle.std.proofs.Common.{◌≡◌, ℕ, zero, suc, ◌+◌, Bool, true, false, cond, [], ◌∷◌, sym, ap, ◌∙◌, arith, add-one}
use Rattle.std.specs.List.{count_by, range_with_len}
use Rattle.std.proofs.lemmas.List.Sums.{sum_by-append}
use Rattle.craft_base.specs.Knowledge.{is_fresh}
use Rattle.craft_base.proofs.heard_list.fresh_of.Goals.{then-is_member_fresh, else-is_member_fresh}
use Rattle.craft_base.proofs.heard_list.fresh_of.Goals as goal

-- one number before
count_first : (p : ℕ → Bool) (a n : ℕ) → count_by p (range_with_len a (suc n)) ≡ cond {A = ℕ} (p a) 1 0 + count_by p (range_with_len (a + 1) n)
count_first p a n = sum_by-append (λ x. cond {A = ℕ} (p x) 1 0) (a ∷ []) (range_with_len (a + 1) n) ∙ omega arith

-- one number more
count_more : (p : ℕ → Bool) (a n j : ℕ) → a + n ≡ j → count_by p (range_with_len a (suc n)) ≡ count_by p (range_with_len a n) + cond (p j) 1 0
count_more p a zero j is =
    let start : a ≡ j = omega arith in
    let same : cond {A = ℕ} (p a) 1 0 ≡ cond {A = ℕ} (p j) 1 0 = ap (λ (i : ℕ). cond {A = ℕ} (p i) 1 0) start in
    omega (arith, same)
count_more p a (suc n) j is =
    omega (arith, count_first p a (suc n), count_first p a n, count_more p (a + 1) n j (omega arith))

counted_on : (p : ℕ → Bool) (n fresh next : ℕ) (hit : Bool) → fresh ≡ count_by p (range_with_len 0 n) → hit ≡ p n → next ≡ fresh + cond hit 1 0
    → next ≡ count_by p (range_with_len 0 (n + 1))
counted_on p n fresh next hit so_far is more =
    let after : suc n ≡ n + 1 = sym (add-one n) in
    more ∙ ap (λ test. fresh + cond test 1 0) is ∙ ap (λ f. f + cond (p n) 1 0) so_far
    ∙ sym (count_more p 0 n n (omega arith)) ∙ ap (λ m. count_by p (range_with_len 0 m)) after

pub overflow_add-fresh : goal.overflow_add-fresh
overflow_add-fresh c = omega (arith, c.loop-number.invariant.few)

pub loop-number-preserved : goal.loop-number-preserved
loop-number-preserved c = elim c.if-is_member_fresh.branch [
  | then-is_member_fresh w ↦ record {
    counted =
        counted_on (λ member. is_fresh member c.args.items.now) c.loop-number.number c.loop-number.fresh c.if-is_member_fresh.fresh true c.loop-number.invariant.counted
        (sym w.if-is_member_fresh.true ∙ c.is_member_fresh.ensures) w.fresh-is;
    few = omega (arith, w.fresh-is);
  }
  | else-is_member_fresh w ↦ record {
    counted =
        counted_on (λ member. is_fresh member c.args.items.now) c.loop-number.number c.loop-number.fresh c.if-is_member_fresh.fresh false c.loop-number.invariant.counted
        (sym w.if-is_member_fresh.false ∙ c.is_member_fresh.ensures) (omega (arith, w.fresh-is));
    few = omega (arith, w.fresh-is);
  }
]
