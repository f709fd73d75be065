-- By doubling for each of the small constants, or by looking up.
use Rattle.std.proofs.Common.{◌≡◌, ℕ, ◌<◌, ◌≤◌, ◌^◌, List, length, get_or, refl, sym, ap, subst, ◌∙◌, arith, w8, Fits, bit_xor}
use Rattle.std.proofs.lemmas.Simd.{Each1-get_or}
use Rattle.std.specs.Simd.Lanes.{Each1}
use Rattle.gf_lanes.specs.Field.{double, product}
use Rattle.gf_lanes.specs.Lanes.{HasLanes}
use Rattle.gf_lanes.proofs.Blocks.{HasLanes-same, product-two, product-three}
use Rattle.gf_lanes.proofs.Laws.{product-one_l}
use Rattle.gf_lanes.proofs.lanes.products.Goals as goal
use Rattle.gf_lanes.proofs.lanes.products.Goals.{then-this-eq1, else-this-eq1, then-this-eq2, else-this-eq2, then-this-eq3, else-this-eq3}

-- a block that holds the products with s, where s is the constant
by_small : (s c : ℕ) (f : ℕ → ℕ) (v block : List ℕ) → s ≡ c → ((a : ℕ) → a < 2 ^ 8 → product s a ≡ f a) → length block ≡ 32 → Each1 (Fits w8) block
    → HasLanes v (λ k. f (get_or block k 0)) → HasLanes v (λ k. product c (get_or block k 0))
by_small s c f v block same is long fits h =
    HasLanes-same v (λ k. f (get_or block k 0)) (λ k. product c (get_or block k 0)) h
    (λ k l. sym (is (get_or block k 0) (Each1-get_or (Fits w8) block k 0 (omega arith) fits).fits) ∙ ap (λ n. product n (get_or block k 0)) same)

pub returns : goal.returns
returns g c =
    let block : List ℕ = c.args.block in
    let Holds : List ℕ → Type 0 = λ v. HasLanes v (λ k. product c.args.c (get_or block k 0)) in
    let small : (s : ℕ) → 1 ≤ s → g.row.SMALL ≡ s → s ≡ c.args.c = λ s low is. sym is ∙ c.requires.small (omega arith) in
    elim c.if-this-eq1.branch [
      | then-this-eq1 w ↦ subst Holds (sym w.result-is)
          (by_small 1 c.args.c (λ a. a) block block (small 1 (omega arith) w.if-this-eq1.true) product-one_l c.fits-block.0 c.fits-block.1 (record { long = c.fits-block.0; each = λ k l. refl }))
      | else-this-eq1 w ↦ elim w.if-this-eq2.branch [
        | then-this-eq2 u ↦ subst Holds (sym (w.result-is ∙ u.result-is))
            (by_small 2 c.args.c double u.doubles.result block (small 2 (omega arith) u.if-this-eq2.true) product-two c.fits-block.0 c.fits-block.1 u.doubles.ensures)
        | else-this-eq2 u ↦ elim u.if-this-eq3.branch [
          | then-this-eq3 t ↦ subst Holds (sym (w.result-is ∙ u.result-is ∙ t.result-is))
              (by_small 3 c.args.c (λ a. bit_xor a (double a)) t.sums.result block (small 3 (omega arith) t.if-this-eq3.true) product-three c.fits-block.0 c.fits-block.1
              (HasLanes-same t.sums.result (λ k. bit_xor (get_or block k 0) (get_or t.doubles-then-this-eq3.result k 0)) (λ k. bit_xor (get_or block k 0) (double (get_or block k 0))) t.sums.ensures
              (λ k l. ap (bit_xor (get_or block k 0)) (t.doubles-then-this-eq3.ensures.each k l))))
          | else-this-eq3 t ↦ subst Holds (sym (w.result-is ∙ u.result-is ∙ t.result-is)) t.looked_up.ensures
        ]
      ]
    ]
