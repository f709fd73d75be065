use Rattle.std.proofs.Common.{◌≡◌, ℕ, ◌+◌, ◌*◌, get_or, ap, ◌∙◌, arith, bit_xor}
use Rattle.gf_lanes.specs.Field.{product}
use Rattle.gf_lanes.proofs.Blocks.{HasLanes-same, stored_step}
use Rattle.gf_lanes.proofs.slices.scale_add_by.Goals as goal

pub loop-block-preserved : goal.loop-block-preserved
loop-block-preserved g c =
    let at : ℕ = c.loop-block.block * 32 in
    let old : ℕ → ℕ = λ p. get_or c.args.dst.now p 0 in
    let added : ℕ → ℕ = λ p. get_or c.args.src.now p 0 in
    let now : (k : ℕ) → get_or c.loop-block.dst (at + k) 0 ≡ old (at + k) = λ k. c.loop-block.invariant.1 (at + k) (omega arith) in
    stored_step (λ p. bit_xor (product c.args.c (old p)) (added p)) old c.loop-block.dst c.store.new.numbers c.sums.result at ((c.loop-block.block + 1) * 32) (omega arith)
    c.loop-block.invariant.0 c.loop-block.invariant.1
    (HasLanes-same _ _ _ c.sums.ensures (λ k l.
    ap (λ n. bit_xor n (get_or c.load-added.result k 0)) (c.products-scaled.ensures.each k l ∙ ap (product c.args.c) (c.load.ensures.each k l ∙ now k))
    ∙ ap (bit_xor (product c.args.c (old (at + k)))) (c.load-added.ensures.each k l)))
    c.store.ensures
