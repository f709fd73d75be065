use Rattle.std.proofs.Common.{ℕ, ◌+◌, ◌*◌, get_or, ap, ◌∙◌, arith, bit_xor}
use Rattle.gf_lanes.specs.Field.{product}
use Rattle.gf_lanes.proofs.Blocks.{HasLanes-same, stored_step}
use Rattle.gf_lanes.proofs.slices.scale_add_to_by.Goals as goal

pub loop-block-preserved : goal.loop-block-preserved
loop-block-preserved g c =
    let at : ℕ = c.loop-block.block * 32 in
    let scaled : ℕ → ℕ = λ p. get_or c.args.src.now p 0 in
    let added : ℕ → ℕ = λ p. get_or c.args.added.now p 0 in
    stored_step (λ p. bit_xor (product c.args.c (scaled p)) (added p)) (λ p. get_or c.args.dst.now p 0) c.loop-block.dst c.store.new.numbers c.sums.result at ((c.loop-block.block + 1) * 32) (omega arith)
    c.loop-block.invariant.0 c.loop-block.invariant.1
    (HasLanes-same _ _ _ c.sums.ensures (λ k l.
    ap (λ n. bit_xor n (get_or c.load-in-loop-block.result k 0)) (c.products-scaled.ensures.each k l ∙ ap (product c.args.c) (c.load.ensures.each k l))
    ∙ ap (bit_xor (product c.args.c (scaled (at + k)))) (c.load-in-loop-block.ensures.each k l)))
    c.store.ensures
