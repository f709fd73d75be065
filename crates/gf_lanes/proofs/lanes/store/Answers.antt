use Rattle.std.proofs.Common.{arith}
use Rattle.std.proofs.lemmas.Simd.{get_or-put_chunk_below, get_or-put_chunk_at, get_or-put_chunk_above}
use Rattle.gf_lanes.proofs.lanes.store.Goals as goal

pub returns : goal.returns
returns c =
    let long = c.fits-block.0 in
    record {
      within = λ k l. get_or-put_chunk_at c.args.at c.args.numbers.now c.args.block k 0 (omega arith) (omega (arith, c.requires));
      below = λ p l. get_or-put_chunk_below c.args.at c.args.numbers.now c.args.block p 0 l;
      above = λ p l. get_or-put_chunk_above c.args.at c.args.numbers.now c.args.block p 0 (omega arith);
    }
