use Rattle.std.proofs.Common.{ℕ, ◌*◌, ◌%◌, ◌^◌, List, leb, get_or, replicate, sym, subst, w8, arith, bit_xor}
use Rattle.std.proofs.lemmas.Simd.{tops_compared, Each1-get_or}
use Rattle.std.specs.Simd.Lanes.{zip2, sel_l}
use Rattle.std.proofs.Common.{Fits}
use Rattle.gf_lanes.specs.Field.{double}
use Rattle.gf_lanes.specs.Lanes.{HasLanes}
use Rattle.gf_lanes.proofs.Blocks.{HasLanes-splat, HasLanes-select, HasLanes-sum, HasLanes-same, double_is}
use Rattle.gf_lanes.proofs.lanes.doubles.Goals as goal

pub returns : goal.returns
returns c =
    let v : List ℕ = c.args.block in
    subst (λ ms. HasLanes (zip2 bit_xor (zip2 (λ a b. a * 2 ^ b % 2 ^ 8) v (replicate 32 1)) (sel_l ms (replicate 32 29) (replicate 32 0))) (λ k. double (get_or v k 0)))
    (sym (tops_compared w8 leb (replicate 32 128) v))
    (HasLanes-same _ _ _
    (HasLanes-sum _ _ _ _ (HasLanes-splat (λ a b. a * 2 ^ b % 2 ^ 8) v 1 c.fits-block.0) (HasLanes-select leb 128 v 29 0 c.fits-block.0))
    (λ k l. double_is (get_or v k 0) (Each1-get_or (Fits w8) v k 0 (omega (arith, c.fits-block.0)) c.fits-block.1).fits))
