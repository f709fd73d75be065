use Rattle.std.proofs.Common.{bit_xor}
use Rattle.gf_lanes.proofs.Blocks.{HasLanes-zip2}
use Rattle.gf_lanes.proofs.lanes.sums.Goals as goal

pub returns : goal.returns
returns c = HasLanes-zip2 bit_xor c.args.a c.args.b c.fits-a.0 c.fits-b.0
