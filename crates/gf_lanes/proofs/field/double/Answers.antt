-- The carry of a byte is its bit 7.
use Rattle.std.proofs.Common.{◌≡◌, ◌*◌, ◌/◌, ◌%◌, ap, arith, bit_xor}
use Rattle.gf_lanes.specs.Field.{double}
use Rattle.gf_lanes.proofs.field.double.Goals as goal

pub returns : goal.returns
unfolding double
returns c =
    let carry : c.args.a / 128 * 29 ≡ c.args.a / 128 % 2 * 29 = omega arith in
    ap (λ n. bit_xor (c.args.a * 2 % 256) n) carry
