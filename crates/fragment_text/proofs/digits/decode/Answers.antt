use Rattle.std.proofs.Common.{◌<◌, ◌≡◌, length, arith, false}
use Rattle.std.specs.Char.{is_ascii_uppercase}
use Rattle.std.specs.List.{list_any}
use Rattle.std.proofs.lemmas.Grind.{common_steps}
use Rattle.fragment_text.proofs.Decoding.{decoded}
use Rattle.fragment_text.proofs.digits.decode.Goals as goal

pub returns : goal.returns
returns c =
    let some : 0 < length c.args.bytes.now = grind (arith, common_steps) in
    let lower : list_any is_ascii_uppercase c.args.digits.now ≡ false = cc in
    decoded (length c.args.bytes.now) c.args.digits.now c.decode_to_slice.new.out c.decode_to_slice.result c.is_ok.result some lower c.decode_to_slice.ensures.value c.is_ok.ensures.value
