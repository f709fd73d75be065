use Rattle.std.proofs.Common.{◌≡◌, length, arith}
use Rattle.command_words.proofs.Counts.{if_none, no_address}
use Rattle.command_words.proofs.place.place_of.Goals as goal
use Rattle.command_words.proofs.place.place_of.Goals.{in_default, in_default-2}

pub returns : goal.returns
returns c =
    let none = λ (other : length c.as_slice.result.now ≡ 4 → ⊥).
    no_address (λ part. part.now) c.in_ok-octets.octets.items c.as_slice.result.now c.args.address.now c.args.port.now c.in_ok-octets.ensures c.as_slice.ensures.value other in
    elim c.if-as_slice-lt4.branch [
      | in_default w ↦ if_none _ _ w.result-is (none (λ four. omega (arith, four, w.in_default.len_below)))
      | in_default-2 w ↦ if_none _ _ w.result-is (none (λ four. omega (arith, four, w.in_default.len_at_least)))
    ]
