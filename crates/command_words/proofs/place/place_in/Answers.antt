use Rattle.std.proofs.Common.{◌≡◌, length, arith}
use Rattle.command_words.proofs.Counts.{if_none, no_place}
use Rattle.command_words.proofs.place.place_in.Goals as goal
use Rattle.command_words.proofs.place.place_in.Goals.{in_default, in_default-2}

pub returns : goal.returns
returns c =
    let none = λ (other : length c.as_slice.result.now ≡ 2 → ⊥).
    no_place (λ part. part.now) c.in_ok-halves.halves.items c.as_slice.result.now c.args.word.now c.in_ok-halves.ensures c.as_slice.ensures.value other in
    elim c.if-as_slice-lt2.branch [
      | in_default w ↦ if_none _ _ w.result-is (none (λ two. omega (arith, two, w.in_default.len_below)))
      | in_default-2 w ↦ if_none _ _ w.result-is (none (λ two. omega (arith, two, w.in_default.len_at_least)))
    ]
