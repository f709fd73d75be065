use Rattle.std.proofs.Common.{◌≡◌, arith}
use Rattle.std.proofs.lemmas.Grind.{common_steps}
use Rattle.schedule_text.proofs.InnerWords.{call_said, no_inner}
use Rattle.schedule_text.proofs.reading.inner_of.Goals.{in_default-via-then-words-lt2, in_default-via-else-words-lt2+else-words-lt3+else-words-lt4+then-words-lt7, in_default-via-else-words-lt2+else-words-lt3+else-words-lt4+else-words-lt7+else-words-lt8}
use Rattle.schedule_text.proofs.reading.inner_of.Goals as goal

pub returns-in_ok-request-in-len7 : goal.returns-in_ok-request-in-len7
returns-in_ok-request-in-len7 c =
    call_said c.args.shape.now c.args.words.now _ c.ne.result c.as_slice.result.now c.in-len7.len_at_least c.in-len7.len_below c.ne.ensures c.if-ne.false
    c.as_slice.ensures c.number.result c.in_ok-request-in-len7.request c.call_with.result c.number.ensures c.in_ok-request-in-len7.ensures c.call_with.ensures

pub returns-in_default : goal.returns-in_default
returns-in_default c = elim c.in_default.branch [
  | in_default-via-then-words-lt2 w ↦ grind (arith, common_steps, no_inner, w)
  | in_default-via-else-words-lt2+else-words-lt3+else-words-lt4+then-words-lt7 w ↦ grind (arith, common_steps, no_inner, w)
  | in_default-via-else-words-lt2+else-words-lt3+else-words-lt4+else-words-lt7+else-words-lt8 w ↦ grind (arith, common_steps, no_inner, w)
]
