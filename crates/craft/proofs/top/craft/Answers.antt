use Rattle.std.proofs.Common.{◌∙◌, sym, ap, refl, inr, map, Some}
use Rattle.std.specs.Prelude.{string_bytes, vec_len}
use Rattle.command_words.proofs.Texts.{texts_are_words}
use Rattle.craft.proofs.Planned.{one_disk, same_some}
use Rattle.craft.proofs.top.craft.Goals as goal

pub returns-in-Err-clause-answers : goal.returns-in-Err-clause-answers
returns-in-Err-clause-answers g c = λ command planned. inr (refl, refl)

pub returns-in-Ok-Some-clause-serves : goal.returns-in-Ok-Some-clause-serves
returns-in-Ok-Some-clause-serves g c = λ node disk planned items.
    c.run.ensures.serves node disk (same_some (sym c.in-Ok-Some.field-0-is ∙ c.in-Ok-Some.ensures.exact ∙ planned)) items

pub run-requires-clause-one : goal.run-requires-clause-one
run-requires-clause-one g c = λ node is.
    one_disk (map string_bytes c.args.words.now) (vec_len c.args.disks) node (texts_are_words c.args.words.now)
    (sym c.in-Ok-Some.ensures.exact ∙ c.in-Ok-Some.field-0-is ∙ ap (λ it. Some it) is) c.requires
