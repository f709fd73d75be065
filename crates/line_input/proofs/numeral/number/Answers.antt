use Rattle.std.proofs.Common.{◌∙◌, sym, subst}
use Rattle.std.specs.Str.Parse.{ParsesUnsigned}
use Rattle.world_model.proofs.Numerals.{parsed, numeral_is_utf8}
use Rattle.line_input.proofs.numeral.number.Goals as goal

pub returns-in-Ok : goal.returns-in-Ok
returns-in-Ok c =
    c.ok.ensures.value
    ∙ parsed c.args.word.now c.parse.result (sym c.is_numeral.ensures ∙ c.if-not-is_numeral.false)
    (subst (λ text. ParsesUnsigned 64 10 text c.parse.result) c.in-Ok.ensures.cases.0 c.parse.ensures.value.0)

pub returns-in-Err : goal.returns-in-Err
returns-in-Err c = absurd (c.in-Err.ensures.cases.0 (numeral_is_utf8 c.args.word.now (sym c.is_numeral.ensures ∙ c.if-not-is_numeral.false)))
