use Rattle.std.proofs.Common.{map, subst, sym, IfSome}
use Rattle.std.specs.Prelude.{string_bytes}
use Rattle.std.proofs.lemmas.Result.{IfOk-weaker}
use Rattle.command_words.specs.Spelling.{IsCommand}
use Rattle.command_words.proofs.Commands.{plan_ranged}
use Rattle.command_words.proofs.Texts.{texts_are_words}
use Rattle.command_words.proofs.reading.plan.Goals as goal

pub returns-clause-ranged : goal.returns-clause-ranged
returns-clause-ranged c =
    let words = map string_bytes c.args.words.now in
    IfOk-weaker c.command_in.result _ _ (λ command is. subst (λ found. IfSome found IsCommand) (sym is) (plan_ranged words (texts_are_words c.args.words.now)))
    c.command_in.ensures
