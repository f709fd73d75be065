use Rattle.std.proofs.Common.{◌≡◌, true, subst, arith}
use Rattle.std.proofs.lemmas.Result.{err_from_is_err_and}
use Rattle.fragment_text.specs.Kept.{ReadsPart}
use Rattle.fragment_text.proofs.Joins.{goes_on}
use Rattle.fragment_text.proofs.joining.read_parts.Goals as goal

pub returns-in_err-value_length-clause-failed : goal.returns-in_err-value_length-clause-failed
returns-in_err-value_length-clause-failed g c =
    let p = err_from_is_err_and c.from_residual.result c.from_residual.ensures.1 in rw (p.1, p.2) (c.in_err-value_length.ensures.failed c.args.shape.now)

pub lines-preserved : goal.lines-preserved
lines-preserved g c =
    let p = c.lines.invariant.progress in
    let more : c.in_ok-read_part.field-0 ≡ true = grind arith in
    record {
      progress = goes_on c.args.shape.now (g.S.Source.left c.args.src.now) (g.S.Source.left c.lines.src) (g.S.Source.left c.read_part.new.src) c.lines.parts c.read_part.new.parts p
          (subst (ReadsPart c.args.shape.now p.said (g.S.Source.left c.lines.src) (g.S.Source.left c.read_part.new.src) c.read_part.new.parts) more (c.in_ok-read_part.ensures.read c.args.shape.now p.said p.kept));
      later = omega (arith, c.lines.invariant.later, c.in_ok-read_part.ensures.later);
    }
