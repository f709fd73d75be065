use Rattle.std.proofs.Common.{◌++◌, ◌∙◌, ap, sym}
use Rattle.std.specs.Prelude.{string_bytes}
use Rattle.schedule_text.proofs.Letters.{letters_more}
use Rattle.schedule_text.proofs.forms.form_letters.Goals as goal

pub loop-n-preserved : goal.loop-n-preserved
loop-n-preserved c =
    letters_more c.args.entries.now c.loop-n.n (string_bytes c.loop-n.letters) (string_bytes c.push_str.new.self) c.in-Some.entry.now (sym c.in-Some.ensures) c.loop-n.invariant
    (c.in_ok-push_str-in-Some.ensures.bytes ∙ ap (λ letter. string_bytes c.loop-n.letters ++ letter) c.form_letter.ensures)
