use Rattle.std.proofs.Common.{length, ap, ◌∙◌, ◌++◌, arith}
use Rattle.std.specs.Prelude.{string_bytes}
use Rattle.std.proofs.lemmas.Grind.{common_steps}
use Rattle.rs_code.specs.Fragments.{fragment}
use Rattle.fragment_text.specs.Texts.{value_line, part_line, fragment_line}
use Rattle.fragment_text.proofs.Printing.{lines_more}
use Rattle.fragment_text.proofs.text.text_of.Goals as goal

pub loop-member-preserved : goal.loop-member-preserved
loop-member-preserved c = record {
  text =
      lines_more (fragment_line c.args.shape.now c.args.value.now) (value_line (length c.args.value.now)) c.loop-member.member (string_bytes c.loop-member.text) (string_bytes c.push_part.new.text)
      c.loop-member.invariant.text
      (c.in_ok-push_part.ensures ∙ ap (λ part. string_bytes c.loop-member.text ++ part_line c.loop-member.member part) (c.part_into.ensures.fragment ∙ ap (λ need. fragment c.args.value.now need c.loop-member.member) c.need-need.ensures.value));
  room = grind (arith, common_steps);
}
