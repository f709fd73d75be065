use Rattle.std.proofs.Common.{◌+◌, ◌++◌, ◌∙◌, drop, ap, sym, subst, arith, append-nil}
use Rattle.std.proofs.Math.ListN.{drop_of_length-le}
use Rattle.schedule_text.specs.Sends.{SendsPeer}
use Rattle.world_model.specs.Lines.{output_lines}
use Rattle.schedule_replay.proofs.Printing.{next_output, printed_more}
use Rattle.schedule_replay.proofs.event_text.push_outputs.Goals as goal

pub line_of-requires : goal.line_of-requires
line_of-requires c =
    subst SendsPeer (sym c.output-item.is) (c.requires.sends c.loop-output.output-index c.output-item.result c.loop-output-test.true)

pub loop-output-preserved : goal.loop-output-preserved
loop-output-preserved c = record {
  told = printed_more c.loop-output.text.items c.line_of.new.out.items c.args.member c.loop-output.frame c.next_frame-frame.result c.output-item.result
      (drop c.loop-output.output-index c.args.outputs.now) (drop (c.loop-output.output-index + 1) c.args.outputs.now)
      (next_output c.args.outputs.now c.loop-output.output-index c.output-item.result c.loop-output-test.true c.output-item.is)
      c.in_ok-line_of.ensures.line c.next_frame-frame.ensures.next
      ∙ c.loop-output.invariant.told;
  few = omega (arith, c.next_frame-frame.ensures.range);
}

pub returns : goal.returns
returns c =
    sym (append-nil c.loop-output.text.items)
    ∙ sym (ap (λ left. c.loop-output.text.items ++ output_lines c.args.member c.loop-output.frame left) (drop_of_length-le c.args.outputs.now (omega arith)))
    ∙ c.loop-output.invariant.told
