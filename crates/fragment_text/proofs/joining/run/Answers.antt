use Rattle.std.proofs.Common.{subst}
use Rattle.std.specs.Io.KnownBytes.{Appends}
use Rattle.craft_edge.specs.Bytes.{AppendsPrefix}
use Rattle.fragment_text.specs.Joining.{Joins}
use Rattle.fragment_text.proofs.Joins.{joins, joins_first}
use Rattle.fragment_text.proofs.joining.run.Goals as goal

pub returns-in-Ok-clause-done : goal.returns-in-Ok-clause-done
returns-in-Ok-clause-done g c =
    joins c.args.shape.now (g.S.Source.left c.args.src.now) (g.S.Source.left c.read_parts.new.src) c.in_ok-parts.parts c.in_ok-value.value.items
    (Appends (g.O.Sink.taken c.args.out.now) (g.O.Sink.taken c.write_all.new.out)) c.in_ok-parts.ensures.read c.in_ok-value.ensures.joined
    (subst (Appends (g.O.Sink.taken c.args.out.now) (g.O.Sink.taken c.write_all.new.out)) c.deref.ensures.value c.in-Ok.ensures.whole)

pub returns-clause-early : goal.returns-clause-early
returns-clause-early g c = (
  c.in-Err.ensures.cause.failed,
  joins_first (g.S.Source.left c.args.src.now) (g.S.Source.left c.read_parts.new.src) (λ bytes. Joins c.args.shape.now bytes (AppendsPrefix (g.O.Sink.taken c.args.out.now) (g.O.Sink.taken c.write_all.new.out)))
      (joins c.args.shape.now (g.S.Source.left c.args.src.now) (g.S.Source.left c.read_parts.new.src) c.in_ok-parts.parts c.in_ok-value.value.items
      (AppendsPrefix (g.O.Sink.taken c.args.out.now) (g.O.Sink.taken c.write_all.new.out)) c.in_ok-parts.ensures.read c.in_ok-value.ensures.joined
      (subst (AppendsPrefix (g.O.Sink.taken c.args.out.now) (g.O.Sink.taken c.write_all.new.out)) c.deref.ensures.value c.in-Err.ensures.part)),
)
