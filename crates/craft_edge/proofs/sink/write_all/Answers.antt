use Rattle.std.proofs.Common.{rules, ◌∙◌, arith}
use Rattle.std.proofs.lemmas.Result.{err_from_is_err_and}
use Rattle.craft_edge.proofs.SinkLemmas.{Appends-next, AppendsPrefix-next}
use Rattle.craft_edge.proofs.sink.write_all.Goals as goal

pub returns-in_err-count-clause-part : goal.returns-in_err-count-clause-part
returns-in_err-count-clause-part g c =
    let p = err_from_is_err_and c.from_residual.result c.from_residual.ensures.1 in
    rw p.1 (AppendsPrefix-next (g.O.Sink.taken c.args.out.now) (g.O.Sink.taken c.loop-at.out) (g.O.Sink.taken c.write.new.self) c.args.bytes.now c.loop-at.at
    c.loop-at.invariant.0 c.loop-at.invariant.1 c.in_err-count.ensures.bytes)

pub loop-at-preserved : goal.loop-at-preserved
loop-at-preserved g c = (
  search rules,
  Appends-next (g.O.Sink.taken c.args.out.now) (g.O.Sink.taken c.loop-at.out) (g.O.Sink.taken c.write.new.self) c.args.bytes.now c.loop-at.at c.in_ok-count.count
      c.loop-at.invariant.1 c.in_ok-count.ensures.bytes,
  c.in_ok-count.ensures.told ∙ c.loop-at.invariant.2,
  omega (arith, c.in_ok-count.ensures.cause.later),
)
