use Rattle.std.proofs.Common.{ap, ◌∙◌, sym}
use Rattle.leader_prep.specs.Decisions.{first_index}
use Rattle.leader_prep.proofs.Opening.{part_absent, part_found}
use Rattle.leader_prep.proofs.parts.first_part.Goals as goal

pub returns-then-is_some : goal.returns-then-is_some
returns-then-is_some g c =
    let log = g.L.LogView.log c.args.log.now in
    part_found log.entries c.loop-before.before log.k c.part_at.result c.part_at.ensures (sym c.is_some.ensures ∙ c.if-is_some.true) ∙ sym c.loop-before.invariant

pub loop-before-preserved : goal.loop-before-preserved
loop-before-preserved g c =
    let log = g.L.LogView.log c.args.log.now in
    c.loop-before.invariant ∙ ap first_index (part_absent log.entries c.loop-before.before log.k c.part_at.result c.part_at.ensures (sym c.is_some.ensures ∙ c.if-is_some.false))
