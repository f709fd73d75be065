use Rattle.std.proofs.Common.{true, false, sym, ◌∙◌, arith}
use Rattle.leader_prep.specs.Standing.{kept_covers}
use Rattle.leader_prep.proofs.Rows.{counted_on}
use Rattle.leader_prep.proofs.prep.Prep.is_covered.Goals.{then-covers_at, else-covers_at}
use Rattle.leader_prep.proofs.prep.Prep.is_covered.Goals as goal

pub loop-number-preserved : goal.loop-number-preserved
loop-number-preserved c =
    elim c.if-covers_at.branch [
      | then-covers_at w ↦ record {
        few = omega (arith, w.covering-is, c.loop-number.invariant.few);
        counted = counted_on (kept_covers c.args.self.now c.args.index) c.loop-number.number c.loop-number.covering c.if-covers_at.covering true
            c.loop-number.invariant.counted (sym w.if-covers_at.true ∙ c.covers_at.ensures) w.covering-is;
      }
      | else-covers_at w ↦ record {
        few = omega (arith, w.covering-is, c.loop-number.invariant.few);
        counted = counted_on (kept_covers c.args.self.now c.args.index) c.loop-number.number c.loop-number.covering c.if-covers_at.covering false
            c.loop-number.invariant.counted (sym w.if-covers_at.false ∙ c.covers_at.ensures) (omega (arith, w.covering-is));
      }
    ]
