use Rattle.std.proofs.Common.{◌≡◌, ◌-◌, length, drop, sym, ap, ◌∙◌, subst, arith, length-take, length-drop}
use Rattle.std.proofs.lemmas.Result.{err_from_is_err_and}
use Rattle.std.specs.Prelude.{IsTrue, is_err}
use Rattle.synced_log.specs.Calls.{AreReadings}
use Rattle.synced_log.proofs.Filling.{filled_more, length_put}
use Rattle.synced_log.proofs.Made.{one_made, one_fails, both_read, then_fails, made_err}
use Rattle.synced_log.proofs.Watching.{goes_on}
use Rattle.synced_log.proofs.reading.fill.Goals as goal

pub loop-at-preserved : goal.loop-at-preserved
loop-at-preserved g c =
    let d = g.D.Disk in
    let inv = c.loop-at.invariant in
    let buf = c.loop-at.buf in
    let at = c.loop-at.at in
    let new = c.read_at.new.buf in
    let size : length new ≡ length buf - at = omega (arith, c.read_at.auto.buf, length-take (length buf - at) (drop at buf), length-drop at buf) in
    let whole = length_put buf new at inv.within size in
    record {
      within = omega (arith, whole, size, c.in_ok-count.ensures.bound.0, inv.within);
      length_is = whole ∙ inv.length_is;
      filled = filled_more (d.seen c.args.disk.now) (d.seen c.loop-at.disk) buf new at c.in_ok-count.count inv.seen inv.within size c.in_ok-count.ensures.bound.0 inv.filled c.in_ok-count.ensures.bytes;
      seen = c.read_at.ensures.seen ∙ inv.seen;
      crash = goes_on d.tells_crash d.tells_past d.moment d.may_leave d.left_since c.args.disk.now c.loop-at.disk c.read_at.new.self (d.may_leave c.args.disk.now) inv.crash
          c.read_at.ensures.tells_crash c.read_at.ensures.tells_past c.read_at.ensures.time
          (λ crash image now. inv.crash.now crash image (c.read_at.ensures.crash (subst IsTrue (sym inv.crash.same_crash) crash) image now));
      made = both_read (d.history c.args.disk.now) (d.history c.loop-at.disk) (d.history c.read_at.new.self) inv.made
          (one_made (d.history c.loop-at.disk) (d.history c.read_at.new.self) _ c.read_at.result (ap is_err c.in_ok-count.was) c.read_at.ensures.history tt);
      later = omega (arith, inv.later, c.read_at.ensures.cause.later);
    }

pub returns-in_err-count-clause-made : goal.returns-in_err-count-clause-made
returns-in_err-count-clause-made g c =
    let d = g.D.Disk in
    let failed = err_from_is_err_and c.from_residual.result c.from_residual.ensures.1 in
    made_err (d.history c.args.disk.now) (d.history c.read_at.new.self) AreReadings c.from_residual.result (ap is_err failed.1)
    (then_fails (d.history c.args.disk.now) (d.history c.loop-at.disk) (d.history c.read_at.new.self) c.loop-at.invariant.made
    (one_fails (d.history c.loop-at.disk) (d.history c.read_at.new.self) _ c.read_at.result (ap is_err c.in_err-count.was) c.read_at.ensures.history tt))

pub returns-then-count-eq0-clause-made : goal.returns-then-count-eq0-clause-made
returns-then-count-eq0-clause-made g c =
    let d = g.D.Disk in
    both_read (d.history c.args.disk.now) (d.history c.loop-at.disk) (d.history c.read_at.new.self) c.loop-at.invariant.made
    (one_made (d.history c.loop-at.disk) (d.history c.read_at.new.self) _ c.read_at.result (ap is_err c.in_ok-count.was) c.read_at.ensures.history tt)

pub returns-clause-made : goal.returns-clause-made
returns-clause-made g c = c.loop-at.invariant.made
