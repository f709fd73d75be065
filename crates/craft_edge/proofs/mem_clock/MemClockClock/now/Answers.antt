use Rattle.std.proofs.Common.{◌≡◌, get_or, ap, ◌∙◌, arith}
use Rattle.std.proofs.lemmas.Grind.{common_steps}
use Rattle.craft_edge.specs.declared.mem_clock.MemClock.TheInside.{Inside}
use Rattle.craft_edge.specs.MemClock.{readings_of}
use Rattle.craft_edge.proofs.ClockLemmas.{after_reading-next, after_reading-last, readings_from, shows_first}
use Rattle.craft_edge.proofs.mem_clock.MemClockClock.now.Goals as goal
use Rattle.craft_edge.proofs.mem_clock.MemClockClock.now.Goals.{then-self-len, else-self-len}

pub returns-clause-reading : goal.returns-clause-reading
returns-clause-reading c =
    let xs = c.self.inside.readings.items in
    let at = c.self.inside.at in
    let new = c.if-self-len.self-inside in
    let shown : c.index-reading.result.now ≡ get_or xs at 0 = grind (arith, common_steps) in
    let place = λ (i : Inside). readings_from i.readings.items i.at in
    shows_first c.args.self.now xs new.readings.items at new.at c.index-reading.result.now (ap readings_of c.self.view_is) shown
    (elim c.if-self-len.branch [
      | then-self-len w ↦ ap place w.self-inside-is ∙ after_reading-next xs at (omega (arith, w.if-self-len.true, c.len.ensures))
      | else-self-len w ↦ ap place w.self-inside-is ∙ after_reading-last xs at (omega (arith, w.if-self-len.false, c.len.ensures))
    ])
