use Rattle.std.proofs.Common.{arith}
use Rattle.gather_read.specs.Keeping.{kept_slot}
use Rattle.leader_prep.specs.Verdicts.{usable_form}
use Rattle.leader_prep.proofs.Gathering.{gathers_more}
use Rattle.leader_prep.proofs.Ranges.{value_short}
use Rattle.gather_read.proofs.gather.Gather.rebuilder.Goals as goal

pub new-requires-clause-small : goal.new-requires-clause-small
new-requires-clause-small c = omega (arith, c.vlen.ensures, value_short c.args.own.now.k c.args.own.now.entry c.requires.in_range.fits)

pub loop-number-preserved : goal.loop-number-preserved
loop-number-preserved c =
    let self = c.args.self.now in
    gathers_more self.shape c.args.own.now.entry (usable_form self.me c.args.own.now.entry (kept_slot self.slots)) c.loop-number.number c.loop-number.rebuilder
    c.add_part.new.rebuilder c.loop-number.invariant c.add_part.ensures
