use Rattle.std.proofs.Common.{◌<◌, arith, sym}
use Rattle.craft_base.specs.Shape.{members_of}
use Rattle.entry_frames.specs.Entries.{form_bytes}
use Rattle.gather_read.specs.Keeping.{kept_slot}
use Rattle.leader_prep.specs.Verdicts.{usable_form}
use Rattle.leader_prep.proofs.Rows.{none_whole_more, whole_found}
use Rattle.gather_read.proofs.gather.Gather.whole.Goals as goal

pub returns-in-Some : goal.returns-in-Some
returns-in-Some c =
    let self = c.args.self.now in
    let within : c.loop-number.number < members_of self.shape = omega (arith, c.loop-number-test.true, c.members-number-end.ensures.value) in
    whole_found (usable_form self.me c.args.own.now.entry (kept_slot self.slots)) c.loop-number.number (members_of self.shape) (form_bytes c.in-Some.view.entry.form)
    c.loop-number.invariant (sym c.in-Some.ensures) within

pub loop-number-preserved : goal.loop-number-preserved
loop-number-preserved c =
    let self = c.args.self.now in
    none_whole_more (usable_form self.me c.args.own.now.entry (kept_slot self.slots)) c.loop-number.number c.loop-number.invariant (sym c.in_default.ensures)
