use Rattle.std.proofs.Common.{subst}
use Rattle.std.specs.Prelude.{IfOk}
use Rattle.std.proofs.lemmas.Result.{IfOk-weaker}
use Rattle.craft_base.specs.Knowledge.{members}
use Rattle.entry_frames.specs.Views.{Viewed}
use Rattle.gather_read.specs.Gathered.{IsGiven, source_of_forms}
use Rattle.gather_read.specs.Keeping.{kept_slot}
use Rattle.leader_prep.specs.Verdicts.{first_whole, parts_of, usable_form, verdict_of_parts}
use Rattle.gather_read.proofs.Values.{given_without}
use Rattle.gather_read.proofs.gather.Gather.value.Goals as goal

pub returns-in-None : goal.returns-in-None
returns-in-None c =
    let self = c.args.self.now in
    let own = c.own-own.result.entry in
    let form = usable_form self.me own (kept_slot self.slots) in
    subst (λ (v : Viewed). IfOk c.value_of_parts.result (IsGiven (source_of_forms self.shape v.entry (usable_form self.me v.entry (kept_slot self.slots)))))
    c.own-own.ensures.value
    (IfOk-weaker c.value_of_parts.result _ _
    (λ value given. given_without (first_whole form (members self.shape)) (verdict_of_parts self.shape own (parts_of form (members self.shape))) value c.in-None.ensures given)
    c.value_of_parts.ensures)
