use Rattle.std.proofs.Common.{◌∷◌, [], None, ap, ◌∙◌}
use Rattle.std.proofs.lemmas.Result.{IfOk-weaker}
use Rattle.entry_frames.specs.Records.{Whole}
use Rattle.world_model.specs.Rules.Acts.{recording_all, stays}
use Rattle.world_model.specs.Rules.Answer.{act_of_having, act_of_supplying}
use Rattle.node_core.specs.Acting.{is_gathering, is_preparing}
use Rattle.node_core.specs.Wanting.{value_act}
use Rattle.node_core.proofs.Acting.{acted_after}
use Rattle.node_core.proofs.act.Act.have.Goals as goal

pub give_value-requires-clause-free : goal.give_value-requires-clause-free
give_value-requires-clause-free c = ap is_preparing c.requires.leads

pub give_value-requires-clause-idle : goal.give_value-requires-clause-idle
give_value-requires-clause-idle c = ap (is_gathering c.args.self.member.role) c.requires.none ∙ ap (λ role. is_gathering role None) c.requires.leads

pub give_value-requires-clause-may : goal.give_value-requires-clause-may
give_value-requires-clause-may c = c.requires.may.may

pub tell_value-requires-clause-leads : goal.tell_value-requires-clause-leads
tell_value-requires-clause-leads c = c.in_ok-act.ensures.role ∙ c.requires.leads

pub tell_value-requires-clause-none : goal.tell_value-requires-clause-none
tell_value-requires-clause-none c = c.in_ok-act.ensures.gather ∙ c.requires.none

pub append_to_lacking-requires : goal.append_to_lacking-requires
append_to_lacking-requires c =
    let r = c.requires.may in
    let first = c.in_ok-act.ensures.acts r.node r.is in record {
      node = (act_of_having c.args.index c.args.value.now r.node).node;
      is = (c.in_ok-act-2.ensures (recording_all (Whole c.args.index c.args.value.now ∷ []) (stays r.node)).node first.node).node;
      starts = r.starts;
    }

pub returns : goal.returns
returns c = IfOk-weaker c.append_to_lacking.result _ _ (λ x sent n is.
    let index = c.args.index in
    let value = c.args.value.now in
    let recorded = recording_all (Whole index value ∷ []) (stays n) in
    let first = c.in_ok-act.ensures.acts n is in
    let second = c.in_ok-act-2.ensures recorded.node first.node in
    let both = acted_after recorded (value_act index value) c.args.self c.in_ok-act.act c.in_ok-act-2.act first second in
    acted_after (act_of_having index value n) (act_of_supplying index) c.args.self c.in_ok-act-2.act x both (sent (act_of_having index value n).node both.node))
    c.append_to_lacking.ensures
