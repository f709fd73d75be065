use Rattle.std.proofs.Common.{sym, ◌∙◌}
use Rattle.std.proofs.lemmas.Result.{IfOk-weaker}
use Rattle.world_model.specs.Rules.Say.{act_of_saying}
use Rattle.world_model.specs.Rules.Want.{act_of_gathering}
use Rattle.node_core.proofs.Acting.{acted_after}
use Rattle.node_core.proofs.act.Act.append_and_gather.Goals as goal

pub gather-requires-clause-say : goal.gather-requires-clause-say
gather-requires-clause-say c = let r = c.requires.say in record { node = r.node; is = (c.in_ok-act.ensures r.node r.is).node; starts = r.starts }

pub gather-requires-clause-leads : goal.gather-requires-clause-leads
gather-requires-clause-leads c =
    let r = c.requires.say in
    (c.in_ok-act.ensures r.node r.is).node.stands.of_role ∙ sym r.is.stands.of_role ∙ c.requires.leads

pub returns : goal.returns
returns c = IfOk-weaker c.gather.result _ _ (λ x gathered n is.
    let first = c.in_ok-act.ensures n is in
    acted_after (act_of_saying n) act_of_gathering c.args.self c.in_ok-act.act x first (gathered n first.node))
    c.gather.ensures
