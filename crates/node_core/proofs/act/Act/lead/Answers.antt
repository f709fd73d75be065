use Rattle.std.proofs.Common.{◌≡◌, ◌+◌, length, refl, sym, subst, ◌∙◌, ap}
use Rattle.std.proofs.lemmas.Result.{IfOk-weaker}
use Rattle.entry_frames.specs.declared.role.Role.TheVariants.{Candidate}
use Rattle.world_model.specs.Nodes.{Node}
use Rattle.world_model.specs.Rules.Prepare.{act_of_beginning, act_of_noop}
use Rattle.world_model.specs.Rules.Say.{appends_to_others}
use Rattle.world_model.proofs.Ranges.Knowing.{knows_as}
use Rattle.node_core.specs.Acting.{IsActed, IsNode, is_preparing}
use Rattle.node_core.proofs.Acting.{become_after, sent_after}
use Rattle.node_core.proofs.Choosing.{begun_from, begun_node}
use Rattle.node_core.proofs.Ranging.{beginning_starts}
use Rattle.node_core.proofs.act.Act.lead.Goals as goal

pub add_noop-requires-clause-free : goal.add_noop-requires-clause-free
add_noop-requires-clause-free c = ap is_preparing c.requires.candidate

pub append_to_others-requires : goal.append_to_others-requires
append_to_others-requires c =
    let r = c.requires.ranged in
    let n = r.node in
    let from : c.last-first.result + 1 ≡ length n.durable.log + 1 = ap (λ last. last + 1) (c.last-first.ensures ∙ ap (λ d. length d.log) r.is.stands.of_durable) in
    record {
      node = (act_of_beginning n).node;
      is =
          subst (IsNode c.begin_to_lead.new.self) (begun_node n (c.last-first.result + 1) from)
          (c.begin_to_lead.ensures.node (act_of_noop n).node (c.in_ok-act.ensures n r.is).node);
      starts = beginning_starts n (knows_as r.ranged Candidate (sym r.is.stands.of_role ∙ c.requires.candidate));
    }

pub returns : goal.returns
returns c = IfOk-weaker c.append_to_others.result _ _ (λ x said n is.
    let self = c.args.self in
    let between = record c.in_ok-act.act { member = c.begin_to_lead.new.self } in
    let from : c.last-first.result + 1 ≡ length n.durable.log + 1 = ap (λ last. last + 1) (c.last-first.ensures ∙ ap (λ d. length d.log) is.stands.of_durable) in
    let begins = become_after (act_of_noop n) (begun_from (c.last-first.result + 1)) self c.in_ok-act.act between (c.in_ok-act.ensures n is) refl c.begin_to_lead.ensures in
    let begun : IsActed (act_of_beginning n) self between =
    subst (λ (node : Node). IsActed (record (act_of_noop n) { node = node }) self between) (begun_node n (c.last-first.result + 1) from) begins in
    sent_after (act_of_beginning n) (appends_to_others (act_of_beginning n).node) self between x begun (said (act_of_beginning n).node begun.node))
    c.append_to_others.ensures
