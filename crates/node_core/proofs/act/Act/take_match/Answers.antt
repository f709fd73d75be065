use Rattle.std.proofs.Common.{◌≡◌, length, sym, subst, ◌∙◌, le_refl}
use Rattle.std.proofs.lemmas.Result.{IfOk-weaker}
use Rattle.craft_base.specs.Knowledge.{Matched}
use Rattle.entry_frames.specs.declared.role.Role.TheVariants.{Leader}
use Rattle.world_model.specs.Nodes.{node_hearing}
use Rattle.world_model.specs.Rules.Acts.{stays}
use Rattle.world_model.specs.Rules.Matched.{act_of_matched_as, act_of_progress, log_heard}
use Rattle.node_core.specs.Acting.{IsActed}
use Rattle.node_core.proofs.Acting.{acted_after}
use Rattle.node_core.proofs.Ranging.{leader_hears_in_range}
use Rattle.node_core.proofs.act.Act.take_match.Goals as goal

pub progress-requires-clause-ranged : goal.progress-requires-clause-ranged
progress-requires-clause-ranged c =
    let r = c.requires in
    let item = log_heard r.node c.args.sender (Matched c.args.prev c.args.count c.args.mask) in record {
      node = node_hearing item r.node;
      is = (c.in_ok-act-in-Leader.ensures.acts r.node r.is).node;
      ranged = leader_hears_in_range r.ranged item (le_refl (length r.node.durable.log)) (sym r.is.stands.of_role ∙ c.in-Leader.is);
    }

pub returns-in_ok-act-in-Leader : goal.returns-in_ok-act-in-Leader
returns-in_ok-act-in-Leader c = IfOk-weaker c.progress.result _ _ (λ x progressed n is.
    let leads : n.volatile.role ≡ Leader = sym is.stands.of_role ∙ c.in-Leader.is in
    let now = node_hearing (log_heard n c.args.sender (Matched c.args.prev c.args.count c.args.mask)) n in
    let first = c.in_ok-act-in-Leader.ensures.acts n is in
    subst (λ role. IsActed (act_of_matched_as role n c.args.sender c.args.prev c.args.count c.args.mask) c.args.self x) (sym leads)
    (acted_after (stays now) (act_of_progress c.args.sender) c.args.self c.in_ok-act-in-Leader.act x first (progressed now first.node)))
    c.progress.ensures
