use Rattle.std.proofs.Common.{◌≡◌, length, refl, sym, subst, ◌∙◌, le_refl}
use Rattle.std.proofs.lemmas.Result.{IfOk-weaker}
use Rattle.craft_base.specs.Knowledge.{Refused}
use Rattle.entry_frames.specs.declared.role.Role.TheVariants.{Leader}
use Rattle.world_model.specs.Nodes.{node_hearing}
use Rattle.world_model.specs.Rules.Matched.{act_of_refused_as, act_of_retry, log_heard}
use Rattle.node_core.specs.Acting.{IsActed}
use Rattle.node_core.proofs.Acting.{acted_from}
use Rattle.node_core.proofs.Ranging.{leader_hears_in_range, may_say}
use Rattle.node_core.proofs.act.Act.take_refusal.Goals as goal

pub append_to-requires : goal.append_to-requires
append_to-requires c =
    let r = c.requires.ranged in
    let item = log_heard r.node c.args.sender (Refused c.args.next) in
    let leads : r.node.volatile.role ≡ Leader = sym r.is.stands.of_role ∙ c.in-Leader.is in
    may_say (leader_hears_in_range r.ranged item (le_refl (length r.node.durable.log), c.requires.next) leads) c.hear_refusal.new.self
    (c.hear_refusal.ensures.becomes.node r.node r.is) leads

pub returns-in-Leader : goal.returns-in-Leader
returns-in-Leader c = IfOk-weaker c.append_to.result _ _ (λ x said n is.
    let leads : n.volatile.role ≡ Leader = sym is.stands.of_role ∙ c.in-Leader.is in
    let now = node_hearing (log_heard n c.args.sender (Refused c.args.next)) n in
    let between = record c.args.self { member = c.hear_refusal.new.self } in
    subst (λ role. IsActed (act_of_refused_as role n c.args.sender c.args.next) c.args.self x) (sym leads)
    (acted_from (act_of_retry c.args.sender now) c.args.self between x refl c.hear_refusal.ensures.becomes.store
    (said now (c.hear_refusal.ensures.becomes.node n is))))
    c.append_to.ensures
