use Rattle.std.proofs.Common.{◌≡◌, ap, sym, subst, ◌∙◌}
use Rattle.std.proofs.lemmas.Result.{IfOk-weaker}
use Rattle.craft_base.specs.Knowledge.{Beat}
use Rattle.entry_frames.specs.declared.role.Role.TheVariants.{Leader, Preparing}
use Rattle.world_model.specs.Nodes.{node_hearing}
use Rattle.world_model.specs.Rules.Acts.{stays}
use Rattle.world_model.specs.Rules.Prepare.{act_of_asking_again, cursor_at}
use Rattle.world_model.specs.Rules.Tick.{act_of_beat, act_of_tick_as}
use Rattle.node_core.specs.Acting.{IsActed}
use Rattle.node_core.proofs.Acting.{acted_after}
use Rattle.node_core.proofs.Ranging.{leader_hears_in_range, may_say}
use Rattle.node_core.proofs.act.Act.tick.Goals as goal

pub append_and_gather-requires-clause-say : goal.append_and_gather-requires-clause-say
append_and_gather-requires-clause-say c =
    let r = c.requires in
    let leads : r.node.volatile.role ≡ Leader = sym r.is.stands.of_role ∙ c.in-Leader.is in
    may_say (leader_hears_in_range r.ranged Beat tt leads) c.beat-in-Leader.result.member (c.beat-in-Leader.ensures.acts r.node r.is).node leads

pub append_and_gather-requires-clause-leads : goal.append_and_gather-requires-clause-leads
append_and_gather-requires-clause-leads c = ap (λ m. m.role) c.beat-in-Leader.ensures.rest ∙ c.in-Leader.is

pub returns-in-Leader : goal.returns-in-Leader
returns-in-Leader c = IfOk-weaker c.append_and_gather.result _ _ (λ x said n is.
    let leads : n.volatile.role ≡ Leader = sym is.stands.of_role ∙ c.in-Leader.is in
    let first = c.beat-in-Leader.ensures.acts n is in
    let now = node_hearing Beat n in
    subst (λ role. IsActed (act_of_tick_as role c.args.word n) c.args.self x) (sym leads)
    (acted_after (stays now) act_of_beat c.args.self c.beat-in-Leader.result x first (said now first.node)))
    c.append_and_gather.ensures

pub ask_again-requires : goal.ask_again-requires
ask_again-requires c = ap (λ m. m.role) c.beat.ensures.rest ∙ c.in-Preparing.is

pub returns-in-Preparing : goal.returns-in-Preparing
returns-in-Preparing c = IfOk-weaker c.ask_again.result _ _ (λ x asked n is.
    let prepares : n.volatile.role ≡ Preparing = sym is.stands.of_role ∙ c.in-Preparing.is in
    let first = c.beat.ensures.acts n is in
    let now = node_hearing Beat n in
    subst (λ role. IsActed (act_of_tick_as role c.args.word n) c.args.self x) (sym prepares)
    (acted_after (stays now) (λ m. act_of_asking_again (cursor_at m) m) c.args.self c.beat.result x first (asked now first.node)))
    c.ask_again.ensures
