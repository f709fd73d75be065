use Rattle.std.proofs.Common.{◌≡◌, ◌≤◌, length, refl, ap, sym, subst, ◌∙◌}
use Rattle.std.proofs.lemmas.Result.{IfOk-weaker}
use Rattle.craft_base.specs.Shape.{Shape, IsShape}
use Rattle.entry_frames.specs.declared.role.Role.TheVariants.{Leader}
use Rattle.world_model.specs.Rules.Applying.{act_of_commit}
use Rattle.world_model.specs.Rules.Matched.{act_of_next, commit_of_leader}
use Rattle.world_model.proofs.Ranges.Applying.{commit_in_range, commit_keeps}
use Rattle.node_core.specs.Acting.{IsActed, is_preparing}
use Rattle.node_core.proofs.Acting.{acted_after}
use Rattle.node_core.proofs.Ranging.{may_say}
use Rattle.node_core.proofs.Serving.{is_served}
use Rattle.node_core.proofs.act.Act.progress.Goals as goal

pub append_if_any-requires : goal.append_if_any-requires
append_if_any-requires c =
    let r = c.requires.ranged in
    let index = c.commit_of_leader-commit.result in
    let within : index ≤ length r.node.durable.log = subst (λ d. index ≤ length d.log) r.is.stands.of_durable c.commit_of_leader-commit.ensures.within in
    let leads : (act_of_commit index r.node).node.volatile.role ≡ Leader =
    commit_keeps r.node index (λ act. act.node.volatile.role ≡ r.node.volatile.role) refl refl ∙ sym r.is.stands.of_role ∙ c.requires.leads in
    let is_shape : IsShape r.node.shape = subst (λ (s : Shape). IsShape s) r.is.stands.of_shape c.law.ensures in
    may_say (commit_in_range is_shape r.ranged index within).node c.in_ok-act.act.member (c.in_ok-act.ensures r.node r.is).node leads

pub returns : goal.returns
returns c = IfOk-weaker c.append_if_any.result _ _ (λ x said n is.
    let act = act_of_commit (commit_of_leader n) n in
    let first = subst (λ index. IsActed (act_of_commit index n) c.args.self c.in_ok-act.act) (c.commit_of_leader-commit.ensures.value n is) (c.in_ok-act.ensures n is) in
    acted_after act (act_of_next c.args.member) c.args.self c.in_ok-act.act x first (said act.node first.node))
    c.append_if_any.ensures

pub commit_to-requires-clause-free : goal.commit_to-requires-clause-free
commit_to-requires-clause-free c = ap is_preparing c.requires.leads

pub commit_to-requires-clause-served : goal.commit_to-requires-clause-served
commit_to-requires-clause-served c = let r = c.requires.ranged in is_served c.args.self.member r.node r.is
