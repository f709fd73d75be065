use Rattle.std.proofs.Common.{[], subst}
use Rattle.std.proofs.lemmas.Result.{IfOk-weaker}
use Rattle.craft_base.specs.Shape.{Shape}
use Rattle.entry_frames.specs.Durable.{Durable}
use Rattle.leader_prep.specs.Decisions.{cursor_of}
use Rattle.leader_prep.specs.Standing.{Stands}
use Rattle.node_core.proofs.member.Member.nothing_shown.Goals as goal

pub returns : goal.returns
returns c = IfOk-weaker c.begin.result _ _ (λ prep stands n is.
    let m = c.args.self.now in
    subst (λ (s : Shape). Stands prep s n.me [] (cursor_of n.durable.commit n.durable.log)) is.stands.of_shape
    (subst (λ me. Stands prep m.shape me [] (cursor_of n.durable.commit n.durable.log)) is.stands.of_me
    (subst (λ (d : Durable). Stands prep m.shape m.me [] (cursor_of d.commit d.log)) is.stands.of_durable stands)))
    c.begin.ensures
