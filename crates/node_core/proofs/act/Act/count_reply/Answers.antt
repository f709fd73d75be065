use Rattle.std.proofs.Common.{◌≡◌, sym, subst, ◌∙◌}
use Rattle.std.proofs.lemmas.Result.{IfOk-weaker}
use Rattle.entry_frames.specs.declared.role.Role.TheVariants.{Candidate}
use Rattle.world_model.specs.Nodes.{node_hearing}
use Rattle.world_model.specs.Rules.Acts.{stays}
use Rattle.world_model.specs.Rules.VoteReply.{act_of_count, act_of_vote_reply_as, vote_heard}
use Rattle.node_core.specs.Acting.{IsActed}
use Rattle.node_core.proofs.Acting.{acted_after}
use Rattle.node_core.proofs.Ranging.{hears_silent}
use Rattle.node_core.proofs.act.Act.count_reply.Goals as goal

pub prepare_if_won-requires-clause-ranged : goal.prepare_if_won-requires-clause-ranged
prepare_if_won-requires-clause-ranged c =
    let r = c.requires.ranged in
    let item = vote_heard r.node c.args.sender c.args.granted in record {
      node = node_hearing item r.node;
      is = (c.hear_vote.ensures.acts r.node r.is).node;
      ranged = hears_silent r.ranged item tt;
    }

pub returns-in-Candidate : goal.returns-in-Candidate
returns-in-Candidate c = IfOk-weaker c.prepare_if_won.result _ _ (λ x counted n is.
    let candidate : n.volatile.role ≡ Candidate = sym is.stands.of_role ∙ c.in-Candidate.is in
    let now = node_hearing (vote_heard n c.args.sender c.args.granted) n in
    let first = c.hear_vote.ensures.acts n is in
    subst (λ role. IsActed (act_of_vote_reply_as role n c.args.sender c.args.granted) c.args.self x) (sym candidate)
    (acted_after (stays now) act_of_count c.args.self c.hear_vote.result x first (counted now first.node)))
    c.prepare_if_won.ensures
