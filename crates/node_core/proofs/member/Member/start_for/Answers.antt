use Rattle.std.proofs.Common.{◌∙◌, ap}
use Rattle.coded_append.specs.Starts.{start_for}
use Rattle.world_model.specs.Rules.Say.{mode_of_leader}
use Rattle.node_core.proofs.member.Member.start_for.Goals as goal

pub returns : goal.returns
returns c = λ n is.
    c.start_for.ensures.exact n.shape n.volatile.heard n.volatile.first is.stands.of_heard
    ∙ ap (λ mode. start_for mode c.args.member c.args.self.now.store.kept.commit c.args.self.now.store.kept.log n.volatile.heard n.volatile.first) (c.mode.ensures n is)
    ∙ ap (λ d. start_for (mode_of_leader n) c.args.member d.commit d.log n.volatile.heard n.volatile.first) is.stands.of_durable
