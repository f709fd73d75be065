use Rattle.std.proofs.Common.{◌∙◌, ap}
use Rattle.coded_append.specs.Modes.{mode_of}
use Rattle.craft_base.specs.Knowledge.{fresh}
use Rattle.node_core.proofs.member.Member.mode.Goals as goal

pub returns : goal.returns
returns c = λ n is.
    c.mode.ensures ∙ ap (mode_of c.args.self.now.shape) (c.fresh_count.ensures n.shape n.volatile.heard n.volatile.first is.stands.of_heard)
    ∙ ap (λ s. mode_of s (fresh n.shape n.volatile.heard)) is.stands.of_shape
