use Rattle.std.proofs.Common.{◌∙◌, ap}
use Rattle.world_model.specs.Rules.Acts.{message_of}
use Rattle.world_model.specs.Rules.Say.{start_of}
use Rattle.node_core.proofs.Batches.{appended, may_start}
use Rattle.node_core.proofs.member.Member.append_to.Goals as goal

pub batch_for-requires-clause-least : goal.batch_for-requires-clause-least
batch_for-requires-clause-least c = (may_start c.args.self.now c.requires c.args.receiver c.start_for-start.result c.start_for-start.ensures).0

pub batch_for-requires-clause-most : goal.batch_for-requires-clause-most
batch_for-requires-clause-most c = (may_start c.args.self.now c.requires c.args.receiver c.start_for-start.result c.start_for-start.ensures).1

pub append_of-requires-clause-least : goal.append_of-requires-clause-least
append_of-requires-clause-least c = (may_start c.args.self.now c.requires c.args.receiver c.start_for-start.result c.start_for-start.ensures).0

pub append_of-requires-clause-most : goal.append_of-requires-clause-most
append_of-requires-clause-most c = (may_start c.args.self.now c.requires c.args.receiver c.start_for-start.result c.start_for-start.ensures).1

pub returns : goal.returns
returns c = λ n is.
    c.says.ensures n is
    ∙ ap (λ body. message_of n body c.args.receiver)
    (c.append_of.ensures
    ∙ appended c.args.self.now n is c.args.receiver c.start_for-start.result (start_of n c.args.receiver) c.in_ok-entries.entries (c.start_for-start.ensures n is) (c.in_ok-entries.ensures n is))
