use Rattle.std.proofs.Common.{refl, length}
use Rattle.world_model.specs.Nodes.{node_hearing}
use Rattle.world_model.specs.Rules.Acts.{stays}
use Rattle.world_model.specs.Rules.Answer.{answer_heard}
use Rattle.node_core.proofs.Acting.{moved_after, stays_acted}
use Rattle.node_core.proofs.Ranging.{heard_node}
use Rattle.node_core.proofs.act.Act.hear_answer.Goals as goal

pub returns-clause-acts : goal.returns-clause-acts
returns-clause-acts c = λ n is.
    let self = c.args.self in
    let item = answer_heard n c.args.sender in
    moved_after (stays n) (node_hearing item n) self self (record self { member = record self.member { heard = c.answered.new.self } }) (stays_acted self n is) refl refl
    (heard_node self.member c.answered.new.self item n is c.answered.ensures.settled (c.answered.ensures.heard (length n.durable.log)))
