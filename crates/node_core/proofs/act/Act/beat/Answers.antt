use Rattle.std.proofs.Common.{refl}
use Rattle.craft_base.specs.Knowledge.{Beat}
use Rattle.world_model.specs.Nodes.{node_hearing}
use Rattle.world_model.specs.Rules.Acts.{stays}
use Rattle.node_core.proofs.Acting.{moved_after, stays_acted}
use Rattle.node_core.proofs.Ranging.{heard_node}
use Rattle.node_core.proofs.act.Act.beat.Goals as goal

pub returns-clause-acts : goal.returns-clause-acts
returns-clause-acts c = λ n is.
    let self = c.args.self in
    moved_after (stays n) (node_hearing Beat n) self self (record self { member = record self.member { heard = c.beat.new.self } }) (stays_acted self n is) refl refl
    (heard_node self.member c.beat.new.self Beat n is c.beat.ensures.settled c.beat.ensures.heard)
