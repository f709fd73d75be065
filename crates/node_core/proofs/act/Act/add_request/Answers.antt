use Rattle.std.proofs.Common.{refl}
use Rattle.world_model.specs.Rules.Call as rule
use Rattle.node_core.proofs.Acting.{become_after}
use Rattle.node_core.proofs.act.Act.add_request.Goals as goal

pub returns : goal.returns
returns c = λ n is.
    let between = c.in_ok-act.act in
    become_after (rule.act_of_entry c.args.request.now n) (λ m. record m { volatile = rule.calling c.args.place c.args.request.now m })
    c.args.self between (record between { member = c.wait_for.new.self }) (c.in_ok-act.ensures n is) refl c.in_ok-wait_for.ensures
