use Rattle.std.proofs.Common.{refl, [], None}
use Rattle.entry_frames.specs.Records.{Term}
use Rattle.entry_frames.specs.declared.role.Role.TheVariants.{Follower}
use Rattle.world_model.specs.Rules.Acts.{recording, stays}
use Rattle.node_core.proofs.Acting.{become_after}
use Rattle.node_core.proofs.act.Act.follow_term.Goals as goal

pub returns : goal.returns
returns c = λ n is.
    let between = c.in_ok-act.act in
    become_after (recording (Term c.args.term None) (stays n)) (λ m. record m { volatile = record m.volatile { role = Follower; hint = None; heard = []; first = 0; pages = []; calls = []; reads = []; want = None } })
    c.args.self between (record between { member = c.enter_as_follower.new.self }) (c.in_ok-act.ensures.acts n is) refl c.in_ok-enter_as_follower.ensures
