use Rattle.std.proofs.Common.{sym, subst}
use Rattle.std.proofs.lemmas.Result.{IfOk-weaker}
use Rattle.entry_frames.specs.MessageParts.{body_of, commit_of, entries_of, prev_of, prev_term_of, sender_byte}
use Rattle.node_core.specs.Acting.{IsActed}
use Rattle.node_core.proofs.Choosing.{follows_as}
use Rattle.node_core.proofs.act.Act.take_entries.Goals as goal

pub returns-in-Follower : goal.returns-in-Follower
returns-in-Follower c = IfOk-weaker c.follow.result _ _ (λ x followed n is.
    let frame = c.args.append.now.frame in
    let body = body_of frame in
    subst (λ a. IsActed a c.args.self x)
    (sym (follows_as c.args.self.member.role n (sender_byte frame) (prev_of body) (prev_term_of body) (commit_of body) (entries_of body) is.stands.of_role c.in-Follower.is))
    (followed n is))
    c.follow.ensures
