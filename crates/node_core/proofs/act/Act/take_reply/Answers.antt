use Rattle.std.proofs.Common.{◌≤◌, ◌∙◌, ap, sym, subst}
use Rattle.std.proofs.lemmas.Result.{IfOk-weaker}
use Rattle.entry_frames.specs.MessageParts.{body_of, prev_of, sender_byte}
use Rattle.peer_frames.specs.FrameViews.{entries_told}
use Rattle.world_model.specs.Rules.Matched.{act_of_matched, act_of_refused}
use Rattle.world_model.specs.Turn.{act_of_peer}
use Rattle.node_core.specs.Acting.{IsActed}
use Rattle.node_core.proofs.Hearing.{matched_said, next_least, refused_said}
use Rattle.node_core.proofs.act.Act.take_reply.Goals as goal

pub returns-then-is_matched : goal.returns-then-is_matched
returns-then-is_matched c = IfOk-weaker c.take_match.result _ _ (λ x acted n is.
    let frame = c.args.view.now.frame in
    let said = matched_said frame c.requires.spelled.0 c.requires.kind (sym c.is_matched.ensures ∙ c.if-is_matched.true) in
    subst (λ a. IsActed a c.args.self x)
    (ap (λ k. act_of_matched n k c.prev.result c.count.result c.mask.result) c.from.ensures
    ∙ ap (λ k. act_of_matched n (sender_byte frame) k c.count.result c.mask.result) c.prev.ensures
    ∙ ap (λ k. act_of_matched n (sender_byte frame) (prev_of (body_of frame)) k c.mask.result) c.count.ensures
    ∙ ap (λ k. act_of_matched n (sender_byte frame) (prev_of (body_of frame)) (entries_told (body_of frame)) k) c.mask.ensures ∙ sym (ap (act_of_peer n (sender_byte frame)) said))
    (acted n is))
    c.take_match.ensures

pub take_refusal-requires-clause-next : goal.take_refusal-requires-clause-next
take_refusal-requires-clause-next c =
    let frame = c.args.view.now.frame in
    subst (λ k. 1 ≤ k) (sym c.next.ensures) (next_least c.args.self.member.store.shape frame c.requires.spelled c.requires.kind (sym c.is_matched.ensures ∙ c.if-is_matched.false))

pub returns-else-is_matched : goal.returns-else-is_matched
returns-else-is_matched c = IfOk-weaker c.take_refusal.result _ _ (λ x acted n is.
    let frame = c.args.view.now.frame in
    let said = refused_said frame c.requires.spelled.0 c.requires.kind (sym c.is_matched.ensures ∙ c.if-is_matched.false) in
    subst (λ a. IsActed a c.args.self x)
    (ap (λ k. act_of_refused n k c.next.result) c.from-else-is_matched.ensures ∙ ap (act_of_refused n (sender_byte frame)) c.next.ensures
    ∙ sym (ap (act_of_peer n (sender_byte frame)) said))
    (acted n is))
    c.take_refusal.ensures
