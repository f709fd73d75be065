use Rattle.std.proofs.Common.{◌≤◌, ◌∙◌, ap, sym, subst}
use Rattle.std.proofs.lemmas.Result.{IfOk-weaker}
use Rattle.entry_frames.specs.MessageParts.{body_of, last_term_of, sender_byte}
use Rattle.entry_frames.specs.declared.kind.Kind.TheVariants as kinds
use Rattle.world_model.specs.Rules.Ask.{act_of_ask}
use Rattle.world_model.specs.Rules.Vote.{act_of_vote_request}
use Rattle.world_model.specs.Rules.VoteReply.{act_of_vote_reply}
use Rattle.world_model.specs.Turn.{act_of_peer}
use Rattle.node_core.specs.Acting.{IsActed}
use Rattle.node_core.proofs.Hearing.{answer_said, append_said, ask_said, start_least, vote_reply_said, vote_said}
use Rattle.node_core.proofs.act.Act.take_said.Goals as goal

pub returns-in-Vote : goal.returns-in-Vote
returns-in-Vote c = IfOk-weaker c.consider_vote.result _ _ (λ x acted n is.
    let frame = c.args.view.now.frame in
    let said = vote_said frame c.requires.current.spelled.0 (c.requires.kind ∙ ap kinds.Peer c.in-Vote.is) in
    subst (λ a. IsActed a c.args.self x)
    (ap (λ k. act_of_vote_request n k c.last_term.result c.last.result) c.from.ensures
    ∙ ap (λ k. act_of_vote_request n (sender_byte frame) k c.last.result) c.last_term.ensures
    ∙ ap (λ k. act_of_vote_request n (sender_byte frame) (last_term_of (body_of frame)) k) c.last.ensures ∙ sym (ap (act_of_peer n (sender_byte frame)) said))
    (acted n is))
    c.consider_vote.ensures

pub returns-in-VoteReply : goal.returns-in-VoteReply
returns-in-VoteReply c = IfOk-weaker c.count_reply.result _ _ (λ x acted n is.
    let frame = c.args.view.now.frame in
    let said = vote_reply_said frame c.requires.current.spelled.0 (c.requires.kind ∙ ap kinds.Peer c.in-VoteReply.is) in
    subst (λ a. IsActed a c.args.self x)
    (ap (λ k. act_of_vote_reply n k c.granted.result) c.from-in-VoteReply.ensures ∙ ap (act_of_vote_reply n (sender_byte frame)) c.granted.ensures
    ∙ sym (ap (act_of_peer n (sender_byte frame)) said))
    (acted n is))
    c.count_reply.ensures

pub returns-in-Append : goal.returns-in-Append
returns-in-Append c = IfOk-weaker c.take_entries.result _ _ (λ x acted n is.
    let frame = c.args.view.now.frame in
    let said = append_said frame c.requires.current.spelled.0 (c.requires.kind ∙ ap kinds.Peer c.in-Append.is) in
    subst (λ a. IsActed a c.args.self x) (sym (ap (act_of_peer n (sender_byte frame)) said)) (acted n is))
    c.take_entries.ensures

pub take_question-requires : goal.take_question-requires
take_question-requires c =
    subst (λ k. 1 ≤ k) (sym c.start.ensures)
    (start_least c.args.self.member.store.shape c.args.view.now.frame c.requires.current.spelled (c.requires.kind ∙ ap kinds.Peer c.in-Ask.is))

pub returns-in-Ask : goal.returns-in-Ask
returns-in-Ask c = IfOk-weaker c.take_question.result _ _ (λ x acted n is.
    let frame = c.args.view.now.frame in
    let said = ask_said frame c.requires.current.spelled.0 (c.requires.kind ∙ ap kinds.Peer c.in-Ask.is) in
    subst (λ a. IsActed a c.args.self x)
    (ap (λ k. act_of_ask n k c.start.result) c.from-in-Ask.ensures ∙ ap (act_of_ask n (sender_byte frame)) c.start.ensures ∙ sym (ap (act_of_peer n (sender_byte frame)) said))
    (acted n is))
    c.take_question.ensures

pub returns-in-Answer : goal.returns-in-Answer
returns-in-Answer c = IfOk-weaker c.take_answer.result _ _ (λ x acted n is.
    let frame = c.args.view.now.frame in
    let said = answer_said frame c.requires.current.spelled.0 (c.requires.kind ∙ ap kinds.Peer c.in-Answer.is) in
    subst (λ a. IsActed a c.args.self x) (sym (ap (act_of_peer n (sender_byte frame)) said)) (acted n is))
    c.take_answer.ensures
