use Rattle.std.proofs.Common.{refl}
use Rattle.peer_frames.specs.Texts.{u64_text}
use Rattle.peer_frames.proofs.Spelled.{said_written, append_spelled, answer_spelled}
use Rattle.peer_frames.proofs.writing.push_said.Goals as goal

pub push_append-requires-clause-fit : goal.push_append-requires-clause-fit
push_append-requires-clause-fit c =
    (append_spelled c.args.k c.args.term c.in-Append.prev c.in-Append.prev_term c.in-Append.commit c.in-Append.entries (rw c.in-Append.is at c.requires.fit)).0

pub push_answer-requires-clause-fit : goal.push_answer-requires-clause-fit
push_answer-requires-clause-fit c =
    (answer_spelled c.args.k c.args.term c.in-Answer.start c.in-Answer.last c.in-Answer.slots (rw c.in-Answer.is at c.requires.fit)).0

pub returns-in_ok-push_append-in-Append : goal.returns-in_ok-push_append-in-Append
returns-in_ok-push_append-in-Append c =
    let fits = append_spelled c.args.k c.args.term c.in-Append.prev c.in-Append.prev_term c.in-Append.commit c.in-Append.entries (rw c.in-Append.is at c.requires.fit) in
    rw c.in-Append.is (said_written c.args.frame.now.items c.push_u64.new.frame.items _ (u64_text c.args.term) _ _ c.in_ok-push_u64.ensures c.in_ok-push_append-in-Append.ensures fits.1)

pub returns-in_ok-push_matched-in-Matched : goal.returns-in_ok-push_matched-in-Matched
returns-in_ok-push_matched-in-Matched c = rw c.in-Matched.is (said_written c.args.frame.now.items c.push_u64.new.frame.items _ (u64_text c.args.term) _ _ c.in_ok-push_u64.ensures c.in_ok-push_matched-in-Matched.ensures refl)

pub returns-in_ok-push_answer-in-Answer : goal.returns-in_ok-push_answer-in-Answer
returns-in_ok-push_answer-in-Answer c =
    let fits = answer_spelled c.args.k c.args.term c.in-Answer.start c.in-Answer.last c.in-Answer.slots (rw c.in-Answer.is at c.requires.fit) in
    rw c.in-Answer.is (said_written c.args.frame.now.items c.push_u64.new.frame.items _ (u64_text c.args.term) _ _ c.in_ok-push_u64.ensures c.in_ok-push_answer-in-Answer.ensures fits.1)
