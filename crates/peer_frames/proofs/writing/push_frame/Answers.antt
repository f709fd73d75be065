use Rattle.std.proofs.Common.{ap}
use Rattle.entry_frames.specs.declared.kind.Kind.TheVariants as kinds
use Rattle.peer_frames.proofs.Heads.{peer_spelled, peer_written, asked_written, answered_written}
use Rattle.peer_frames.proofs.writing.push_frame.Goals as goal

pub push_said-requires-clause-fit : goal.push_said-requires-clause-fit
push_said-requires-clause-fit c =
    rw c.need-k.ensures.value (peer_spelled c.args.shape.now c.in-Peer.from c.in-Peer.to c.in-Peer.term c.in-Peer.body (rw c.in-Peer.is at c.requires)).0

pub returns-in_ok-push_said-in-Peer : goal.returns-in_ok-push_said-in-Peer
returns-in_ok-push_said-in-Peer c =
    rw c.in-Peer.is (peer_written c.args.shape.now c.in-Peer.from c.in-Peer.to c.in-Peer.term c.in-Peer.body c.args.frame.now.items c.push_head.new.frame.items c.push_said.new.frame.items _ _ _ c.need-k.result (rw c.in-Peer.is at c.requires)
    (ap kinds.Peer c.kind_of_peer.ensures) c.number.ensures.value c.number-in-Peer.ensures.value c.need-k.ensures.value c.in_ok-push_head-in-Peer.ensures c.in_ok-push_said-in-Peer.ensures)

pub returns-in_ok-push_request-in-Request : goal.returns-in_ok-push_request-in-Request
returns-in_ok-push_request-in-Request c =
    rw c.in-Request.is (asked_written c.args.shape.now c.in-Request.to _ c.in-Request.request c.args.frame.now.items c.push_head-in-Request.new.frame.items c.push_request.new.frame.items
    (rw c.in-Request.is at c.requires) c.number-in-Request.ensures.value c.in_ok-push_head-in-Request.ensures c.in_ok-push_request-in-Request.ensures)

pub returns-in_ok-push_reply-in-Answered : goal.returns-in_ok-push_reply-in-Answered
returns-in_ok-push_reply-in-Answered c =
    rw c.in-Answered.is (answered_written c.args.shape.now c.in-Answered.from _ c.in-Answered.client c.in-Answered.seq c.in-Answered.reply c.args.frame.now.items _ _ _ c.push_reply.new.frame.items
    (rw c.in-Answered.is at c.requires) c.number-in-Answered.ensures.value c.in_ok-push_head-in-Answered.ensures
    c.in_ok-push_u64-in-Answered.ensures c.in_ok-push_u64-in-Answered-2.ensures c.in_ok-push_reply-in-Answered.ensures)
