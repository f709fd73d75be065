-- A message of another member, by its term and then by what it says.
use Rattle.std.proofs.Common.{◌≡◌, ◌+◌, ℕ, ◌≤◌, true, false, cond, refl, ap, sym, subst}
use Rattle.std.specs.Prelude.{nat_lt}
use Rattle.craft_base.specs.Shape.{Shape, IsShape}
use Rattle.entry_frames.specs.Formats.{U64}
use Rattle.entry_frames.specs.Kinds.{kind_of, peer_kind}
use Rattle.entry_frames.specs.Limits.{last_place}
use Rattle.entry_frames.specs.MessageParts.{IsPeer, body_of, commit_of, entries_of, granted_of, last_of, last_term_of, mask_of, next_of, prev_of, prev_term_of, receiver_byte, sender_byte, start_of, term_of, verdict_of}
use Rattle.entry_frames.specs.declared.kind.Kind.TheVariants as kinds
use Rattle.entry_frames.specs.declared.kind.PeerKind.{PeerKind}
use Rattle.entry_frames.specs.declared.kind.PeerKind.TheVariants as peer_kinds
use Rattle.entry_frames.specs.declared.message.Message.{Message}
use Rattle.entry_frames.specs.declared.message.Message.TheVariants as messages
use Rattle.entry_frames.specs.declared.peer.Peer.{Peer}
use Rattle.entry_frames.specs.declared.peer.Peer.TheVariants as peers
use Rattle.peer_frames.specs.FrameViews.{entries_told}
use Rattle.world_model.specs.Nodes.{Node}
use Rattle.world_model.specs.Ranges.{HasSpelling, NodeInRange}
use Rattle.world_model.specs.Rules.Acts.{followed_by}
use Rattle.world_model.specs.Rules.Terms.{act_of_lower_term, act_of_term}
use Rattle.world_model.specs.Turn.{act_of_message, act_of_peer}
use Rattle.world_model.proofs.Frames.{body_spelled, ends_of, lies_within}
use Rattle.world_model.proofs.Ranges.Terms.{term_in_range}

-- one that isn't of a lower term is taken by what it says
pub current_act : (m : Message) (n : Node) → IsPeer m → nat_lt (term_of m) n.durable.term ≡ false
    → act_of_message m n ≡ followed_by (act_of_term (term_of m) n) (λ now. act_of_peer now (sender_byte m) (body_of m))
current_act (messages.Peer from to at body) n is current =
    ap (λ b. cond b (act_of_lower_term n from body) (followed_by (act_of_term at n) (λ now. act_of_peer now from body))) current
current_act (messages.Request to request) n is current = absurd is
current_act (messages.Answered from client seq reply) n is current = absurd is

-- one of a lower term is refused or dropped
pub lower_act : (m : Message) (n : Node) → IsPeer m → nat_lt (term_of m) n.durable.term ≡ true → act_of_message m n ≡ act_of_lower_term n (sender_byte m) (body_of m)
lower_act (messages.Peer from to at body) n is lower =
    ap (λ b. cond b (act_of_lower_term n from body) (followed_by (act_of_term at n) (λ now. act_of_peer now from body))) lower
lower_act (messages.Request to request) n is lower = absurd is
lower_act (messages.Answered from client seq reply) n is lower = absurd is

pub kind_said : (m : Message) (kind : PeerKind) → IsPeer m → kind_of m ≡ kinds.Peer kind → peer_kind (body_of m) ≡ kind
kind_said (messages.Peer from to at body) kind is e = cc
kind_said (messages.Request to request) kind is e = absurd is
kind_said (messages.Answered from client seq reply) kind is e = absurd is

-- what it says, by its kind

vote_body : (body : Peer) → kinds.Peer (peer_kinds.Vote) ≡ kind_of (messages.Peer 0 0 0 body) → body ≡ peers.Vote (last_term_of body) (last_of body)
vote_body (peers.Vote last_term last) e = refl
vote_body (peers.VoteReply granted) e = absurd cc
vote_body (peers.Append prev prev_term commit entries) e = absurd cc
vote_body (peers.Matched prev count mask) e = absurd cc
vote_body (peers.Refused next) e = absurd cc
vote_body (peers.Ask start) e = absurd cc
vote_body (peers.Answer start last slots) e = absurd cc

pub vote_said : (m : Message) → IsPeer m → kind_of m ≡ kinds.Peer peer_kinds.Vote → body_of m ≡ peers.Vote (last_term_of (body_of m)) (last_of (body_of m))
vote_said (messages.Peer from to at body) is e = vote_body body (rw e refl)
vote_said (messages.Request to request) is e = absurd is
vote_said (messages.Answered from client seq reply) is e = absurd is

vote_reply_body : (body : Peer) → kinds.Peer (peer_kinds.VoteReply) ≡ kind_of (messages.Peer 0 0 0 body) → body ≡ peers.VoteReply (granted_of body)
vote_reply_body (peers.Vote last_term last) e = absurd cc
vote_reply_body (peers.VoteReply granted) e = refl
vote_reply_body (peers.Append prev prev_term commit entries) e = absurd cc
vote_reply_body (peers.Matched prev count mask) e = absurd cc
vote_reply_body (peers.Refused next) e = absurd cc
vote_reply_body (peers.Ask start) e = absurd cc
vote_reply_body (peers.Answer start last slots) e = absurd cc

pub vote_reply_said : (m : Message) → IsPeer m → kind_of m ≡ kinds.Peer peer_kinds.VoteReply → body_of m ≡ peers.VoteReply (granted_of (body_of m))
vote_reply_said (messages.Peer from to at body) is e = vote_reply_body body (rw e refl)
vote_reply_said (messages.Request to request) is e = absurd is
vote_reply_said (messages.Answered from client seq reply) is e = absurd is

append_body : (body : Peer) → kinds.Peer (peer_kinds.Append) ≡ kind_of (messages.Peer 0 0 0 body) → body ≡ peers.Append (prev_of body) (prev_term_of body) (commit_of body) (entries_of body)
append_body (peers.Vote last_term last) e = absurd cc
append_body (peers.VoteReply granted) e = absurd cc
append_body (peers.Append prev prev_term commit entries) e = refl
append_body (peers.Matched prev count mask) e = absurd cc
append_body (peers.Refused next) e = absurd cc
append_body (peers.Ask start) e = absurd cc
append_body (peers.Answer start last slots) e = absurd cc

pub append_said : (m : Message) → IsPeer m → kind_of m ≡ kinds.Peer peer_kinds.Append → body_of m ≡ peers.Append (prev_of (body_of m)) (prev_term_of (body_of m)) (commit_of (body_of m)) (entries_of (body_of m))
append_said (messages.Peer from to at body) is e = append_body body (rw e refl)
append_said (messages.Request to request) is e = absurd is
append_said (messages.Answered from client seq reply) is e = absurd is

matched_body : (body : Peer) → kinds.Peer (peer_kinds.AppendReply) ≡ kind_of (messages.Peer 0 0 0 body) → verdict_of body ≡ true → body ≡ peers.Matched (prev_of body) (entries_told body) (mask_of body)
matched_body (peers.Vote last_term last) e v = absurd cc
matched_body (peers.VoteReply granted) e v = absurd cc
matched_body (peers.Append prev prev_term commit entries) e v = absurd cc
matched_body (peers.Matched prev count mask) e v = refl
matched_body (peers.Refused next) e v = absurd cc
matched_body (peers.Ask start) e v = absurd cc
matched_body (peers.Answer start last slots) e v = absurd cc

pub matched_said : (m : Message) → IsPeer m → kind_of m ≡ kinds.Peer peer_kinds.AppendReply → verdict_of (body_of m) ≡ true → body_of m ≡ peers.Matched (prev_of (body_of m)) (entries_told (body_of m)) (mask_of (body_of m))
matched_said (messages.Peer from to at body) is e v = matched_body body (rw e refl) v
matched_said (messages.Request to request) is e v = absurd is
matched_said (messages.Answered from client seq reply) is e v = absurd is

refused_body : (body : Peer) → kinds.Peer (peer_kinds.AppendReply) ≡ kind_of (messages.Peer 0 0 0 body) → verdict_of body ≡ false → body ≡ peers.Refused (next_of body)
refused_body (peers.Vote last_term last) e v = absurd cc
refused_body (peers.VoteReply granted) e v = absurd cc
refused_body (peers.Append prev prev_term commit entries) e v = absurd cc
refused_body (peers.Matched prev count mask) e v = absurd cc
refused_body (peers.Refused next) e v = refl
refused_body (peers.Ask start) e v = absurd cc
refused_body (peers.Answer start last slots) e v = absurd cc

pub refused_said : (m : Message) → IsPeer m → kind_of m ≡ kinds.Peer peer_kinds.AppendReply → verdict_of (body_of m) ≡ false → body_of m ≡ peers.Refused (next_of (body_of m))
refused_said (messages.Peer from to at body) is e v = refused_body body (rw e refl) v
refused_said (messages.Request to request) is e v = absurd is
refused_said (messages.Answered from client seq reply) is e v = absurd is

-- a refusal names an index
pub next_least : (shape : Shape) (m : Message) → HasSpelling shape m → kind_of m ≡ kinds.Peer peer_kinds.AppendReply → verdict_of (body_of m) ≡ false → 1 ≤ next_of (body_of m)
next_least shape (messages.Peer from to at (peers.Refused next)) spelled kind verdict =
    (lies_within U64 1 (last_place + 1) next (body_spelled {shape = shape} from to at (peers.Refused next) spelled).1.0).0
next_least shape (messages.Peer from to at (peers.Matched prev count mask)) spelled kind verdict = absurd cc
next_least shape (messages.Peer from to at (peers.Vote last_term last)) spelled kind verdict = absurd cc
next_least shape (messages.Peer from to at (peers.VoteReply granted)) spelled kind verdict = absurd cc
next_least shape (messages.Peer from to at (peers.Append prev prev_term commit entries)) spelled kind verdict = absurd cc
next_least shape (messages.Peer from to at (peers.Ask start)) spelled kind verdict = absurd cc
next_least shape (messages.Peer from to at (peers.Answer start last slots)) spelled kind verdict = absurd cc
next_least shape (messages.Request to request) spelled kind verdict = absurd spelled.0
next_least shape (messages.Answered from client seq reply) spelled kind verdict = absurd spelled.0

pub ask_said : (m : Message) → IsPeer m → kind_of m ≡ kinds.Peer peer_kinds.Ask → body_of m ≡ peers.Ask (start_of (body_of m))
ask_said (messages.Peer from to at (peers.Vote last_term last)) is e = absurd cc
ask_said (messages.Peer from to at (peers.VoteReply granted)) is e = absurd cc
ask_said (messages.Peer from to at (peers.Append prev prev_term commit entries)) is e = absurd cc
ask_said (messages.Peer from to at (peers.Matched prev count mask)) is e = absurd cc
ask_said (messages.Peer from to at (peers.Refused next)) is e = absurd cc
ask_said (messages.Peer from to at (peers.Ask start)) is e = refl
ask_said (messages.Peer from to at (peers.Answer start last slots)) is e = absurd cc
ask_said (messages.Request to request) is e = absurd is
ask_said (messages.Answered from client seq reply) is e = absurd is

-- a question for the log names an index
pub start_least : (shape : Shape) (m : Message) → HasSpelling shape m → kind_of m ≡ kinds.Peer peer_kinds.Ask → 1 ≤ start_of (body_of m)
start_least shape (messages.Peer from to at (peers.Ask start)) spelled kind =
    (lies_within U64 1 last_place start (body_spelled {shape = shape} from to at (peers.Ask start) spelled).0).0
start_least shape (messages.Peer from to at (peers.Vote last_term last)) spelled kind = absurd cc
start_least shape (messages.Peer from to at (peers.VoteReply granted)) spelled kind = absurd cc
start_least shape (messages.Peer from to at (peers.Append prev prev_term commit entries)) spelled kind = absurd cc
start_least shape (messages.Peer from to at (peers.Matched prev count mask)) spelled kind = absurd cc
start_least shape (messages.Peer from to at (peers.Refused next)) spelled kind = absurd cc
start_least shape (messages.Peer from to at (peers.Answer start last slots)) spelled kind = absurd cc
start_least shape (messages.Request to request) spelled kind = absurd spelled.0
start_least shape (messages.Answered from client seq reply) spelled kind = absurd spelled.0

pub answer_said : (m : Message) → IsPeer m → kind_of m ≡ kinds.Peer peer_kinds.Answer → body_of m ≡ peers.Answer (start_of (body_of m)) (last_of (body_of m)) (entries_of (body_of m))
answer_said (messages.Peer from to at (peers.Vote last_term last)) is e = absurd cc
answer_said (messages.Peer from to at (peers.VoteReply granted)) is e = absurd cc
answer_said (messages.Peer from to at (peers.Append prev prev_term commit entries)) is e = absurd cc
answer_said (messages.Peer from to at (peers.Matched prev count mask)) is e = absurd cc
answer_said (messages.Peer from to at (peers.Refused next)) is e = absurd cc
answer_said (messages.Peer from to at (peers.Ask start)) is e = absurd cc
answer_said (messages.Peer from to at (peers.Answer start last slots)) is e = refl
answer_said (messages.Request to request) is e = absurd is
answer_said (messages.Answered from client seq reply) is e = absurd is

-- ---- in range

pub own_range : {shape : Shape} {me : ℕ} {n : Node} → NodeInRange shape me n → NodeInRange n.shape n.me n
own_range {shape = shape} {n = n} a = subst (λ s. NodeInRange s n.me n) (sym a.of_shape) (subst (λ m. NodeInRange shape m n) (sym a.me) a)

-- the node that has caught up with the term of a message
pub caught_up_in_range : (shape : Shape) → IsShape shape → (m : Message) → HasSpelling shape m → {n : Node} → NodeInRange shape (receiver_byte m) n →
    NodeInRange shape (receiver_byte m) (act_of_term (term_of m) n).node
caught_up_in_range shape is (messages.Peer from to at body) spelled a = (term_in_range is (ends_of is {from = from} {to = to} {at = at} body spelled) a).node
caught_up_in_range shape is (messages.Request to request) spelled a = absurd spelled.0
caught_up_in_range shape is (messages.Answered from client seq reply) spelled a = absurd spelled.0
