-- A turn keeps its node in range, whatever it is told that is in range, and its records can be applied and are spelled.
use Rattle.std.proofs.Common.{◌≡◌, ℕ, ◌+◌, ◌≤◌, nat_lt, refl, sym, subst, arith}
use Rattle.std.proofs.lemmas.Bool.{cond_both, ltb-true}
use Rattle.craft_base.specs.Shape.{Shape, IsShape}
use Rattle.entry_frames.specs.Formats.{Fits, U64}
use Rattle.entry_frames.specs.Kinds.{peer_kind}
use Rattle.entry_frames.specs.Limits.{last_place}
use Rattle.entry_frames.specs.MessageFields.{body_fields}
use Rattle.entry_frames.specs.MessageParts.{receiver_byte}
use Rattle.entry_frames.specs.declared.message.Message.{Message}
use Rattle.entry_frames.specs.declared.message.Message.TheVariants as messages
use Rattle.entry_frames.specs.declared.peer.Peer.{Peer}
use Rattle.entry_frames.specs.declared.peer.Peer.TheVariants as peers
use Rattle.world_model.specs.Nodes.{Node}
use Rattle.world_model.specs.Ranges.{NodeInRange, EventInRange, HasSpelling}
use Rattle.world_model.specs.Rules.Acts.{followed_by}
use Rattle.world_model.specs.Rules.Terms.{act_of_lower_term, act_of_term}
use Rattle.world_model.specs.Rules.Want.{act_of_want}
use Rattle.world_model.specs.Turn.{Event, Tick, Frame, Call, act_of, act_of_event, act_of_message, act_of_peer}
use Rattle.world_model.proofs.Frames.{Ends, body_spelled, ends_of, lies_within}
use Rattle.world_model.proofs.Recorded.{event_recorded, term_recorded}
use Rattle.world_model.proofs.Turns.{caught_up}
use Rattle.world_model.proofs.Ranges.Acts.{ActInRange, followed_in_range, stays_in_range}
use Rattle.world_model.proofs.Ranges.Answer.{answer_as_in_range, slots_of}
use Rattle.world_model.proofs.Ranges.Append.{append_in_range, stretch_of}
use Rattle.world_model.proofs.Ranges.Ask.{ask_in_range}
use Rattle.world_model.proofs.Ranges.Call.{call_in_range}
use Rattle.world_model.proofs.Ranges.Matched.{matched_in_range, refused_in_range}
use Rattle.world_model.proofs.Ranges.Terms.{lower_term_in_range, term_in_range}
use Rattle.world_model.proofs.Ranges.Tick.{tick_in_range}
use Rattle.world_model.proofs.Ranges.Vote.{vote_request_in_range}
use Rattle.world_model.proofs.Ranges.VoteReply.{vote_reply_in_range}
use Rattle.world_model.proofs.Ranges.Want.{want_in_range}

module _ {shape : Shape} (is : IsShape shape) where
  -- a message of the node's own term, by what it says
  peer_in_range :
      {from to at : ℕ} {n : Node} → Ends shape from to at → NodeInRange shape to n → 1 ≤ n.durable.term → (body : Peer) →
      Fits (body_fields shape.need n.durable.term (peer_kind body)) body → ActInRange shape to n (act_of_peer n from body)
  peer_in_range {from = from} ends a begun (peers.Vote last_term last) said = vote_request_in_range is a begun from ends.sender ends.apart last_term last
  peer_in_range {from = from} ends a begun (peers.VoteReply granted) said = vote_reply_in_range is a begun from granted
  peer_in_range {from = from} {n = n} ends a begun (peers.Append prev prev_term commit entries) said =
      append_in_range is from ends.sender ends.apart prev prev_term commit entries a begun
      (stretch_of shape.need n.durable.term prev prev_term commit entries said)
  peer_in_range {from = from} ends a begun (peers.Matched prev count mask) said = matched_in_range is a from ends.sender ends.apart prev count mask
  peer_in_range {from = from} ends a begun (peers.Refused next) said =
      refused_in_range is a from ends.sender ends.apart next (lies_within U64 1 (last_place + 1) next said.1.0).0
  peer_in_range {from = from} ends a begun (peers.Ask start) said =
      let within = lies_within U64 1 last_place start said.0 in
      ask_in_range is from ends.sender ends.apart start within.0 within.1 a begun
  peer_in_range {from = from} {n = n} ends a begun (peers.Answer start last slots) said =
      answer_as_in_range is a begun (record { sender = from; start = start; last = last; slots = slots })
      (slots_of shape.need n.durable.term start last slots said) n.volatile.role refl

  -- a message comes to the member that it is for
  pub message_in_range : (m : Message) {n : Node} → HasSpelling shape m → NodeInRange shape (receiver_byte m) n → ActInRange shape (receiver_byte m) n (act_of_message m n)
  message_in_range (messages.Peer from to at body) {n = n} spelled a =
      let ends : Ends shape from to at = ends_of is body spelled in
      let first : ActInRange shape to n (act_of_term at n) = term_in_range is ends a in
      cond_both (nat_lt at n.durable.term) (act_of_lower_term n from body) (followed_by (act_of_term at n) (λ now. act_of_peer now from body)) (ActInRange shape to n)
      (λ lower. lower_term_in_range is ends a body (ltb-true _ _ lower))
      (λ current.
      let same : (act_of_term at n).node.durable.term ≡ at = caught_up n at current in
      let begun : 1 ≤ (act_of_term at n).node.durable.term = omega (arith, ends.term.0, same) in
      let said : Fits (body_fields shape.need (act_of_term at n).node.durable.term (peer_kind body)) body =
      subst (λ (t : ℕ). Fits (body_fields shape.need t (peer_kind body)) body) (sym same) (body_spelled from to at body spelled) in
      followed_in_range (act_of_term at n) (λ now. act_of_peer now from body) (term_recorded n at) first (peer_in_range ends first.node begun body said))
  message_in_range (messages.Request receiver request) spelled a = stays_in_range a
  message_in_range (messages.Answered sender client seq reply) spelled a = stays_in_range a

-- what a node is told, without what it wants behind it
pub event_in_range :
    {shape : Shape} → IsShape shape → {member : ℕ} {n : Node} (event : Event) → EventInRange shape member event → NodeInRange shape member n →
    ActInRange shape member n (act_of_event event n)
event_in_range is (Tick word) told a = tick_in_range is word a
event_in_range {shape = shape} is {n = n} (Frame m) told a =
    subst (λ member. ActInRange shape member n (act_of_message m n)) told.1
    (message_in_range is m told.0 (subst (λ member. NodeInRange shape member n) (sym told.1) a))
event_in_range is (Call place request) told a = call_in_range is a place request told

pub act_in_range :
    {shape : Shape} → IsShape shape → {member : ℕ} {n : Node} (event : Event) → EventInRange shape member event → NodeInRange shape member n →
    ActInRange shape member n (act_of event n)
act_in_range is {n = n} event told a =
    let first = event_in_range is event told a in
    followed_in_range (act_of_event event n) act_of_want (event_recorded event n) first (want_in_range is first.node)
