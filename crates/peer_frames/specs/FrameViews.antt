-- What views of frames show.
use Rattle.std.specs.Prelude.{ℕ, length, Option, None, Some}
use Rattle.std.specs.Borrow.{Bor}
use Rattle.craft_base.specs.Shape.{Shape}
use Rattle.entry_frames.specs.Formats.{Fits}
use Rattle.entry_frames.specs.MessageFields.{frame_fields}
use Rattle.entry_frames.specs.declared.peer.Peer.{Peer}
use Rattle.entry_frames.specs.declared.peer.Peer.TheVariants as peers
use Rattle.entry_frames.specs.declared.message.Message.{Message}
use Rattle.entry_frames.specs.declared.message.Message.TheVariants as messages
use Rattle.peer_frames.specs.declared.peer_view.PeerView.{PeerView}
use Rattle.peer_frames.specs.declared.frame_view.FrameView.{FrameView}
use Rattle.peer_frames.specs.declared.frame_view.FrameView.TheVariants as views
use Rattle.peer_frames.specs.PeerViews.{peer_of_view, PeerHasK}
use Rattle.peer_frames.specs.RequestViews.{request_of_view, reply_of_view}

abbrev pub message_of_view : FrameView → Message
message_of_view (views.Peer sender receiver term body) = messages.Peer sender receiver term (peer_of_view body)
message_of_view (views.Request receiver request) = messages.Request receiver (request_of_view request)
message_of_view (views.Answered sender client seq reply) = messages.Answered sender client seq (reply_of_view reply)

-- what a peer message says
abbrev pub said_in : Message → Option Peer
said_in (messages.Peer sender receiver term body) = Some body
said_in _ = None

abbrev pub body_behind : Option (Bor PeerView) → Option Peer
body_behind None = None
body_behind (Some place) = Some (peer_of_view place.now)

-- how many entries a body has or speaks of
abbrev pub entries_told : Peer → ℕ
entries_told (peers.Append prev prev_term commit entries) = length entries
entries_told (peers.Answer start last slots) = length slots
entries_told (peers.Matched prev count mask) = count
entries_told _ = 0

-- who asks, and under which number, in a request and in a reply to one
abbrev pub asker_of : Message → ℕ
asker_of (messages.Peer sender receiver term body) = 0
asker_of (messages.Request receiver request) = request.client
asker_of (messages.Answered sender client seq reply) = client

abbrev pub asked_number_of : Message → ℕ
asked_number_of (messages.Peer sender receiver term body) = 0
asked_number_of (messages.Request receiver request) = request.seq
asked_number_of (messages.Answered sender client seq reply) = seq

-- its entries are those of a cluster with that k
abbrev pub FrameHasK : ℕ → FrameView → Type 0
FrameHasK k (views.Peer sender receiver term body) = PeerHasK k body
FrameHasK k _ = Unit {0}

abbrev pub HasNoBody : FrameView → Type 0
HasNoBody (views.Peer sender receiver term body) = ⊥
HasNoBody _ = Unit {0}

-- a frame, and the cluster whose frame it is
pub record ViewedFrame : Type 0 where
  pub shape : Shape
  pub frame : Message

-- it meets the ranges
pub record IsFrame (viewed : ViewedFrame) : Type 0 where
  pub fits : Fits (frame_fields viewed.shape) viewed.frame
