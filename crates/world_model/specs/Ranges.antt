-- How great the numbers of a world become: each message that was sent can be written as bytes.
use Rattle.std.specs.Prelude.{◌≡◌, ℕ, ◌+◌, ◌<◌, ◌≤◌, List, length, All, Option, None, Some, slice_get}
use Rattle.craft_base.specs.Shape.{Shape, IsShape, members_of}
use Rattle.craft_base.specs.Knowledge.{Heard, Told, Answered, Beat, From, Matched, Refused, Voted}
use Rattle.entry_frames.specs.Durable.{CanApplyAll}
use Rattle.entry_frames.specs.Entries.{entry_fields}
use Rattle.entry_frames.specs.Formats.{Fits}
use Rattle.entry_frames.specs.Limits.{greatest}
use Rattle.entry_frames.specs.MessageFields.{frame_fields, request_fields}
use Rattle.entry_frames.specs.MessageParts.{IsPeer, receiver_byte}
use Rattle.entry_frames.specs.Stored.{DurableInRange}
use Rattle.entry_frames.specs.declared.role.Role.{Role}
use Rattle.entry_frames.specs.declared.role.Role.TheVariants.{Leader}
use Rattle.entry_frames.specs.declared.message.Message.{Message}
use Rattle.entry_frames.specs.declared.message.Message.TheVariants as messages
use Rattle.leader_prep.specs.Pages.{Page}
use Rattle.world_model.specs.Nodes.{Node, Volatile}
use Rattle.world_model.specs.Safety.{IsRun}
use Rattle.world_model.specs.Turn.{Event, Tick, Frame, Call, act_of}
use Rattle.world_model.specs.World.{Member, World, node_of, run}
use Rattle.world_model.specs.declared.call.Called.{Called}
use Rattle.world_model.specs.declared.call.ClientReply.{ClientReply}
use Rattle.world_model.specs.declared.line.Line.{Line}

-- a term in which something was said or proposed
abbrev pub IsTerm : ℕ → Type 0
IsTerm term = (1 ≤ term) × (term ≤ greatest)

abbrev pub IsMember : Shape → ℕ → Type 0
IsMember shape member = member < members_of shape

-- what a leader heard, where its log has that last index: it was heard with a last index up to that, and a member goes on from an
-- index
abbrev pub ToldInRange : (last at : ℕ) → Told → Type 0
ToldInRange last at (Voted granted) = Unit {0}
ToldInRange last at (Matched prev count mask) = at ≤ last
ToldInRange last at (Refused next) = (at ≤ last) × (1 ≤ next)
ToldInRange last at Answered = Unit {0}

abbrev pub ItemInRange : (last : ℕ) → Heard → Type 0
ItemInRange last Beat = Unit {0}
ItemInRange last (From sender at told) = ToldInRange last at told

-- it says nothing of how far a log matches
abbrev pub IsOfNoLog : Heard → Type 0
IsOfNoLog Beat = Unit {0}
IsOfNoLog (From sender at (Voted granted)) = Unit {0}
IsOfNoLog (From sender at Answered) = Unit {0}
IsOfNoLog (From sender at told) = ⊥

-- what a member knows of the others: a leader's items are in range, it begins at most behind its log, and its log isn't empty, so
-- that there is a term in which it leads; who doesn't lead has heard nothing of logs
abbrev pub KnowsInRange : Role → (last first : ℕ) → List Heard → Type 0
KnowsInRange Leader last first heard = (1 ≤ first) × (first ≤ last + 1) × All (ItemInRange last) heard × (1 ≤ last)
KnowsInRange _ last first heard = All IsOfNoLog heard

-- a number of a client, or of a request of its
abbrev pub IsClientNumber : ℕ → Type 0
IsClientNumber n = (1 ≤ n) × (n ≤ greatest)

-- whom it names as the leader is a member
abbrev pub HintInRange : Shape → Option ℕ → Type 0
HintInRange shape None = Unit {0}
HintInRange shape (Some member) = IsMember shape member

-- the client and the number of a request that waits for its answer
abbrev pub CallInRange : Called → Type 0
CallInRange c = IsClientNumber c.client × IsClientNumber c.seq

-- so has each request that waits to be applied, and each that waits for a value
abbrev pub CallsInRange : Volatile → Type 0
CallsInRange v = All CallInRange v.calls × All CallInRange v.reads

-- what a member may tell clients: who it takes for the leader is a member, and each request that waits has a client and a number
abbrev pub ClientsInRange : Shape → Volatile → Type 0
ClientsInRange shape v = HintInRange shape v.hint × CallsInRange v

-- what a member showed of its log can be written, entry by entry
abbrev pub PageInRange : (k : ℕ) → Page → Type 0
PageInRange k page = All (Fits (entry_fields k)) page.slots

-- the node at a position of the world is that member of the cluster, and its numbers are in range
pub record NodeInRange (shape : Shape) (member : ℕ) (n : Node) : Type 0 where
  pub of_shape : n.shape ≡ shape
  pub me : n.me ≡ member
  pub is_member : IsMember shape member
  pub durable : DurableInRange shape n.durable
  pub clients : ClientsInRange shape n.volatile
  pub knows : KnowsInRange n.volatile.role (length n.durable.log) n.volatile.first n.volatile.heard
  pub pages : All (PageInRange shape.need) n.volatile.pages

-- the message goes from one member to another, and has a spelling as a frame of the cluster
abbrev pub HasSpelling : Shape → Message → Type 0
HasSpelling shape m = IsPeer m × Fits (frame_fields shape) m

-- a reply of that member can be written as a frame of the cluster
abbrev pub ReplyHasSpelling : Shape → ℕ → ClientReply → Type 0
ReplyHasSpelling shape member r = Fits (frame_fields shape) (messages.Answered member r.client r.seq r.reply)

-- what the node can be told: of messages, those to it that have a spelling, and of requests those that have one
abbrev pub EventInRange : Shape → (member : ℕ) → Event → Type 0
EventInRange shape member (Tick word) = Unit {0}
EventInRange shape member (Frame m) = HasSpelling shape m × (receiver_byte m ≡ member)
EventInRange shape member (Call place request) = Fits request_fields request

-- so the records of its turn can be applied in order, each to what those before it leave
abbrev pub EveryTurnCanBeApplied : Type 0
EveryTurnCanBeApplied =
    (shape : Shape) (member : ℕ) (n : Node) (event : Event) → IsShape shape → NodeInRange shape member n → EventInRange shape member event →
    CanApplyAll shape n.durable (act_of event n).records

-- and its replies can be written
abbrev pub EveryReplyHasSpelling : Type 0
EveryReplyHasSpelling =
    (shape : Shape) (member : ℕ) (n : Node) (event : Event) → IsShape shape → NodeInRange shape member n → EventInRange shape member event →
    All (ReplyHasSpelling shape member) (act_of event n).replies

-- the world is of that cluster, each of its members is in range, as the node as which it runs or would start, and each message that
-- was ever sent has a spelling
pub record InRange (shape : Shape) (w : World) : Type 0 where
  pub of_shape : w.shape ≡ shape
  pub members : (me : ℕ) (m : Member) → slice_get w.members me ≡ Some m → NodeInRange shape me (node_of w.shape me m)
  pub sent : All (HasSpelling shape) w.sent

-- so it is of every run of every cluster
abbrev pub EveryRunInRange : Type 0
EveryRunInRange = (shape : Shape) (events : List Line) → IsRun shape events → InRange shape (run shape events)
