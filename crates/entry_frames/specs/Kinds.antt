-- The kinds of messages, and who sends and receives them.
use Rattle.std.specs.Prelude.{ℕ, ◌-◌, Bool, true, false, List, [], ◌∷◌, ◌==◌, if◌then◌else◌}
use Rattle.craft_base.specs.Shape.{Shape, members_of}
use Rattle.entry_frames.specs.declared.kind.Kind.{Kind}
use Rattle.entry_frames.specs.declared.kind.Kind.TheVariants as kinds
use Rattle.entry_frames.specs.declared.kind.PeerKind.{PeerKind}
use Rattle.entry_frames.specs.declared.kind.PeerKind.TheVariants as peer_kinds
use Rattle.entry_frames.specs.declared.peer.Peer.{Peer}
use Rattle.entry_frames.specs.declared.peer.Peer.TheVariants as peers
use Rattle.entry_frames.specs.declared.message.Message.{Message}
use Rattle.entry_frames.specs.declared.message.Message.TheVariants as messages

abbrev pub kind_byte : Kind → ℕ
kind_byte (kinds.Peer peer_kinds.Vote) = 1
kind_byte (kinds.Peer peer_kinds.VoteReply) = 2
kind_byte (kinds.Peer peer_kinds.Append) = 3
kind_byte (kinds.Peer peer_kinds.AppendReply) = 4
kind_byte (kinds.Peer peer_kinds.Ask) = 5
kind_byte (kinds.Peer peer_kinds.Answer) = 6
kind_byte kinds.Request = 7
kind_byte kinds.Answered = 8

abbrev pub all_kinds : List Kind
all_kinds =
    kinds.Peer peer_kinds.Vote ∷ kinds.Peer peer_kinds.VoteReply ∷ kinds.Peer peer_kinds.Append ∷ kinds.Peer peer_kinds.AppendReply ∷ kinds.Peer peer_kinds.Ask ∷ kinds.Peer peer_kinds.Answer
    ∷ kinds.Request ∷ kinds.Answered ∷ []

-- the kind in the list that is written as that byte, kinds.Answered where there is none
abbrev pub kind_in : List Kind → ℕ → Kind
kind_in [] byte = kinds.Answered
kind_in (kind ∷ others) byte = if kind_byte kind == byte then kind else kind_in others byte

abbrev pub kind_with : ℕ → Kind
kind_with byte = kind_in all_kinds byte

abbrev pub is_kind_byte : ℕ → Bool
is_kind_byte byte = kind_byte (kind_with byte) == byte

abbrev pub peer_kind : Peer → PeerKind
peer_kind (peers.Vote last_term last) = peer_kinds.Vote
peer_kind (peers.VoteReply granted) = peer_kinds.VoteReply
peer_kind (peers.Append prev prev_term commit entries) = peer_kinds.Append
peer_kind (peers.Matched prev count mask) = peer_kinds.AppendReply
peer_kind (peers.Refused next) = peer_kinds.AppendReply
peer_kind (peers.Ask start) = peer_kinds.Ask
peer_kind (peers.Answer start last slots) = peer_kinds.Answer

abbrev pub kind_of : Message → Kind
kind_of (messages.Peer sender receiver term body) = kinds.Peer (peer_kind body)
kind_of (messages.Request receiver request) = kinds.Request
kind_of (messages.Answered sender client seq reply) = kinds.Answered

-- in place of a member, a client is ff
abbrev pub client_byte : ℕ
client_byte = 255

abbrev pub is_from_client : Kind → Bool
is_from_client kinds.Request = true
is_from_client _ = false

abbrev pub is_to_client : Kind → Bool
is_to_client kinds.Answered = true
is_to_client _ = false

abbrev pub least_end : Bool → ℕ
least_end is_client = if is_client then client_byte else 0

abbrev pub greatest_end : Shape → Bool → ℕ
greatest_end shape is_client = if is_client then client_byte else members_of shape - 1
