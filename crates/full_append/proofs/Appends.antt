-- What is known of an Append.
use Rattle.std.proofs.Common.{◌≡◌, length, Bool, true, false, refl, ap}
use Rattle.std.proofs.lemmas.Bool.{false≢true}
use Rattle.entry_frames.specs.Kinds.{kind_of}
use Rattle.entry_frames.specs.MessageParts.{body_of, entries_of}
use Rattle.entry_frames.specs.declared.kind.Kind.{Kind}
use Rattle.entry_frames.specs.declared.kind.Kind.TheVariants as kinds
use Rattle.entry_frames.specs.declared.kind.PeerKind.TheVariants as peer_kinds
use Rattle.entry_frames.specs.declared.message.Message.{Message}
use Rattle.entry_frames.specs.declared.message.Message.TheVariants as messages
use Rattle.entry_frames.specs.declared.peer.Peer.TheVariants as peers
use Rattle.peer_frames.specs.FrameViews.{entries_told}

abbrev pub is_append : Kind → Bool
is_append (kinds.Peer peer_kinds.Append) = true
is_append _ = false

-- it tells as many entries as it has
pub told : (m : Message) → kind_of m ≡ kinds.Peer peer_kinds.Append → entries_told (body_of m) ≡ length (entries_of (body_of m))
told (messages.Peer sender receiver term (peers.Append prev prev_term commit entries)) is = refl
told (messages.Peer sender receiver term (peers.Vote last_term last)) is = refl
told (messages.Peer sender receiver term (peers.VoteReply granted)) is = refl
told (messages.Peer sender receiver term (peers.Matched prev count mask)) is = absurd (false≢true (ap is_append is))
told (messages.Peer sender receiver term (peers.Refused next)) is = refl
told (messages.Peer sender receiver term (peers.Ask start)) is = refl
told (messages.Peer sender receiver term (peers.Answer start last slots)) is = refl
told (messages.Request receiver request) is = refl
told (messages.Answered sender client seq reply) is = refl
