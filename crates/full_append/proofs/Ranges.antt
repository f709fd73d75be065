-- What the ranges of a message give.
use Rattle.std.proofs.Common.{◌≡◌, ℕ, ◌≤◌, List, length, ap, arith}
use Rattle.std.proofs.lemmas.Bool.{false≢true}
use Rattle.craft_base.specs.Shape.{Shape}
use Rattle.entry_frames.specs.Formats.{Fits}
use Rattle.entry_frames.specs.Kinds.{kind_of}
use Rattle.entry_frames.specs.Limits.{most_entries}
use Rattle.entry_frames.specs.MessageFields.{append_fields, frame_fields, most_behind}
use Rattle.entry_frames.specs.MessageParts.{body_of, entries_of}
use Rattle.entry_frames.specs.declared.kind.Kind.TheVariants as kinds
use Rattle.entry_frames.specs.declared.kind.PeerKind.TheVariants as peer_kinds
use Rattle.entry_frames.specs.declared.message.Message.{Message}
use Rattle.entry_frames.specs.declared.message.Message.TheVariants as messages
use Rattle.entry_frames.specs.declared.peer.Peer.TheVariants as peers
use Rattle.craft_base.specs.declared.command.Entry.{Entry}
use Rattle.full_append.proofs.Appends.{is_append}
use Rattle.peer_frames.proofs.Heads.{peer_spelled}
use Rattle.peer_frames.proofs.Peers.{lies_within}

few_of : (k term prev prev_term commit : ℕ) (entries : List Entry) → Fits (append_fields k term) (peers.Append prev prev_term commit entries) → length entries ≤ most_entries
few_of k term prev prev_term commit entries fits =
    let range = lies_within 0 (most_behind prev) (length entries) fits.1.1.1.0.1 in
    omega (arith, range.below)

-- An Append that has a spelling has at most as many entries as a message can have.
pub few_entries : (shape : Shape) (m : Message) → Fits (frame_fields shape) m → kind_of m ≡ kinds.Peer peer_kinds.Append → length (entries_of (body_of m)) ≤ most_entries
few_entries shape (messages.Peer sender receiver term (peers.Append prev prev_term commit entries)) fits is =
    few_of shape.need term prev prev_term commit entries (peer_spelled shape sender receiver term (peers.Append prev prev_term commit entries) fits).0
few_entries shape (messages.Peer sender receiver term (peers.Vote last_term last)) fits is = omega arith
few_entries shape (messages.Peer sender receiver term (peers.VoteReply granted)) fits is = omega arith
few_entries shape (messages.Peer sender receiver term (peers.Matched prev count mask)) fits is = omega arith
few_entries shape (messages.Peer sender receiver term (peers.Refused next)) fits is = omega arith
few_entries shape (messages.Peer sender receiver term (peers.Ask start)) fits is = omega arith
few_entries shape (messages.Peer sender receiver term (peers.Answer start last slots)) fits is = absurd (false≢true (ap is_append is))
few_entries shape (messages.Request receiver request) fits is = omega arith
few_entries shape (messages.Answered sender client seq reply) fits is = omega arith
