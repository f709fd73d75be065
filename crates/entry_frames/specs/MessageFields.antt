-- Messages as bytes.
use Rattle.std.specs.Prelude.{ℕ, zero, suc, ◌+◌, ◌-◌, ◌^◌, min, Bool, true, false, not, ◌&&◌, List, [], ◌∷◌, length, ◌==◌, nat_le, if◌then◌else◌}
use Rattle.craft_base.specs.Shape.{Shape, members_of}
use Rattle.craft_base.specs.declared.command.Entry.{Entry}
use Rattle.craft_base.specs.declared.command.Request.{Request}
use Rattle.entry_frames.specs.declared.op_kind.OpKind.{OpKind}
use Rattle.entry_frames.specs.Entries.{entry_fields, entry_fields_in}
use Rattle.entry_frames.specs.Formats.{Format, Value, Number, Bytes, Test, U8, U32, U64, within, embed, spelling}
use Rattle.entry_frames.specs.declared.peer.Peer.{Peer}
use Rattle.entry_frames.specs.declared.peer.Peer.TheVariants as peers
use Rattle.entry_frames.specs.declared.message.Message.{Message}
use Rattle.entry_frames.specs.declared.message.Message.TheVariants as messages
use Rattle.entry_frames.specs.declared.kind.Kind.{Kind}
use Rattle.entry_frames.specs.declared.kind.Kind.TheVariants as kinds
use Rattle.entry_frames.specs.declared.kind.PeerKind.{PeerKind}
use Rattle.entry_frames.specs.declared.kind.PeerKind.TheVariants as peer_kinds
use Rattle.entry_frames.specs.Kinds.{kind_byte, kind_with, is_kind_byte, kind_of, is_from_client, is_to_client, least_end, greatest_end}
use Rattle.entry_frames.specs.Limits.{greatest, last_place, longest_value, most_entries, most_entry_bytes}
use Rattle.entry_frames.specs.MessageParts.{sender_byte, receiver_byte, body_of, term_of, request_of, client_of, seq_of, reply_of, last_term_of, last_of, granted_of, prev_of, prev_term_of, commit_of, entries_of, verdict_of, count_of, mask_of, next_of, start_of}
use Rattle.entry_frames.specs.Operations.{row, op_kind_with, is_op_byte, op_byte, expected_version, op_with}
use Rattle.entry_frames.specs.Records.{blank}
use Rattle.entry_frames.specs.Replies.{bool_byte, bool_with, reply_fields}

-- ---- ranges

-- there is a term exactly where there is an entry
abbrev pub least_with : ℕ → ℕ
least_with n = if n == 0 then 0 else 1

abbrev pub greatest_with : ℕ → ℕ → ℕ
greatest_with n most = if n == 0 then 0 else most

-- how many entries there can be behind an index
abbrev pub most_behind : ℕ → ℕ
most_behind prev = min most_entries (last_place - prev)

-- how many there can be from an index up to the last one
abbrev pub most_up_to : ℕ → ℕ → ℕ
most_up_to start last = min most_entries (last + 1 - start)

-- ---- entries

abbrev pub first_entry : List Entry → Entry
first_entry [] = blank
first_entry (e ∷ entries) = e

abbrev pub later_entries : List Entry → List Entry
later_entries [] = []
later_entries (e ∷ entries) = entries

abbrev pub entry_size : ℕ → Entry → ℕ
entry_size k e = length (spelling (entry_fields k) e)

-- the least term of the next entry, where terms rise from entry to entry or not
abbrev pub least_next : Bool → ℕ → ℕ → ℕ
least_next rises low term = if rises then term else low

-- so many entries, with terms from low to high, and at most so many bytes together
abbrev pub entries_fields : ℕ → Bool → ℕ → ℕ → ℕ → ℕ → Format (List Entry)
entries_fields k rises high zero low room = Value []
entries_fields k rises high (suc count) low room =
    embed (entry_fields_in k low high) first_entry λ e.
    Test (nat_le (entry_size k e) room) (entry_size k e) (
    embed (entries_fields k rises high count (least_next rises low e.term) (room - entry_size k e)) later_entries λ entries.
    Value (e ∷ entries))

-- ---- bodies

abbrev pub vote_fields : Format Peer
vote_fields =
    Number true U64 (within 0 greatest) last_term_of λ last_term.
    Number true U64 (within (least_with last_term) (greatest_with last_term last_place)) last_of λ last.
    Value (peers.Vote last_term last)

abbrev pub vote_reply_fields : Format Peer
vote_reply_fields = Number true U8 (within 0 1) (λ b. bool_byte (granted_of b)) λ granted. Value (peers.VoteReply (bool_with granted))

-- the entries of an append, behind its numbers
abbrev pub append_entries_fields : ℕ → ℕ → ℕ → ℕ → ℕ → ℕ → Format Peer
append_entries_fields k term prev prev_term commit count =
    embed (entries_fields k true term count prev_term most_entry_bytes) entries_of λ entries. Value (peers.Append prev prev_term commit entries)

abbrev pub append_fields : ℕ → ℕ → Format Peer
append_fields k term =
    Number true U64 (within 0 last_place) prev_of λ prev.
    Number true U64 (within (least_with prev) (greatest_with prev term)) prev_term_of λ prev_term.
    Number true U64 (within 0 last_place) commit_of λ commit.
    Number true U8 (within 0 (most_behind prev)) (λ b. length (entries_of b)) λ count.
    append_entries_fields k term prev prev_term commit count

abbrev pub matched_fields : Format Peer
matched_fields =
    Number true U64 (within 0 last_place) prev_of λ prev.
    Number true U8 (within 0 (most_behind prev)) count_of λ count.
    Number true U8 (within 0 (2 ^ count - 1)) mask_of λ mask.
    Value (peers.Matched prev count mask)

abbrev pub refused_fields : Format Peer
refused_fields = Number true U64 (within 1 (last_place + 1)) next_of λ next. Value (peers.Refused next)

-- the fields behind a verdict
abbrev pub verdict_fields : Bool → Format Peer
verdict_fields true = matched_fields
verdict_fields false = refused_fields

abbrev pub append_reply_fields : Format Peer
append_reply_fields = Number true U8 (within 0 1) (λ b. bool_byte (verdict_of b)) λ verdict. verdict_fields (bool_with verdict)

abbrev pub ask_fields : Format Peer
ask_fields = Number true U64 (within 1 last_place) start_of λ start. Value (peers.Ask start)

-- the entries of an answer, behind its numbers
abbrev pub answer_entries_fields : ℕ → ℕ → ℕ → ℕ → ℕ → Format Peer
answer_entries_fields k term start last count =
    embed (entries_fields k false term count 0 most_entry_bytes) entries_of λ slots. Value (peers.Answer start last slots)

abbrev pub answer_fields : ℕ → ℕ → Format Peer
answer_fields k term =
    Number true U64 (within 1 last_place) start_of λ start.
    Number true U64 (within 0 last_place) last_of λ last.
    Number true U8 (within 0 (most_up_to start last)) (λ b. length (entries_of b)) λ count.
    answer_entries_fields k term start last count

-- the fields of a body behind its term
abbrev pub body_fields : ℕ → ℕ → PeerKind → Format Peer
body_fields k term peer_kinds.Vote = vote_fields
body_fields k term peer_kinds.VoteReply = vote_reply_fields
body_fields k term peer_kinds.Append = append_fields k term
body_fields k term peer_kinds.AppendReply = append_reply_fields
body_fields k term peer_kinds.Ask = ask_fields
body_fields k term peer_kinds.Answer = answer_fields k term

-- ---- requests and replies

-- what a client asks for: any operation but Noop
abbrev pub is_request_byte : ℕ → Bool
is_request_byte byte = is_op_byte byte && (row (op_kind_with byte)).asked

abbrev pub request_fields_of : ℕ → ℕ → OpKind → Format Request
request_fields_of client seq kind =
    Number (row kind).expects U64 (within 0 greatest) (λ r. expected_version r.op) λ expected.
    Number true U8 (within 1 255) (λ r. length r.key) λ key_length.
    Bytes key_length (λ r. r.key) λ key.
    Number (row kind).sets U32 (within 0 longest_value) (λ r. length r.value) λ value_length.
    Bytes value_length (λ r. r.value) λ value.
    Value (record { client = client; seq = seq; op = op_with kind expected; key = key; value = value })

abbrev pub request_fields : Format Request
request_fields =
    Number true U64 (within 1 greatest) (λ r. r.client) λ client.
    Number true U64 (within 1 greatest) (λ r. r.seq) λ seq.
    Number true U8 is_request_byte (λ r. op_byte r.op) λ op.
    request_fields_of client seq (op_kind_with op)

-- ---- frames

-- what a peer message says, behind its term
abbrev pub said_fields : ℕ → ℕ → ℕ → ℕ → PeerKind → Format Message
said_fields k sender receiver term kind = embed (body_fields k term kind) body_of λ body. Value (messages.Peer sender receiver term body)

-- a peer message: its term, and then what it says
abbrev pub peer_fields : ℕ → ℕ → ℕ → PeerKind → Format Message
peer_fields k sender receiver kind = Number true U64 (within 1 greatest) term_of λ term. said_fields k sender receiver term kind

abbrev pub asked_fields : ℕ → Format Message
asked_fields receiver = embed request_fields request_of λ request. Value (messages.Request receiver request)

-- a reply, behind the client and the number of the request
abbrev pub replied_fields : ℕ → ℕ → ℕ → ℕ → Format Message
replied_fields members sender client seq = embed (reply_fields members) reply_of λ reply. Value (messages.Answered sender client seq reply)

abbrev pub answered_fields : ℕ → ℕ → Format Message
answered_fields members sender =
    Number true U64 (within 1 greatest) client_of λ client.
    Number true U64 (within 1 greatest) seq_of λ seq.
    replied_fields members sender client seq

-- the fields behind the head
abbrev pub fields_behind_head : Shape → Kind → ℕ → ℕ → Format Message
fields_behind_head shape (kinds.Peer kind) sender receiver = peer_fields shape.need sender receiver kind
fields_behind_head shape kinds.Request sender receiver = asked_fields receiver
fields_behind_head shape kinds.Answered sender receiver = answered_fields (members_of shape) sender

-- who sends and who receives; they aren't the same
abbrev pub ends_fields : Shape → Kind → Format Message
ends_fields shape kind =
    Number true U8 (within (least_end (is_from_client kind)) (greatest_end shape (is_from_client kind))) sender_byte λ sender.
    Number true U8 (within (least_end (is_to_client kind)) (greatest_end shape (is_to_client kind))) receiver_byte λ receiver.
    Test (not (sender == receiver)) 1 (fields_behind_head shape kind sender receiver)

-- a byte that is always the same
abbrev pub fixed_byte : {V : Type 0} → ℕ → Format V → Format V
fixed_byte byte next = Number true U8 (within byte byte) (λ v. byte) λ read. next

abbrev pub frame_fields : Shape → Format Message
frame_fields shape =
    fixed_byte 67 (fixed_byte 82 (fixed_byte 1 (fixed_byte shape.faults (fixed_byte shape.need (
    Number true U8 is_kind_byte (λ f. kind_byte (kind_of f)) λ kind.
    ends_fields shape (kind_with kind))))))
