-- The parts of a message that its fields are.
use Rattle.std.specs.Prelude.{ℕ, Bool, true, false, List, []}
use Rattle.craft_base.specs.declared.command.Entry.{Entry}
use Rattle.craft_base.specs.declared.command.Op.TheVariants as ops
use Rattle.craft_base.specs.declared.command.Reply.{Reply}
use Rattle.craft_base.specs.declared.command.Reply.TheVariants as replies
use Rattle.craft_base.specs.declared.command.Request.{Request}
use Rattle.entry_frames.specs.declared.peer.Peer.{Peer}
use Rattle.entry_frames.specs.declared.peer.Peer.TheVariants as peers
use Rattle.entry_frames.specs.declared.message.Message.{Message}
use Rattle.entry_frames.specs.declared.message.Message.TheVariants as messages
use Rattle.entry_frames.specs.Kinds.{client_byte}

-- it goes from one member to another
abbrev pub IsPeer : Message → Type 0
IsPeer (messages.Peer sender receiver term body) = Unit {0}
IsPeer _ = ⊥

abbrev pub sender_byte : Message → ℕ
sender_byte (messages.Peer sender receiver term body) = sender
sender_byte (messages.Request receiver request) = client_byte
sender_byte (messages.Answered sender client seq reply) = sender

abbrev pub receiver_byte : Message → ℕ
receiver_byte (messages.Peer sender receiver term body) = receiver
receiver_byte (messages.Request receiver request) = receiver
receiver_byte (messages.Answered sender client seq reply) = client_byte

-- what a peer message says, and something where it is none
abbrev pub body_of : Message → Peer
body_of (messages.Peer sender receiver term body) = body
body_of _ = peers.VoteReply false

abbrev pub term_of : Message → ℕ
term_of (messages.Peer sender receiver term body) = term
term_of _ = 0

abbrev pub request_of : Message → Request
request_of (messages.Request receiver request) = request
request_of _ = record { client = 0; seq = 0; op = ops.Noop; key = []; value = [] }

abbrev pub client_of : Message → ℕ
client_of (messages.Answered sender client seq reply) = client
client_of _ = 0

abbrev pub seq_of : Message → ℕ
seq_of (messages.Answered sender client seq reply) = seq
seq_of _ = 0

abbrev pub reply_of : Message → Reply
reply_of (messages.Answered sender client seq reply) = reply
reply_of _ = replies.Old

-- the parts of a body, 0 or none where it has no such part
abbrev pub last_term_of : Peer → ℕ
last_term_of (peers.Vote last_term last) = last_term
last_term_of _ = 0

abbrev pub last_of : Peer → ℕ
last_of (peers.Vote last_term last) = last
last_of (peers.Answer start last slots) = last
last_of _ = 0

abbrev pub granted_of : Peer → Bool
granted_of (peers.VoteReply granted) = granted
granted_of _ = false

abbrev pub prev_of : Peer → ℕ
prev_of (peers.Append prev prev_term commit entries) = prev
prev_of (peers.Matched prev count mask) = prev
prev_of _ = 0

abbrev pub prev_term_of : Peer → ℕ
prev_term_of (peers.Append prev prev_term commit entries) = prev_term
prev_term_of _ = 0

abbrev pub commit_of : Peer → ℕ
commit_of (peers.Append prev prev_term commit entries) = commit
commit_of _ = 0

abbrev pub entries_of : Peer → List Entry
entries_of (peers.Append prev prev_term commit entries) = entries
entries_of (peers.Answer start last slots) = slots
entries_of _ = []

abbrev pub verdict_of : Peer → Bool
verdict_of (peers.Matched prev count mask) = true
verdict_of _ = false

abbrev pub count_of : Peer → ℕ
count_of (peers.Matched prev count mask) = count
count_of _ = 0

abbrev pub mask_of : Peer → ℕ
mask_of (peers.Matched prev count mask) = mask
mask_of _ = 0

abbrev pub next_of : Peer → ℕ
next_of (peers.Refused next) = next
next_of _ = 0

abbrev pub start_of : Peer → ℕ
start_of (peers.Ask start) = start
start_of (peers.Answer start last slots) = start
start_of _ = 0
