-- What a client does that asks a cluster for the reply to one request: which packets it sends, and what it takes from those that come.
use Rattle.std.specs.Prelude.{ℕ, zero, suc, ◌+◌, Bool, true, false, ◌&&◌, ◌==◌, nat_lt, slice_index, if◌then◌else◌, List, [], ◌∷◌, Option, None, Some, Result, Ok, Err}
use Rattle.craft_base.specs.Shape.{Shape, members_of}
use Rattle.craft_base.specs.declared.command.Reply.{Reply}
use Rattle.craft_base.specs.declared.command.Reply.TheVariants as replies
use Rattle.craft_base.specs.declared.command.Request.{Request}
use Rattle.craft_edge.specs.Packets.{Packet}
use Rattle.entry_frames.specs.Formats.{spelling, reading_all}
use Rattle.entry_frames.specs.MessageFields.{frame_fields}
use Rattle.entry_frames.specs.declared.fault.FrameFault.{FrameFault}
use Rattle.entry_frames.specs.declared.message.Message.{Message}
use Rattle.entry_frames.specs.declared.message.Message.TheVariants as messages
use Rattle.craft_client.specs.declared.told.Told.{Told}
use Rattle.craft_client.specs.declared.told.Told.TheVariants.{Nothing, Elsewhere, Final}

-- ---- what is sent

-- the bytes of the request to a member
unfoldable pub frame_to : Shape → Request → ℕ → List ℕ
frame_to shape request member = spelling (frame_fields shape) (messages.Request member request)

-- the request to a member, at its place
abbrev pub request_to : Shape → List ℕ → Request → ℕ → Packet
request_to shape places request member = record { place = slice_index places member; bytes = frame_to shape request member }

-- ---- what a packet tells

-- What a reply of a member tells: where else to ask, where it names a member; nothing, where it is Elsewhere without a member,
-- Preparing or Busy; and else it is final.
abbrev pub said_by : ℕ → Reply → Told
said_by sender (replies.Elsewhere (Some hint)) = Elsewhere hint
said_by sender (replies.Elsewhere None) = Nothing
said_by sender replies.Preparing = Nothing
said_by sender replies.Busy = Nothing
said_by sender reply = Final (sender, reply)

-- it is a reply to the client of that request, under its number
abbrev pub is_reply_for : Request → Message → Bool
is_reply_for request (messages.Answered sender client seq reply) = client == request.client && seq == request.seq
is_reply_for request _ = false

-- what the reply in a message tells
abbrev pub told_in : Message → Told
told_in (messages.Answered sender client seq reply) = said_by sender reply
told_in _ = Nothing

-- what some bytes tell that were read as a message or as none: nothing, where they aren't a reply to that request
abbrev pub told_as : Request → Result Message FrameFault → Told
told_as request (Ok message) = if is_reply_for request message then told_in message else Nothing
told_as request (Err fault) = Nothing

-- what a packet of these bytes tells
unfoldable pub told_by_packet : Shape → Request → List ℕ → Told
told_by_packet shape request bytes = told_as request (reading_all (frame_fields shape) bytes)

-- ---- one try

-- how many packets a try looks at
abbrev pub packets_of_try : ℕ
packets_of_try = 64

-- what a try was told, and the packets that are left
pub record Listened : Type 0 where
  pub told : Told
  pub rest : List Packet

-- it ends no try
abbrev pub is_nothing : Told → Bool
is_nothing Nothing = true
is_nothing _ = false

-- a packet ends the try where it tells something; else what comes later decides
abbrev pub first_told : Told → List Packet → Listened → Listened
first_told Nothing rest later = later
first_told told rest later = record { told = told; rest = rest }

-- The first of so many packets that tells something ends the try, and the others are passed over. Where none does it ends behind
-- the last of them, or where no packet is left.
unfoldable pub listened : Shape → Request → ℕ → List Packet → Listened
listened shape request zero packets = record { told = Nothing; rest = packets }
listened shape request (suc count) [] = record { told = Nothing; rest = [] }
listened shape request (suc count) (packet ∷ packets) = first_told (told_by_packet shape request packet.bytes) packets (listened shape request count packets)

-- ---- all tries

-- the member behind that one, and member 0 behind the last
abbrev pub next_member : Shape → ℕ → ℕ
next_member shape member = if nat_lt (member + 1) (members_of shape) then member + 1 else 0

-- whom the next try asks: the member that was named, or the next one
abbrev pub asked_next : Shape → ℕ → Told → ℕ
asked_next shape member (Elsewhere hint) = hint
asked_next shape member _ = next_member shape member

-- what was sent, the final reply with the member that gave it, if one came, and the packets that are left
pub record Asked : Type 0 where
  pub sends : List Packet
  pub answer : Option (ℕ × Reply)
  pub rest : List Packet

-- a final reply ends it; else the later tries decide
abbrev pub answered_or : Told → List Packet → Asked → Asked
answered_or (Final answer) rest later = record { sends = []; answer = Some answer; rest = rest }
answered_or _ rest later = later

-- with one more packet sent before
abbrev pub after_sending : Packet → Asked → Asked
after_sending packet asked = record asked { sends = packet ∷ asked.sends }

-- so many tries, of which the first asks that member
unfoldable pub asked_from : Shape → List ℕ → Request → ℕ → ℕ → List Packet → Asked
asked_from shape places request zero member packets = record { sends = []; answer = None; rest = packets }
asked_from shape places request (suc tries) member packets =
    let heard = listened shape request packets_of_try packets in
    after_sending (request_to shape places request member) (
    answered_or heard.told heard.rest (
    asked_from shape places request tries (asked_next shape member heard.told) heard.rest))

-- the first try asks member 0
abbrev pub asked : Shape → List ℕ → Request → ℕ → List Packet → Asked
asked shape places request tries packets = asked_from shape places request tries 0 packets
