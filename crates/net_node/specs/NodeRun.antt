-- The run of a node: turn by turn, from the state to which its journal opened, by the readings of its clock and the packets that come.
use Rattle.std.specs.Prelude.{ℕ, zero, suc, ◌+◌, ◌-◌, ◌^◌, min, List, [], ◌∷◌, ◌++◌, Option, None, Some, Result, Ok, Err, ◌==◌, nat_lt, if◌then◌else◌, slice_get, codes}
use Rattle.std.specs.Fmt.{decimal}
use Rattle.rand_xoshiro.specs.SplitMix64.{mix_u64}
use Rattle.craft_base.specs.Shape.{Shape}
use Rattle.craft_edge.specs.Packets.{Packet}
use Rattle.craft_edge.specs.Readings.{after_reading}
use Rattle.entry_frames.specs.Formats.{reading_all, spelling}
use Rattle.entry_frames.specs.MessageFields.{frame_fields}
use Rattle.entry_frames.specs.MessageParts.{receiver_byte}
use Rattle.entry_frames.specs.Records.{Record}
use Rattle.entry_frames.specs.declared.fault.FrameFault.{FrameFault}
use Rattle.entry_frames.specs.declared.message.Message.{Message}
use Rattle.entry_frames.specs.declared.message.Message.TheVariants as messages
use Rattle.entry_frames.specs.declared.output.Output.{Output}
use Rattle.entry_frames.specs.declared.output.Output.TheVariants as outputs
use Rattle.world_model.specs.Lines.{line_of, next_frame, output_line}
use Rattle.world_model.specs.Nodes.{Node}
use Rattle.world_model.specs.Turn as turns

-- ---- packets

-- what a message is to that member: a frame or a request that is for it, from that place; or nothing that it takes
abbrev pub event_of_message : (me place : ℕ) → Message → Option turns.Event
event_of_message me place (messages.Peer sender receiver term body) =
    if receiver == me then Some (turns.Frame (messages.Peer sender receiver term body)) else None
event_of_message me place (messages.Request receiver request) = if receiver == me then Some (turns.Call place request) else None
event_of_message me place (messages.Answered sender client seq reply) = None

abbrev pub event_if_read : (me place : ℕ) → Result Message FrameFault → Option turns.Event
event_if_read me place (Ok m) = event_of_message me place m
event_if_read me place (Err fault) = None

-- what a packet is to that member of the cluster
abbrev pub event_of_packet : Shape → ℕ → Packet → Option turns.Event
event_of_packet shape me packet = event_if_read me packet.place (reading_all (frame_fields shape) packet.bytes)

-- where the members listen: 0 stands for a member that has no place
abbrev pub place_of : List ℕ → ℕ → ℕ
place_of places member = or_none (slice_get places member) where
  or_none : Option ℕ → ℕ
  or_none None = 0
  or_none (Some place) = place

abbrev pub packet_to : Shape → ℕ → Message → Packet
packet_to shape place m = record { place = place; bytes = spelling (frame_fields shape) m }

-- what a member sends by an output: a message to where its receiver listens, a reply to where its client asked
abbrev pub packets_of : Shape → (places : List ℕ) → (me : ℕ) → Output → List Packet
packets_of shape places me (outputs.Send m) = packet_to shape (place_of places (receiver_byte m)) m ∷ []
packets_of shape places me (outputs.Reply place client seq reply) = packet_to shape place (messages.Answered me client seq reply) ∷ []
packets_of shape places me _ = []

abbrev pub packets_among : Shape → (places : List ℕ) → (me : ℕ) → List Output → List Packet
packets_among shape places me [] = []
packets_among shape places me (output ∷ told) = packets_of shape places me output ++ packets_among shape places me told

-- ---- the run so far

pub record Served : Type 0 where
  pub node : Node
  -- the clock's readings still to come, and the last one that was shown
  pub readings : List ℕ
  pub shown : ℕ
  -- the state from which the timer's words come
  pub words : ℕ
  -- the packets still to come
  pub packets : List Packet
  -- how many events there were, and the number of the next frame that is sent
  pub events : ℕ
  pub frame : ℕ
  -- what was printed, sent and recorded
  pub lines : List ℕ
  pub sent : List Packet
  pub records : List Record

-- a node that has read its clock once, before its first turn
abbrev pub opened : Node → (seed : ℕ) → (readings : List ℕ) → (shown : ℕ) → List Packet → Served
opened n seed readings shown packets =
    record {
      node = n;
      readings = readings;
      shown = shown;
      words = seed;
      packets = packets;
      events = 0;
      frame = 1;
      lines = [];
      sent = [];
      records = [];
    }

-- a frame number, which stands still at the greatest of 64 bits
abbrev pub capped : ℕ → ℕ
capped frame = min frame (2 ^ 64 - 1)

abbrev pub frames_after : ℕ → List Output → ℕ
frames_after frame [] = frame
frames_after frame (output ∷ told) = frames_after (capped (next_frame frame output)) told

-- a line of each output of a node, the next frame of which has that number
abbrev pub told_lines : (me frame : ℕ) → List Output → List ℕ
told_lines me frame [] = []
told_lines me frame (output ∷ told) = output_line me frame output ++ told_lines me (capped (next_frame frame output)) told

abbrev pub verdict_line : ℕ → List ℕ → List ℕ
verdict_line number verdict = line_of (decimal number ∷ verdict ∷ [])

-- one more event, which prints this
abbrev pub printing : List ℕ → Served → Served
printing text s = record s { events = s.events + 1; lines = s.lines ++ text }

-- a packet that isn't for it changes nothing
abbrev pub dropping : Served → Served
dropping s = printing (verdict_line (s.events + 1) (codes "drop")) s

-- what a turn makes of the run
abbrev pub after_turn : (places : List ℕ) → turns.Turned → Served → Served
after_turn places t s =
    record (printing (verdict_line (s.events + 1) (codes "done") ++ told_lines s.node.me s.frame t.outputs) s) {
      node = t.node;
      frame = frames_after s.frame t.outputs;
      sent = s.sent ++ packets_among s.node.shape places s.node.me t.outputs;
      records = s.records ++ t.records;
    }

abbrev pub serving : (places : List ℕ) → turns.Event → Served → Served
serving places event s = after_turn places (turns.turn event s.node) s

-- ---- a turn of the loop

abbrev pub taking : (places : List ℕ) → Option turns.Event → Served → Served
taking places None s = dropping s
taking places (Some event) s = serving places event s

-- the next packet, if one is left to come
abbrev pub receiving : (places : List ℕ) → List Packet → Served → Served
receiving places [] s = s
receiving places (packet ∷ packets) s = taking places (event_of_packet s.node.shape s.node.me packet) (record s { packets = packets })

-- a tick, with the next word
abbrev pub ticking : (places : List ℕ) → Served → Served
ticking places s = serving places (turns.Tick (mix_u64 s.words).0) (record s { words = (mix_u64 s.words).1 })

-- what the clock shows: a tick, where the reading rose, and else the next packet
abbrev pub showing : (places : List ℕ) → (reading : ℕ) → Served → Served
showing places reading s =
    let now = record s { readings = after_reading s.readings; shown = reading } in
    if nat_lt s.shown reading then ticking places now else receiving places now.packets now

abbrev pub first_reading : ℕ → List ℕ → ℕ
first_reading shown [] = shown
first_reading shown (reading ∷ readings) = reading

abbrev pub turn_of_node : (places : List ℕ) → Served → Served
turn_of_node places s = showing places (first_reading s.shown s.readings) s

-- so many turns
abbrev pub node_run : (places : List ℕ) → (turns : ℕ) → Served → Served
node_run places zero s = s
node_run places (suc turns) s = turn_of_node places (node_run places turns s)
