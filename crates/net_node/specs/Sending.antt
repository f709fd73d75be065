-- What a node sends.
use Rattle.std.specs.Prelude.{◌≡◌, ◌⊎◌, ℕ, List, ◌++◌, Option, option_map}
use Rattle.craft_base.specs.Shape.{Shape}
use Rattle.craft_edge.specs.Causes.{Rose}
use Rattle.craft_edge.specs.Packets.{Packet}
use Rattle.entry_frames.specs.Formats.{Fits}
use Rattle.entry_frames.specs.MessageFields.{frame_fields}
use Rattle.entry_frames.specs.declared.message.Message.TheVariants as messages
use Rattle.entry_frames.specs.declared.output.Output.{Output}
use Rattle.entry_frames.specs.declared.output.Output.TheVariants as outputs
use Rattle.world_model.specs.Ranges.{HasSpelling}
use Rattle.net_node.specs.declared.serve_end.ServeEnd.{ServeEnd}
use Rattle.net_node.specs.declared.serve_end.ServeEnd.TheVariants.{LinkFault, NoMemory}

-- what that member of the cluster tells can be written as a frame, where it is for another
abbrev pub CanBeSent : Shape → (me : ℕ) → Output → Type 0
CanBeSent shape me (outputs.Send m) = HasSpelling shape m
CanBeSent shape me (outputs.Reply place client seq reply) = Fits (frame_fields shape) (messages.Answered me client seq reply)
CanBeSent shape me _ = Unit {0}

-- these packets were sent, where a link tells what was
abbrev pub Sends : (old new : Option (List Packet)) → List Packet → Type 0
Sends old new packets = new ≡ option_map (λ sent. sent ++ packets) old

-- a front of these packets was sent
abbrev pub SendsFront : (old new : Option (List Packet)) → List Packet → Type 0
SendsFront old new packets = (front : List Packet) × (rest : List Packet) × (packets ≡ front ++ rest) × Sends old new front

-- a send that isn't made: the link failed, or memory was wanting
abbrev pub SendsNot : (before now : ℕ) → ServeEnd → Type 0
SendsNot before now ending = (ending ≡ NoMemory) ⊎ ((ending ≡ LinkFault) × Rose before now)
