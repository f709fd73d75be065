-- What a packet says to a node, as the code holds it.
use Rattle.std.specs.Prelude.{◌≡◌, ℕ, Option, None, Some}
use Rattle.craft_base.specs.Shape.{Shape}
use Rattle.entry_frames.specs.Formats.{Fits}
use Rattle.entry_frames.specs.MessageFields.{request_fields}
use Rattle.entry_frames.specs.MessageParts.{receiver_byte}
use Rattle.world_model.specs.Ranges.{HasSpelling}
use Rattle.world_model.specs.Turn as turns
use Rattle.net_node.specs.declared.heard.Heard.{Heard}
use Rattle.net_node.specs.declared.heard.Heard.TheVariants.{Peer, Asked, Nothing}

-- the event that it is, where it came from that place
abbrev pub event_of_heard : (place : ℕ) → Heard → Option turns.Event
event_of_heard place (Peer view) = Some (turns.Frame view.frame)
event_of_heard place (Asked request) = Some (turns.Call place request)
event_of_heard place Nothing = None

-- what that member of the cluster can be told
abbrev pub IsHeardBy : Shape → (me : ℕ) → Heard → Type 0
IsHeardBy shape me (Peer view) = HasSpelling shape view.frame × (receiver_byte view.frame ≡ me) × (view.shape ≡ shape)
IsHeardBy shape me (Asked request) = Fits request_fields request
IsHeardBy shape me Nothing = Unit {0}
