-- The frames of what members tell.
use Rattle.std.specs.Prelude.{◌≡◌, List, ℕ}
use Rattle.craft_base.specs.Shape.{Shape}
use Rattle.entry_frames.specs.Formats.{spelling}
use Rattle.entry_frames.specs.MessageFields.{frame_fields}
use Rattle.entry_frames.specs.declared.message.Message.{Message}
use Rattle.entry_frames.specs.declared.output.Output.{Output}
use Rattle.entry_frames.specs.declared.output.Output.TheVariants.{Send}
use Rattle.world_model.specs.Ranges.{HasSpelling}

-- the bytes of a message in a cluster
abbrev pub frame_bytes : Shape → Message → List ℕ
frame_bytes shape m = spelling (frame_fields shape) m

-- what is sent, if something is, has a spelling
abbrev pub CanBeSent : Shape → Output → Type 0
CanBeSent shape (Send m) = HasSpelling shape m
CanBeSent shape _ = Unit {0}

-- the bytes of a message in range
abbrev pub IsSent : Shape → List ℕ → Type 0
IsSent shape bytes = (m : Message) × HasSpelling shape m × (bytes ≡ frame_bytes shape m)
