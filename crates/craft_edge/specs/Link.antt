-- What a link gives.
use Rattle.std.specs.Prelude.{◌≡◌, ℕ, ◌≤◌, List, [], ◌∷◌, take, length, None, Some, Ok, Err, Option, Result, ⊤}
use Rattle.craft_edge.specs.Packets.{Packet as Sent}
use Rattle.craft_edge.specs.declared.link.Came.{Came}
use Rattle.craft_edge.specs.declared.link.Came.TheVariants.{Packet, Quiet}
use Rattle.craft_edge.specs.declared.failed.Failed.{Failed}

-- a packet's length is at most that of the buffer
abbrev pub FitsBuffer : List ℕ → Came → Type 0
FitsBuffer buffer (Packet from len) = len ≤ length buffer
FitsBuffer buffer Quiet = ⊤

-- Quiet says that no packet is left to come. Else the first of them was taken, and stands at the front of the buffer.
abbrev pub GivesFirst : List Sent → Option (List Sent) → List ℕ → Came → Type 0
GivesFirst packets new buffer (Packet from len) = (rest : List Sent) × (packets ≡ record { place = from; bytes = take len buffer } ∷ rest) × (new ≡ Some rest)
GivesFirst packets new buffer Quiet = (packets ≡ []) × (new ≡ Some [])

-- What a call gave of the packets still to come, where they are told. A call that fails takes none.
abbrev pub Gives : Option (List Sent) → Option (List Sent) → List ℕ → Result Came Failed → Type 0
Gives None new buffer result = ⊤
Gives (Some packets) new buffer (Ok came) = GivesFirst packets new buffer came
Gives (Some packets) new buffer (Err e) = new ≡ Some packets
