-- A link in memory.
use Rattle.std.specs.Prelude.{ℕ, Bool, List, [], ◌∷◌, ◌++◌, not, ◌&&◌, ◌||◌, map, drop, if◌then◌else◌, Vec}
use Rattle.std.specs.declared.alloc.Global.{Global}
use Rattle.craft_edge.specs.Calls.{CallBook, after_call, next_fails}
use Rattle.craft_edge.specs.Packets.{Packet}

-- the packets still to come and those sent, the calls, and whether one of them failed for want of memory
pub record LinkState : Type 0 where
  pub coming : List Packet
  pub sent : List Packet
  pub calls : CallBook
  pub starved : Bool

-- a packet as the code holds it
abbrev pub packet_of : ℕ × Vec ℕ Global → Packet
packet_of held = record { place = held.0; bytes = held.1.items }

-- a list of them
abbrev pub packets_of : List (ℕ × Vec ℕ Global) → List Packet
packets_of held = map packet_of held

-- after a call that took the first n packets, and failed or didn't
abbrev pub after_next : LinkState → ℕ → LinkState
after_next link n = record {
  coming = drop n link.coming;
  sent = link.sent;
  calls = after_call link.calls (next_fails link.calls);
  starved = link.starved;
}

-- after a send of this packet that failed or didn't: a failure that isn't listed is one for want of memory
abbrev pub after_mem_send : LinkState → Packet → Bool → LinkState
after_mem_send link packet failed = record {
  coming = link.coming;
  sent = if failed then link.sent else link.sent ++ packet ∷ [];
  calls = after_call link.calls failed;
  starved = link.starved || (failed && not (next_fails link.calls));
}
