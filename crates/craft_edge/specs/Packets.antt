-- Packets with their places.
use Rattle.std.specs.Prelude.{ℕ, Bool, List, [], ◌∷◌, ◌++◌, if◌then◌else◌, Option, option_map}

-- the bytes of a packet, and where it came from or goes
pub record Packet : Type 0 where
  pub place : ℕ
  pub bytes : List ℕ

-- the packets sent, where they are told, with one more as the last unless its send failed
abbrev pub after_send : Option (List Packet) → Packet → Bool → Option (List Packet)
after_send sent packet failed = option_map (λ packets. if failed then packets else packets ++ packet ∷ []) sent
