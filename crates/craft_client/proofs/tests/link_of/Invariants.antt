use Rattle.std.proofs.Common.{◌≤◌, All, vec_len}
use Rattle.craft_client.proofs.tests.link_of.Given as goal

-- no packet so far is longer than a packet may be
abbrev pub invariant-loop-text : goal.invariant-loop-text
invariant-loop-text l = All (λ packet. vec_len packet.1 ≤ 65536) l.packets.items
