use Rattle.std.proofs.Common.{◌≡◌, ◌≤◌, ◌+◌, ◌-◌}
use Rattle.std.specs.Prelude.{is_some}
use Rattle.craft_client.proofs.OneTry.{GoesOn}
use Rattle.craft_client.proofs.listening.listen.Given as goal

-- The packets so far told nothing. Where the link was quiet, none is left.
abbrev pub invariant-loop-packets : goal.invariant-loop-packets
invariant-loop-packets g l = record {
  few : l.packets ≤ 64;
  quiet : l.quiets ≤ 10;
  told : GoesOn l.shape l.request l.packets l.quiets (g.L.Link.coming l.initial.link) (g.L.Link.coming l.link);
  coming : is_some (g.L.Link.coming l.link) ≡ is_some (g.L.Link.coming l.initial.link);
  sent : g.L.Link.sent l.link ≡ g.L.Link.sent l.initial.link;
  later : g.L.Link.faults l.initial.link ≤ g.L.Link.faults l.link;
}

abbrev pub decreases-loop-packets : goal.decreases-loop-packets
decreases-loop-packets g l = (64 - l.packets) + (10 - l.quiets)
