use Rattle.std.proofs.Common.{◌≡◌, ◌<◌, ◌≤◌, ◌-◌, vec_len}
use Rattle.std.specs.Prelude.{is_some}
use Rattle.craft_base.specs.Shape.{members_of}
use Rattle.craft_client.proofs.AllTries.{AsksOn}
use Rattle.craft_client.proofs.asking.ask_group.Given as goal

-- no try so far had a final reply
abbrev pub invariant-loop : goal.invariant-loop
invariant-loop g l = record {
  room : 65536 ≤ vec_len l.buf;
  member : l.member < members_of l.shape;
  asked : AsksOn l.shape l.places l.request l.tries (l.tries - l.counter) l.member (g.L.Link.coming l.fn.link) (g.L.Link.coming l.link) (g.L.Link.sent l.fn.link) (g.L.Link.sent l.link);
  coming : is_some (g.L.Link.coming l.link) ≡ is_some (g.L.Link.coming l.fn.link);
  sent : is_some (g.L.Link.sent l.link) ≡ is_some (g.L.Link.sent l.fn.link);
  later : g.L.Link.faults l.fn.link ≤ g.L.Link.faults l.link;
}
