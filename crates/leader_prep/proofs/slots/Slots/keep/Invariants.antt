use Rattle.std.proofs.Common.{◌≡◌}
use Rattle.leader_prep.specs.Changes.{Keeps}
use Rattle.leader_prep.specs.Pages.{page_of, slot_of}
use Rattle.leader_prep.proofs.Joining.{first_slots}
use Rattle.leader_prep.proofs.slots.Slots.keep.Given as goal

-- the first slots of the page are kept
abbrev pub invariant-loop-n : goal.invariant-loop-n
invariant-loop-n l = record {
  need : l.self.k ≡ l.fn.self.k;
  keeps : Keeps l.fn.self l.self l.cursor (λ member at. slot_of member (first_slots l.n (page_of l.page.frame)) at);
}
