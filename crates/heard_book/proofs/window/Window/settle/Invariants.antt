use Rattle.std.proofs.Common.{◌≡◌, ℕ, ◌+◌}
use Rattle.std.specs.Prelude.{slice_index}
use Rattle.heard_book.proofs.window.Window.settle.Given as goal

-- so many masks left at the front
abbrev pub invariant-loop : goal.invariant-loop
invariant-loop l = record {
  same : l.self.settled ≡ l.fn.self.settled;
  left : (place : ℕ) → slice_index l.self.masks.items place ≡ slice_index l.fn.self.masks.items (l.counter + place);
}
