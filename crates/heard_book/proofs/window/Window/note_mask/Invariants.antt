use Rattle.std.proofs.Common.{◌≡◌, ℕ, ◌+◌, ◌-◌, ◌<◌}
use Rattle.std.specs.Prelude.{◌==◌, ◌&&◌, ◌||◌, nat_lt}
use Rattle.std.specs.Int.{bit_at}
use Rattle.heard_book.specs.Kept.{is_noted}
use Rattle.heard_book.proofs.window.Window.note_mask.Given as goal

-- what the bits so far tell is noted
abbrev pub invariant-loop-bit : goal.invariant-loop-bit
invariant-loop-bit l = record {
  same : l.self.settled ≡ l.fn.self.settled;
  noted : (other at : ℕ) → l.fn.self.settled < at → is_noted l.self other at ≡ (((l.member == other) && ((nat_lt l.prev at && nat_lt at (l.prev + 1 + l.bit)) && (bit_at l.mask (at - (l.prev + 1)) == 1))) || is_noted l.fn.self other at);
}
