use Rattle.std.proofs.Common.{◌≡◌, ℕ, length, get_or, None}
use Rattle.gather_read.proofs.slots.Slots.new.Given as goal

-- so many places, and nothing in any
abbrev pub invariant-loop : goal.invariant-loop
invariant-loop l = record {
  long : length l.places.items ≡ l.counter;
  none : (place : ℕ) → get_or l.places.items place None ≡ None;
}
