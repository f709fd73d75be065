-- A clock in memory.
use Rattle.std.specs.Prelude.{ℕ, List, ◌∷◌, ◌<◌, length}
use Rattle.std.proofs.Math.Nat.{zero-lt-suc}

-- the latest reading shown (0 before the first), the next one, and those after it
pub record ClockState : Type 0 where
  pub shown : ℕ
  pub next : ℕ
  pub later : List ℕ

-- the readings still to come
abbrev pub readings_of : ClockState → List ℕ
readings_of clock = clock.next ∷ clock.later

-- there is always one
pub has_reading : (clock : ClockState) → 0 < length (readings_of clock)
has_reading clock = zero-lt-suc (length clock.later)
