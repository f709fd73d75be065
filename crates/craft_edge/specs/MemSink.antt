-- A sink in memory.
use Rattle.std.specs.Prelude.{ℕ, Bool, List, not, ◌&&◌, ◌||◌, ◌++◌, take}
use Rattle.craft_edge.specs.Calls.{CallBook, after_call, next_fails}

-- the bytes taken so far, the most bytes of one call, the calls, and whether one of them failed for want of memory
pub record SinkState : Type 0 where
  pub taken : List ℕ
  pub piece : ℕ
  pub calls : CallBook
  pub starved : Bool

-- after a call that was given these bytes, took the first n of them, and failed or didn't:
-- a failure that isn't listed is one for want of memory
abbrev pub after_write : SinkState → List ℕ → ℕ → Bool → SinkState
after_write sink bytes n failed = record {
  taken = sink.taken ++ take n bytes;
  piece = sink.piece;
  calls = after_call sink.calls failed;
  starved = sink.starved || (failed && not (next_fails sink.calls));
}
