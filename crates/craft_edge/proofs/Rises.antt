-- Laws of counts of faults, for the crates above.
use Rattle.std.proofs.Common.{ℕ, ◌≤◌, arith}
use Rattle.craft_edge.specs.Causes.{Rose}

-- a count that rose stays risen at every later moment
pub Rose-later : (a b c : ℕ) → Rose a b → b ≤ c → Rose a c
Rose-later a b c rose later = omega arith

-- a count that rose from a moment on rose from every earlier moment on
pub Rose-earlier : (a b c : ℕ) → a ≤ b → Rose b c → Rose a c
Rose-earlier a b c later rose = omega arith
