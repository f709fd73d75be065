-- The shape of a cluster: the two numbers that fix how many members it has, and how many of them decide.
use Rattle.std.specs.Prelude.{ℕ, ◌+◌, ◌*◌, ◌≤◌}

-- how many failures a cluster survives, and how many fragments rebuild a value
pub record Shape : Type 0 where
  pub faults : ℕ
  pub need : ℕ

-- how many members a cluster has
abbrev pub members_of : Shape → ℕ
members_of shape = 2 * shape.faults + 1

-- how many of them are more than half
abbrev pub majority_of : Shape → ℕ
majority_of shape = shape.faults + 1

-- how many have to hold an entry in some form before it is committed
abbrev pub coded_quorum_of : Shape → ℕ
coded_quorum_of shape = shape.faults + shape.need

-- the numbers of a shape: 1 to 7 failures, and 1 to one more than these fragments
abbrev pub IsShape : Shape → Type 0
IsShape shape = (1 ≤ shape.faults) × (shape.faults ≤ 7) × (1 ≤ shape.need) × (shape.need ≤ shape.faults + 1)
