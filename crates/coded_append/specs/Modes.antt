-- In which mode a leader replicates.
use Rattle.std.specs.Prelude.{ℕ, ◌+◌, nat_le, if◌then◌else◌}
use Rattle.craft_base.specs.Shape.{Shape, coded_quorum_of}
use Rattle.coded_append.specs.declared.modes.Mode.{Mode}
use Rattle.coded_append.specs.declared.modes.Mode.TheVariants as modes

-- coded exactly where as many members are healthy as have to hold a coded entry: those that were heard of late, and itself
abbrev pub mode_of : Shape → (fresh : ℕ) → Mode
mode_of shape fresh = if nat_le (coded_quorum_of shape) (fresh + 1) then modes.Coded else modes.Complete
