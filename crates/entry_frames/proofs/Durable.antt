-- Records that can be applied, and then more of them.
use Rattle.std.proofs.Common.{List, [], ◌∷◌, ◌++◌}
use Rattle.craft_base.specs.Shape.{Shape}
use Rattle.entry_frames.specs.Durable.{Durable, CanApplyAll, applied, after}
use Rattle.entry_frames.specs.Records.{Record}

pub can_apply-append :
    (shape : Shape) (d : Durable) (records more : List Record) → CanApplyAll shape d records → CanApplyAll shape (after d records) more →
    CanApplyAll shape d (records ++ more)
can_apply-append shape d [] more first next = next
can_apply-append shape d (r ∷ records) more first next = (first.0, can_apply-append shape (applied d r) records more first.1 next)
