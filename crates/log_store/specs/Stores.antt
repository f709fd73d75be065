-- What a store keeps.
use Rattle.craft_base.specs.Shape.{Shape}
use Rattle.entry_frames.specs.Durable.{Durable}
use Rattle.entry_frames.specs.Logs.{Log, IsLog}

-- the log that a state shows
abbrev pub shown : Shape → Durable → Log
shown shape d = record { k = shape.need; entries = d.log; commit = d.commit }

-- the state of a member of a cluster
pub record Stored : Type 0 where
  pub shape : Shape
  pub kept : Durable
  pub is_log : IsLog (shown shape kept)
