-- What is told of an event.
use Rattle.std.specs.Prelude.{◌≡◌}
use Rattle.world_model.specs.Lines.{shown_lines}
use Rattle.world_model.specs.World as model
use Rattle.schedule_replay.specs.declared.happened.Happened.{Happened}

-- the code tells of an event what is to be told of it
pub record TellsOf (code : Happened) (h : model.Happened) : Type 0 where
  pub verdict : code.verdict ≡ h.verdict
  pub member : code.member ≡ h.member
  pub outputs : code.outputs.items ≡ h.outputs
  pub shown : code.shown.items ≡ shown_lines h.member h.shown
