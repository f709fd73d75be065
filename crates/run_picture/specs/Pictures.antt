-- How a picture ends.
use Rattle.std.specs.Prelude.{◌≡◌, ◌⊎◌, ℕ, ◌+◌, ◌==◌, List, Option, length, filter}
use Rattle.std.specs.Io.KnownBytes.{Consumes, IsAtEnd, Keeps}
use Rattle.craft_edge.specs.Causes.{Rose}
use Rattle.run_picture.specs.declared.fault.ReadFault.{ReadFault}
use Rattle.run_picture.specs.declared.fault.ReadFault.TheVariants as faults
use Rattle.run_picture.specs.declared.picture_end.PictureEnd.{PictureEnd}
use Rattle.run_picture.specs.declared.picture_end.PictureEnd.TheVariants.{End, BadSchedule, BadText, ScheduleFault, TextFault, SinkFault, NoMemory}

-- what the three devices tell: the bytes still to come of the schedule and of the text and those taken, and how often each has failed
pub record Devices : Type 0 where
  pub schedule : Option (List ℕ)
  pub text : Option (List ℕ)
  pub taken : Option (List ℕ)
  pub schedule_faults : ℕ
  pub text_faults : ℕ
  pub sink_faults : ℕ

abbrev pub line_feeds : List ℕ → ℕ
line_feeds bytes = length (filter (λ byte. byte == 10) bytes)

-- just so many lines were taken, each with its line feed, and perhaps a piece of the next one
abbrev pub TakesLines : ℕ → Option (List ℕ) → Option (List ℕ) → Type 0
TakesLines number old new = (bytes : List ℕ) × Consumes old new bytes × (line_feeds bytes ≡ number)

-- the line of that number, counted from 1, is the last one of which something was taken
pub record StopsIn (number : ℕ) (old new : Option (List ℕ)) : Type 0 where
  pub before : ℕ
  pub is_next : number ≡ 1 + before
  pub taken : TakesLines before old new ⊎ TakesLines number old new

-- How no run was read: a bad line is the last one that was taken, and a failed input failed.
abbrev pub ReadsNoRun : Devices → Devices → ReadFault → Type 0
ReadsNoRun before after (faults.BadSchedule line) = StopsIn line before.schedule after.schedule
ReadsNoRun before after (faults.BadText line) = StopsIn line before.text after.text
ReadsNoRun before after faults.ScheduleFault = Rose before.schedule_faults after.schedule_faults
ReadsNoRun before after faults.TextFault = Rose before.text_faults after.text_faults
ReadsNoRun before after faults.NoMemory = Unit {0}

-- how a picture ends where no run was read
abbrev pub end_of : ReadFault → PictureEnd
end_of (faults.BadSchedule line) = BadSchedule line
end_of (faults.BadText line) = BadText line
end_of faults.ScheduleFault = ScheduleFault
end_of faults.TextFault = TextFault
end_of faults.NoMemory = NoMemory

-- How a picture ends: the text was read to its end; or nothing was written, for a cause in an input or for want of memory; or the sink
-- failed.
abbrev pub PictureEnds : Devices → Devices → PictureEnd → Type 0
PictureEnds before after End = IsAtEnd after.text
PictureEnds before after (BadSchedule line) = StopsIn line before.schedule after.schedule × Keeps before.taken after.taken
PictureEnds before after (BadText line) = StopsIn line before.text after.text × Keeps before.taken after.taken
PictureEnds before after ScheduleFault = Rose before.schedule_faults after.schedule_faults × Keeps before.taken after.taken
PictureEnds before after TextFault = Rose before.text_faults after.text_faults × Keeps before.taken after.taken
PictureEnds before after SinkFault = Rose before.sink_faults after.sink_faults
PictureEnds before after NoMemory = Keeps before.taken after.taken
