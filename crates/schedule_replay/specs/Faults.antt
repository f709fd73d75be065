-- How a replay ends where a line can't be taken.
use Rattle.schedule_replay.specs.declared.replay_end.ReplayEnd.{ReplayEnd}
use Rattle.schedule_replay.specs.declared.replay_end.ReplayEnd.TheVariants as ends
use Rattle.line_input.specs.declared.fault.InputFault.{InputFault}
use Rattle.line_input.specs.declared.fault.InputFault.TheVariants.{SourceFault, NoMemory}

abbrev pub end_of_fault : InputFault → ReplayEnd
end_of_fault SourceFault = ends.SourceFault
end_of_fault NoMemory = ends.NoMemory
