-- How a join ends where a line can't be taken.
use Rattle.fragment_text.specs.declared.join_end.JoinEnd.{JoinEnd}
use Rattle.fragment_text.specs.declared.join_end.JoinEnd.TheVariants as ends
use Rattle.line_input.specs.declared.fault.InputFault.{InputFault}
use Rattle.line_input.specs.declared.fault.InputFault.TheVariants.{SourceFault, NoMemory}

abbrev pub end_of_fault : InputFault → JoinEnd
end_of_fault SourceFault = ends.SourceFault
end_of_fault NoMemory = ends.NoMemory
