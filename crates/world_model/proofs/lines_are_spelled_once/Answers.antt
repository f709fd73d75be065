use Rattle.world_model.proofs.ScheduleLines.{text_is_line, text_is_none, one_text, some_text}
use Rattle.world_model.proofs.lines_are_spelled_once.Goals as goal

pub returns-clause-read : goal.returns-clause-read
returns-clause-read c = text_is_line

pub returns-clause-none : goal.returns-clause-none
returns-clause-none c = text_is_none

pub returns-clause-once : goal.returns-clause-once
returns-clause-once c = one_text

pub returns-clause-each : goal.returns-clause-each
returns-clause-each c = some_text
