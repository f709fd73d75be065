use Rattle.world_model.proofs.Spelling.{number_is_read, IsNumber-decimal, decimal-IsNumber}
use Rattle.world_model.proofs.numbers_are_spelled_once.Goals as goal

pub returns-clause-read : goal.returns-clause-read
returns-clause-read c = number_is_read

pub returns-clause-once : goal.returns-clause-once
returns-clause-once c = IsNumber-decimal

pub returns-clause-each : goal.returns-clause-each
returns-clause-each c = decimal-IsNumber
