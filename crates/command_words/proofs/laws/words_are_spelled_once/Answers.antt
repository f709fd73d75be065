use Rattle.command_words.proofs.Commands.{words_are_command, words_are_none, one_command, some_command, path_found}
use Rattle.command_words.proofs.laws.words_are_spelled_once.Goals as goal

pub returns-clause-read : goal.returns-clause-read
returns-clause-read c = words_are_command

pub returns-clause-none : goal.returns-clause-none
returns-clause-none c = words_are_none

pub returns-clause-once : goal.returns-clause-once
returns-clause-once c = one_command

pub returns-clause-each : goal.returns-clause-each
returns-clause-each c = some_command

pub returns-clause-path : goal.returns-clause-path
returns-clause-path c = path_found
