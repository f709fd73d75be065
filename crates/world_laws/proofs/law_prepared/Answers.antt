use Rattle.world_model.proofs.Preparing.Waiting.{every_preparing_waits}
use Rattle.world_laws.proofs.Asked.{each_answer_covers}
use Rattle.world_laws.proofs.Moves.{moves_are_parts}
use Rattle.world_laws.proofs.Preparations.{enough_answers_move}
use Rattle.world_laws.proofs.law_prepared.Goals as goal

pub returns-clause-waits : goal.returns-clause-waits
returns-clause-waits c = every_preparing_waits

pub returns-clause-shown : goal.returns-clause-shown
returns-clause-shown c = each_answer_covers

pub returns-clause-moves : goal.returns-clause-moves
returns-clause-moves c = enough_answers_move

pub returns-clause-parts : goal.returns-clause-parts
returns-clause-parts c = moves_are_parts
