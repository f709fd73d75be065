use Rattle.std.proofs.Common.{◌≡◌, List, map, Some, sym, subst, ◌∙◌}
use Rattle.craft_base.specs.Shape.{Shape}
use Rattle.world_model.specs.Safety.{AnswersAsOneMap, IsIn, IsOfOneMap, IsRun, committed}
use Rattle.world_model.specs.Traces.{Command, Replied}
use Rattle.world_model.specs.World.{run}
use Rattle.world_model.specs.declared.line.Line.{Line}
use Rattle.bridge.proofs.Replies.Lists.{same_commands}
use Rattle.bridge.proofs.Safe.{every_run_is_safe}
use Rattle.world_laws.proofs.Replies.{old_told, outcome_told}
use Rattle.world_laws.proofs.law_replies.Goals as goal

-- the list of commands is the only one
each_reply :
    (shape : Shape) (events : List Line) → IsRun shape events → (commands : List Command) → committed (run shape events) ≡ map Some commands →
    (r : Replied) → IsIn r (run shape events).replies → IsOfOneMap commands r.client r.seq r.reply
each_reply shape events is commands are r among =
    let all : AnswersAsOneMap (run shape events) = (every_run_is_safe shape events is).replies in
    subst (λ list. IsOfOneMap list r.client r.seq r.reply) (same_commands all.commands commands (sym all.are ∙ are)) (all.replies r among)

pub returns-clause-listed : goal.returns-clause-listed
returns-clause-listed c shape events is = let all = (every_run_is_safe shape events is).replies in (all.commands, all.are)

pub returns-clause-one_map : goal.returns-clause-one_map
returns-clause-one_map c shape events is commands are r among tells =
    outcome_told commands r.client r.seq r.reply tells (each_reply shape events is commands are r among)

pub returns-clause-old : goal.returns-clause-old
returns-clause-old c shape events is commands are r among old =
    old_told commands r.client r.seq r.reply old (each_reply shape events is commands are r among)
