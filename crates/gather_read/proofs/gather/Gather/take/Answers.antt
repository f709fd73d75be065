use Rattle.std.proofs.Common.{Option, Some, subst}
use Rattle.gather_read.specs.Gathered.{IsGiven, form_shown, gathered}
use Rattle.gather_read.specs.Standing.{Stands}
use Rattle.leader_prep.specs.Pages.{joined, page_of}
use Rattle.leader_prep.specs.Verdicts.{Source}
use Rattle.gather_read.proofs.Standing.{gathers_as}
use Rattle.gather_read.proofs.Values.{none_given, same_value}
use Rattle.gather_read.proofs.gather.Gather.take.Goals as goal

pub returns-clause-gives : goal.returns-clause-gives
returns-clause-gives c shape me index own pages stands =
    let all = joined (Some index) (page_of c.args.answer.now.frame) pages in
    let still : Stands c.join.new.self shape me index own all = c.in_ok-join.ensures.joins shape me index own pages stands in
    subst (λ (source : Option Source). IsGiven source c.in_ok-value.value) (gathers_as c.join.new.self shape me index own all still) c.in_ok-value.ensures

pub returns-clause-value : goal.returns-clause-value
returns-clause-value c shape me index own pages stands =
    let all = joined (Some index) (page_of c.args.answer.now.frame) pages in
    same_value (gathered shape me index own all) c.in_ok-value.value (returns-clause-gives c shape me index own pages stands)

pub returns-clause-none : goal.returns-clause-none
returns-clause-none c shape me index own pages stands =
    let all = joined (Some index) (page_of c.args.answer.now.frame) pages in
    none_given shape own (form_shown me index own all) c.in_ok-value.value (returns-clause-gives c shape me index own pages stands)
