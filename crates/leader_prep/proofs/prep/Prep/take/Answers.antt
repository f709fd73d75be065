use Rattle.std.proofs.Common.{◌≡◌, refl, ap, sym, ◌∙◌, subst}
use Rattle.leader_prep.specs.Decisions.{Decision, cursor_of, decided, decision, open_parts}
use Rattle.leader_prep.specs.Pages.{joined, page_of}
use Rattle.leader_prep.specs.Standing.{AreVerdicts, Stands, kept_verdict}
use Rattle.leader_prep.proofs.Solving.{values_are}
use Rattle.leader_prep.proofs.Taking.{cursor_within, decides_as, moves_on, nothing_decided}
use Rattle.leader_prep.proofs.prep.Prep.take.Goals as goal

pub join-requires-clause-cursor : goal.join-requires-clause-cursor
join-requires-clause-cursor g c = cursor_within (g.L.LogView.log c.args.log.now) (g.L.LogView.is_log c.args.log.now) c.args.self.cursor c.requires.cursor

pub returns-clause-stands : goal.returns-clause-stands
returns-clause-stands g c shape me pages cursor stands =
    let log = g.L.LogView.log c.args.log.now in
    let all = joined cursor (page_of c.args.answer.now.frame) pages in
    let at : cursor ≡ cursor_of log.commit log.entries = sym stands.same_cursor ∙ c.requires.cursor in
    let still : Stands c.join.new.self shape me all cursor = c.in_ok-join.ensures.joins shape me pages cursor stands in
    let same : decided (kept_verdict c.join.new.self) (open_parts log.commit log.entries) ≡ decision shape me all log.commit log.entries =
    decides_as c.join.new.self shape me all cursor log.commit log.entries at still in
    moves_on c.join.new.self _ shape me all cursor log.commit log.entries at still refl refl refl refl
    (c.in_ok-verdicts.ensures.left_is ∙ ap (λ (d : Decision). d.cursor) same)

pub returns-clause-decides : goal.returns-clause-decides
returns-clause-decides g c shape me pages cursor stands =
    let log = g.L.LogView.log c.args.log.now in
    let all = joined cursor (page_of c.args.answer.now.frame) pages in
    let at : cursor ≡ cursor_of log.commit log.entries = sym stands.same_cursor ∙ c.requires.cursor in
    let still : Stands c.join.new.self shape me all cursor = c.in_ok-join.ensures.joins shape me pages cursor stands in
    subst (λ (d : Decision). AreVerdicts d c.in_ok-verdicts.verdicts) (decides_as c.join.new.self shape me all cursor log.commit log.entries at still)
    c.in_ok-verdicts.ensures.verdicts_are

pub returns-clause-waits : goal.returns-clause-waits
returns-clause-waits g c shape me pages cursor stands =
    let log = g.L.LogView.log c.args.log.now in
    let all = joined cursor (page_of c.args.answer.now.frame) pages in
    let at : cursor ≡ cursor_of log.commit log.entries = sym stands.same_cursor ∙ c.requires.cursor in
    nothing_decided shape me all cursor log.commit log.entries c.in_ok-verdicts.verdicts at (returns-clause-decides g c shape me pages cursor stands)

pub returns-clause-values : goal.returns-clause-values
returns-clause-values g c shape me pages cursor stands =
    let log = g.L.LogView.log c.args.log.now in
    let all = joined cursor (page_of c.args.answer.now.frame) pages in
    values_are (decision shape me all log.commit log.entries).rebuilt c.in_ok-verdicts.verdicts.wholes.items (returns-clause-decides g c shape me pages cursor stands).wholes
