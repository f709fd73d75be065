use Rattle.std.proofs.Common.{◌≡◌, ◌+◌, ◌++◌, ◌∷◌, [], ℕ, List, drop, Some, None, sym, subst}
use Rattle.entry_frames.specs.Logs.{entry_at}
use Rattle.leader_prep.specs.Decisions.{decided, if_part, open_parts, parts_from}
use Rattle.leader_prep.specs.Standing.{IsVerdict, kept_verdict}
use Rattle.leader_prep.specs.declared.verdicts.Verdict.TheVariants as codes
use Rattle.leader_prep.proofs.Lists.{viewed_none, viewed_some}
use Rattle.leader_prep.proofs.Passing.{SoFar, ends_cut, ends_waiting, goes_on, passes}
use Rattle.leader_prep.proofs.prep.Prep.decide.Goals.{in-Some+in_ok-verdict+in-Whole+in_ok-push-in-Whole, in_default}
use Rattle.leader_prep.proofs.prep.Prep.decide.Goals as goal

pub returns-in-Wait : goal.returns-in-Wait
returns-in-Wait g c =
    let log = g.L.LogView.log c.args.log.now in
    let V = kept_verdict c.args.self.now in
    let own = c.in-Some.own.entry in
    let part : if_part (entry_at log.entries (c.loop-before.before + 1)) ≡ Some own =
    viewed_some log.k (if_part (entry_at log.entries (c.loop-before.before + 1))) c.in-Some.own c.in-Some.ensures in
    ends_waiting V (decided V (open_parts log.commit log.entries)) c.loop-before.wholes.items log.entries c.loop-before.before own c.verdicts_of.result.0 c.verdicts_of.result.1 part
    (subst (IsVerdict (V (record { index = c.loop-before.before + 1; entry = own }))) c.in-Wait.is c.in_ok-verdict.ensures) c.loop-before.invariant
    (record { wholes_are = cc (c.verdicts_of.ensures.wholes); cut_is = c.verdicts_of.ensures.cut; done_is = c.verdicts_of.ensures.done; left_is = c.verdicts_of.ensures.left })

pub returns-in-Cut : goal.returns-in-Cut
returns-in-Cut g c =
    let log = g.L.LogView.log c.args.log.now in
    let V = kept_verdict c.args.self.now in
    let own = c.in-Some.own.entry in
    let part : if_part (entry_at log.entries (c.loop-before.before + 1)) ≡ Some own =
    viewed_some log.k (if_part (entry_at log.entries (c.loop-before.before + 1))) c.in-Some.own c.in-Some.ensures in
    ends_cut V (decided V (open_parts log.commit log.entries)) c.loop-before.wholes.items log.entries c.loop-before.before own c.verdicts_of-in-Cut.result.0 c.verdicts_of-in-Cut.result.1 part
    (subst (IsVerdict (V (record { index = c.loop-before.before + 1; entry = own }))) c.in-Cut.is c.in_ok-verdict.ensures) c.loop-before.invariant
    (record { wholes_are = cc (c.verdicts_of-in-Cut.ensures.wholes); cut_is = c.verdicts_of-in-Cut.ensures.cut; done_is = c.verdicts_of-in-Cut.ensures.done; left_is = c.verdicts_of-in-Cut.ensures.left })

pub loop-before-preserved : goal.loop-before-preserved
loop-before-preserved g c =
    let log = g.L.LogView.log c.args.log.now in
    let V = kept_verdict c.args.self.now in
    let n = c.loop-before.before in
    let all = decided V (open_parts log.commit log.entries) in
    let there = if_part (entry_at log.entries (n + 1)) in
    elim c.match-part_at.branch [
      | in-Some+in_ok-verdict+in-Whole+in_ok-push-in-Whole w ↦ (
          let own = w.in-Some.own.entry in
          let part : there ≡ Some own = viewed_some log.k there w.in-Some.own w.in-Some.ensures in
          let had : IsVerdict (V (record { index = n + 1; entry = own })) (codes.Whole w.in-Whole.value) =
          subst (IsVerdict (V (record { index = n + 1; entry = own }))) w.in-Whole.is w.in_ok-verdict.ensures in
          let pushed : c.match-part_at.wholes.items ≡ c.loop-before.wholes.items ++ (n + 1, w.in-Whole.value) ∷ [] = cc (w.wholes-is, w.in_ok-push-in-Whole.ensures.items) in
          subst (λ (wholes : List (ℕ × List ℕ)). SoFar V all wholes (parts_from (n + 1 + 1) (drop (n + 1) log.entries))) (sym pushed)
          (goes_on V all c.loop-before.wholes.items log.entries n own w.in-Whole.value part had c.loop-before.invariant))
      | in_default w ↦ (
          let none : there ≡ None = viewed_none log.k there w.in_default.ensures in
          let kept : c.match-part_at.wholes.items ≡ c.loop-before.wholes.items = cc (w.wholes-is) in
          subst (λ (wholes : List (ℕ × List ℕ)). SoFar V all wholes (parts_from (n + 1 + 1) (drop (n + 1) log.entries))) (sym kept)
          (passes V all c.loop-before.wholes.items log.entries n none c.loop-before.invariant))
    ]
