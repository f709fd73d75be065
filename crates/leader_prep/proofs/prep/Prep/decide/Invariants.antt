use Rattle.std.proofs.Common.{◌+◌, drop}
use Rattle.leader_prep.specs.Decisions.{decided, open_parts, parts_from}
use Rattle.leader_prep.specs.Standing.{kept_verdict}
use Rattle.leader_prep.proofs.Passing.{SoFar}
use Rattle.leader_prep.proofs.prep.Prep.decide.Given as goal

-- the values so far, and then what is decided of the parts that are left
abbrev pub invariant-loop-before : goal.invariant-loop-before
invariant-loop-before g l =
    let log = g.L.LogView.log l.log in
    SoFar (kept_verdict l.self) (decided (kept_verdict l.self) (open_parts log.commit log.entries)) l.wholes.items (parts_from (l.before + 1) (drop l.before log.entries))
