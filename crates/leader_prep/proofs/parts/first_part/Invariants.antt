use Rattle.std.proofs.Common.{◌≡◌, ◌+◌, drop}
use Rattle.leader_prep.specs.Decisions.{cursor_of, first_index, parts_from}
use Rattle.leader_prep.proofs.parts.first_part.Given as goal

-- the first part is among those that are left
abbrev pub invariant-loop-before : goal.invariant-loop-before
invariant-loop-before g l =
    cursor_of (g.L.LogView.log l.log).commit (g.L.LogView.log l.log).entries
    ≡ first_index (parts_from (l.before + 1) (drop l.before (g.L.LogView.log l.log).entries))
