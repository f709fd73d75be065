use Rattle.std.proofs.Common.{◌-◌, ◌≤◌}
use Rattle.fragment_text.specs.Kept.{Progress}
use Rattle.fragment_text.proofs.joining.read_parts.Given as goal

-- the lines so far were read
abbrev pub invariant-lines : goal.invariant-lines
invariant-lines g l = record {
  progress : Progress l.shape (g.S.Source.left l.fn.src) (g.S.Source.left l.src) l.parts;
  later : g.S.Source.faults l.fn.src ≤ g.S.Source.faults l.src;
}

abbrev pub decreases-lines : goal.decreases-lines
decreases-lines g l = 15 - l.parts.next
