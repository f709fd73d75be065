use Rattle.std.proofs.Common.{◌≡◌, ◌≤◌, length}
use Rattle.std.specs.Prelude.{is_some}
use Rattle.std.specs.Io.KnownBytes.{Consumes}
use Rattle.line_input.specs.Lines.{HasNoLineFeed}
use Rattle.line_input.proofs.line.read_line.Given as goal

-- so far the line is what was taken, and no line feed
abbrev pub invariant-loop : goal.invariant-loop
invariant-loop g l = record {
  taken : Consumes (g.S.Source.left l.fn.src) (g.S.Source.left l.src) l.line.items;
  unended : HasNoLineFeed l.line.items;
  count : length l.line.items ≡ l.counter;
  told : is_some (g.S.Source.left l.src) ≡ is_some (g.S.Source.left l.fn.src);
  later : g.S.Source.faults l.fn.src ≤ g.S.Source.faults l.src;
}
