use Rattle.std.proofs.Common.{◌≡◌, ℕ, ◌+◌, ◌-◌, ◌≤◌, List, length}
use Rattle.std.specs.List.{find, range_with_len}
use Rattle.std.specs.Prelude.{not}
use Rattle.craft_base.specs.Knowledge.{Heard, is_held_whole}
use Rattle.craft_base.specs.Shape.{Shape}
use Rattle.coded_append.specs.Starts.{first_lacking}
use Rattle.coded_append.proofs.start.first_lacking.Given as goal

-- the first is none of those passed so far
abbrev pub invariant-loop-before : goal.invariant-loop-before
invariant-loop-before g l = record {
  above : (g.L.LogView.log l.log).commit ≤ l.before;
  left : (shape : Shape) (heard : List Heard) (first : ℕ) → g.K.Known.stands l.known shape heard first
      → first_lacking l.member (g.L.LogView.log l.log).commit (g.L.LogView.log l.log).entries heard
      ≡ find (λ index. not (is_held_whole l.member index heard)) (range_with_len (l.before + 1) (length (g.L.LogView.log l.log).entries - l.before));
}
