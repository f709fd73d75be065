use Rattle.std.proofs.Common.{◌≡◌, ◌++◌}
use Rattle.std.specs.Prelude.{string_bytes}
use Rattle.world_model.specs.Lines as lines
use Rattle.schedule_text.proofs.EntryLines.{lines_left}
use Rattle.schedule_text.proofs.show.push_entries.Given as goal

-- the lines so far are written, the others left
abbrev pub invariant-loop-before : goal.invariant-loop-before
invariant-loop-before g l =
    string_bytes l.text ++ lines_left l.before (g.L.LogView.log l.log).entries ≡ string_bytes l.fn.text ++ lines.entry_lines 1 (g.L.LogView.log l.log).entries
