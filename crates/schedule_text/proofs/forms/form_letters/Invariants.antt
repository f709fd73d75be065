use Rattle.std.proofs.Common.{◌≡◌, take}
use Rattle.std.specs.Prelude.{string_bytes}
use Rattle.world_model.specs.Lines as lines
use Rattle.schedule_text.proofs.forms.form_letters.Given as goal

-- the letters of the entries so far
abbrev pub invariant-loop-n : goal.invariant-loop-n
invariant-loop-n l = string_bytes l.letters ≡ lines.form_letters (take l.n l.entries)
