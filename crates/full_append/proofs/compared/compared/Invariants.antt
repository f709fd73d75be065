use Rattle.std.proofs.Common.{◌+◌, take, drop}
use Rattle.entry_frames.specs.MessageParts.{body_of, entries_of, prev_of}
use Rattle.full_append.specs.Comparisons.{Compares}
use Rattle.full_append.proofs.compared.compared.Given as goal

-- what was found of the first entries
abbrev pub invariant-loop-n : goal.invariant-loop-n
invariant-loop-n g l =
    Compares (drop (prev_of (body_of l.append.frame)) (g.L.LogView.log l.log).entries) (take l.n (entries_of (body_of l.append.frame)))
    (prev_of (body_of l.append.frame) + 1) l.found
