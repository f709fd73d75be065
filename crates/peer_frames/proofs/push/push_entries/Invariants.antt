use Rattle.std.proofs.Common.{◌≡◌, ◌++◌, take}
use Rattle.std.specs.List.{flat_map}
use Rattle.entry_frames.specs.Entries.{entry_fields}
use Rattle.entry_frames.specs.Formats.{spelling}
use Rattle.peer_frames.proofs.push.push_entries.Given as goal

abbrev pub invariant-loop-n : goal.invariant-loop-n
invariant-loop-n l = l.frame.items ≡ l.fn.frame.items ++ flat_map (spelling (entry_fields l.k)) (take l.n l.entries)
