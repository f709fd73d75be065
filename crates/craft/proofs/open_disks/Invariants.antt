use Rattle.std.proofs.Common.{◌≡◌, vec_len}
use Rattle.craft.proofs.open_disks.Given as goal

abbrev pub invariant-loop-path : goal.invariant-loop-path
invariant-loop-path l = vec_len l.disks ≡ l.path-index
