use Rattle.std.proofs.Common.{◌≡◌}
use Rattle.std.specs.List.{range_with_len}
use Rattle.gather_read.specs.Keeping.{kept_slot}
use Rattle.leader_prep.specs.Verdicts.{parts_of, rebuilding_by, usable_form}
use Rattle.gather_read.proofs.gather.Gather.rebuilder.Given as goal

-- the parts of the members so far
abbrev pub invariant-loop-number : goal.invariant-loop-number
invariant-loop-number l =
    l.rebuilder ≡ rebuilding_by l.self.shape l.own.entry (parts_of (usable_form l.self.me l.own.entry (kept_slot l.self.slots)) (range_with_len 0 l.number))
