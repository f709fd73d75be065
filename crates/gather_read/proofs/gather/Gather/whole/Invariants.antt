use Rattle.std.proofs.Common.{◌≡◌, None}
use Rattle.std.specs.List.{range_with_len}
use Rattle.gather_read.specs.Keeping.{kept_slot}
use Rattle.leader_prep.specs.Verdicts.{first_whole, usable_form}
use Rattle.gather_read.proofs.gather.Gather.whole.Given as goal

-- none of the members so far holds all of it
abbrev pub invariant-loop-number : goal.invariant-loop-number
invariant-loop-number l = first_whole (usable_form l.self.me l.own.entry (kept_slot l.self.slots)) (range_with_len 0 l.number) ≡ None
