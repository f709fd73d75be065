use Rattle.std.proofs.Common.{◌≡◌, ◌≤◌, take}
use Rattle.std.specs.List.{count_by}
use Rattle.world_model.specs.Tallies.{is_cut}
use Rattle.schedule_replay.proofs.counting.cuts_among.Given as goal

-- those among what was passed so far are counted
abbrev pub invariant-loop-output : goal.invariant-loop-output
invariant-loop-output l = (l.count ≡ count_by is_cut (take l.output-index l.outputs)) × (l.count ≤ l.output-index)
