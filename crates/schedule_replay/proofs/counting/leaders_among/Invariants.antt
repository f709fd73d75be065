use Rattle.std.proofs.Common.{◌≡◌, ◌≤◌, take}
use Rattle.std.specs.List.{count_by}
use Rattle.world_model.specs.Tallies.{tells_leader}
use Rattle.schedule_replay.proofs.counting.leaders_among.Given as goal

-- those among what was passed so far are counted
abbrev pub invariant-loop-output : goal.invariant-loop-output
invariant-loop-output l = (l.count ≡ count_by tells_leader (take l.output-index l.outputs)) × (l.count ≤ l.output-index)
