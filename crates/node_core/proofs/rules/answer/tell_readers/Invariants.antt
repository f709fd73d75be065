use Rattle.std.proofs.Common.{◌≡◌, ◌++◌, drop}
use Rattle.world_model.specs.Rules.Answer.{values_told}
use Rattle.node_core.proofs.rules.answer.tell_readers.Given as goal

-- with those that are still to be passed all are told
abbrev pub invariant-loop-read : goal.invariant-loop-read
invariant-loop-read l = l.fn.replies.items ++ values_told l.index l.value l.reads ≡ l.replies.items ++ values_told l.index l.value (drop l.read-index l.reads)
