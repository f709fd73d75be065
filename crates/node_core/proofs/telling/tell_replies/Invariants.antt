use Rattle.std.proofs.Common.{◌≡◌, ◌++◌, map}
use Rattle.world_model.specs.Turn.{reply_output}
use Rattle.node_core.proofs.telling.tell_replies.Given as goal

-- the replies passed so far are told
abbrev pub invariant-loop-reply : goal.invariant-loop-reply
invariant-loop-reply l = l.told.items ≡ l.fn.told.items ++ map reply_output l.yielded
