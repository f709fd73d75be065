use Rattle.std.proofs.Common.{◌≡◌, ◌++◌, map, take}
use Rattle.schedule_replay.specs.Network.{frame_bytes}
use Rattle.world_model.specs.World.{sent_among}
use Rattle.schedule_replay.proofs.network.keep_messages.Given as goal

-- the messages among what was passed so far are kept
abbrev pub invariant-loop-output : goal.invariant-loop-output
invariant-loop-output l = l.sent.items ≡ l.fn.sent.items ++ map (frame_bytes l.shape) (sent_among (take l.output-index l.outputs))
