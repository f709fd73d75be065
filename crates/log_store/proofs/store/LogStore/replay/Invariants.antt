use Rattle.std.proofs.Common.{◌≡◌, List, take}
use Rattle.entry_frames.specs.Durable.{born}
use Rattle.entry_frames.specs.Records.{Record}
use Rattle.synced_log.specs.Journal.{AreGroups, after_groups, placed_from}
use Rattle.log_store.proofs.store.LogStore.replay.Given as goal

-- the groups so far were applied
abbrev pub invariant-loop-n : goal.invariant-loop-n
invariant-loop-n l = record {
  shape : l.store.shape ≡ l.shape;
  kept : (all : List (List Record)) → l.groups.placed ≡ placed_from l.shape.need 32 all → AreGroups l.shape born all → l.store.kept ≡ after_groups born (take l.n all);
}
