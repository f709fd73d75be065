use Rattle.std.proofs.Common.{◌≡◌, ◌-◌, length}
use Rattle.entry_frames.specs.Formats.{reading}
use Rattle.entry_frames.specs.Limits.{most_entry_bytes}
use Rattle.entry_frames.specs.MessageFields.{entries_fields}
use Rattle.peer_frames.specs.SlotViews.{entries_of_views, AllHaveK}
use Rattle.peer_frames.proofs.Reading.{with_front}
use Rattle.peer_frames.proofs.slots.Slots.read.Given as goal

abbrev pub invariant-loop : goal.invariant-loop
invariant-loop l = record {
  so_far : with_front (entries_of_views l.slots) (reading (entries_fields l.k l.rises l.high (l.count - l.counter) l.low l.room) l.fields)
      ≡ reading (entries_fields l.k l.rises l.high l.count l.fn.low most_entry_bytes) l.fn.fields;
  as_many : length l.slots ≡ l.counter;
  need : AllHaveK l.k l.slots;
}
