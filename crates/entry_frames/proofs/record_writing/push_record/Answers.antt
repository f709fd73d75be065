use Rattle.entry_frames.proofs.Records.{value_fits, entry_added}
use Rattle.entry_frames.proofs.record_writing.push_record.Goals as goal

pub push_value-requires : goal.push_value-requires
push_value-requires c = value_fits 0 c.in-Whole.index c.in-Whole.bytes.now ((rw c.in-Whole.is at c.requires) 0 tt)

pub returns-in_ok-write_entry-in-Add : goal.returns-in_ok-write_entry-in-Add
returns-in_ok-write_entry-in-Add c = rw c.in-Add.is (λ k is.
    entry_added k c.in-Add.entry.k c.in-Add.entry.entry _ _ _ is ((rw c.in-Add.is at c.requires) k is) (rw c.byte.ensures at c.in_ok-push-in-Add.ensures.items)
    c.in_ok-write_entry-in-Add.ensures.written)

pub returns-in_ok-push_value-in-Whole : goal.returns-in_ok-push_value-in-Whole
returns-in_ok-push_value-in-Whole c = rw c.in-Whole.is (λ k is. c.in_ok-push_value-in-Whole.ensures)
