use Rattle.entry_frames.proofs.Records.{value_written}
use Rattle.entry_frames.proofs.record_writing.push_value.Goals as goal

pub returns : goal.returns
returns c =
    value_written c.args.index c.args.bytes.now _ _ _ _ c.in_ok-push_index.ensures (rw c.to_be_bytes.ensures at c.in_ok-extend_from_slice.ensures.items) c.in_ok-extend_from_slice-2.ensures.items
