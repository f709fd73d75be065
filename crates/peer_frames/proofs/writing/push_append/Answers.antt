use Rattle.peer_frames.proofs.Spelled.{written_5}
use Rattle.peer_frames.proofs.writing.push_append.Goals as goal

pub returns : goal.returns
returns c = written_5 _ _ _ _ _ _ _ _ _ _ _ c.in_ok-push_u64.ensures c.in_ok-push_u64-2.ensures c.in_ok-push_u64-3.ensures (rw c.len.ensures at c.in_ok-push_byte.ensures) c.in_ok-push_entries.ensures
