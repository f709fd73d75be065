use Rattle.peer_frames.proofs.Spelled.{found_written}
use Rattle.peer_frames.proofs.writing.push_found.Goals as goal

pub returns : goal.returns
returns c = found_written c.args.version c.args.value.now _ _ _ _ c.in_ok-push_u64.ensures c.in_ok-push_u32_if.ensures c.in_ok-push_bytes.ensures
