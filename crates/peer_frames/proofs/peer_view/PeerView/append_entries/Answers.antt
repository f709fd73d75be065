use Rattle.std.proofs.Common.{true}
use Rattle.std.proofs.lemmas.Result.{err_from_is_err_and}
use Rattle.entry_frames.specs.Limits.{most_entry_bytes}
use Rattle.entry_frames.specs.MessageFields.{entries_fields}
use Rattle.entry_frames.specs.MessageParts.{entries_of}
use Rattle.entry_frames.specs.declared.peer.Peer.TheVariants as peers
use Rattle.peer_frames.proofs.Reading.{ends_with, ends_failing}
use Rattle.peer_frames.proofs.peer_view.PeerView.append_entries.Goals as goal

pub returns-in_err-entries-clause-exact : goal.returns-in_err-entries-clause-exact
returns-in_err-entries-clause-exact c =
    let p = err_from_is_err_and c.from_residual.result c.from_residual.ensures.1 in
    rw (p.1, p.2) (ends_failing (entries_fields c.args.k true c.args.term c.args.numbers.now.count c.args.numbers.now.prev_term most_entry_bytes) entries_of (peers.Append c.args.numbers.now.prev c.args.numbers.now.prev_term c.args.numbers.now.commit) c.args.fields.now _ c.in_err-entries.ensures.exact)

pub returns-clause-exact : goal.returns-clause-exact
returns-clause-exact c = ends_with (entries_fields c.args.k true c.args.term c.args.numbers.now.count c.args.numbers.now.prev_term most_entry_bytes) entries_of (peers.Append c.args.numbers.now.prev c.args.numbers.now.prev_term c.args.numbers.now.commit) c.args.fields.now _ c.in_ok-entries.ensures.exact
