use Rattle.std.proofs.Common.{false}
use Rattle.std.proofs.lemmas.Result.{err_from_is_err_and}
use Rattle.entry_frames.specs.Limits.{most_entry_bytes}
use Rattle.entry_frames.specs.MessageFields.{entries_fields}
use Rattle.entry_frames.specs.MessageParts.{entries_of}
use Rattle.entry_frames.specs.declared.peer.Peer.TheVariants as peers
use Rattle.peer_frames.proofs.Reading.{ends_with, ends_failing}
use Rattle.peer_frames.proofs.peer_view.PeerView.answer_entries.Goals as goal

pub returns-in_err-slots-clause-exact : goal.returns-in_err-slots-clause-exact
returns-in_err-slots-clause-exact c =
    let p = err_from_is_err_and c.from_residual.result c.from_residual.ensures.1 in
    rw (p.1, p.2) (ends_failing (entries_fields c.args.k false c.args.term c.args.count 0 most_entry_bytes) entries_of (peers.Answer c.args.start c.args.last) c.args.fields.now _ c.in_err-slots.ensures.exact)

pub returns-clause-exact : goal.returns-clause-exact
returns-clause-exact c = ends_with (entries_fields c.args.k false c.args.term c.args.count 0 most_entry_bytes) entries_of (peers.Answer c.args.start c.args.last) c.args.fields.now _ c.in_ok-slots.ensures.exact
