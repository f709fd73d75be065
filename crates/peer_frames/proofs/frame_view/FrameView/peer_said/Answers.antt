use Rattle.std.proofs.lemmas.Result.{err_from_is_err_and}
use Rattle.entry_frames.specs.MessageFields.{body_fields}
use Rattle.entry_frames.specs.declared.message.Message.TheVariants as messages
use Rattle.entry_frames.specs.MessageParts.{body_of}
use Rattle.peer_frames.proofs.Reading.{ends_with, ends_failing}
use Rattle.peer_frames.proofs.frame_view.FrameView.peer_said.Goals as goal

pub returns-in_err-body-clause-exact : goal.returns-in_err-body-clause-exact
returns-in_err-body-clause-exact c =
    let p = err_from_is_err_and c.from_residual.result c.from_residual.ensures.1 in
    rw (p.1, p.2) (ends_failing (body_fields c.args.k c.args.term c.args.kind) body_of (messages.Peer c.args.from c.args.to c.args.term) c.args.fields.now _ c.in_err-body.ensures.exact)

pub returns-clause-exact : goal.returns-clause-exact
returns-clause-exact c = ends_with (body_fields c.args.k c.args.term c.args.kind) body_of (messages.Peer c.args.from c.args.to c.args.term) c.args.fields.now _ c.in_ok-body.ensures.exact
