use Rattle.std.proofs.lemmas.Result.{err_from_is_err_and}
use Rattle.entry_frames.specs.MessageFields.{request_fields}
use Rattle.entry_frames.specs.MessageParts.{request_of}
use Rattle.entry_frames.specs.declared.message.Message.TheVariants as messages
use Rattle.peer_frames.proofs.Reading.{ends_with, ends_failing}
use Rattle.peer_frames.proofs.frame_view.FrameView.request.Goals as goal

pub returns-in_err-request-clause-exact : goal.returns-in_err-request-clause-exact
returns-in_err-request-clause-exact c =
    let p = err_from_is_err_and c.from_residual.result c.from_residual.ensures.1 in
    rw (p.1, p.2) (ends_failing (request_fields) request_of (messages.Request c.args.to) c.args.fields.now _ c.in_err-request.ensures)

pub returns-clause-exact : goal.returns-clause-exact
returns-clause-exact c = ends_with (request_fields) request_of (messages.Request c.args.to) c.args.fields.now _ c.in_ok-request.ensures
