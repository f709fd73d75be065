use Rattle.craft_base.specs.Shape.{members_of}
use Rattle.entry_frames.specs.MessageParts.{reply_of}
use Rattle.entry_frames.specs.declared.message.Message.TheVariants as messages
use Rattle.entry_frames.specs.Replies.{reply_fields}
use Rattle.peer_frames.proofs.Reading.{ends_with, ends_failing}
use Rattle.peer_frames.proofs.frame_view.FrameView.replied.Goals as goal

pub returns-in-Ok-clause-exact : goal.returns-in-Ok-clause-exact
returns-in-Ok-clause-exact c =
    ends_with (reply_fields (members_of c.args.shape.now)) reply_of (messages.Answered c.args.from c.args.client c.args.seq) c.args.fields.now _ c.in-Ok.ensures

pub returns-in-Err-clause-exact : goal.returns-in-Err-clause-exact
returns-in-Err-clause-exact c =
    ends_failing (reply_fields (members_of c.args.shape.now)) reply_of (messages.Answered c.args.from c.args.client c.args.seq) c.args.fields.now _ c.in-Err.ensures
