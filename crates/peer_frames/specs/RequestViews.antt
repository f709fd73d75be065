-- What views of requests and replies show.
use Rattle.craft_base.specs.declared.command.Reply.{Reply}
use Rattle.craft_base.specs.declared.command.Reply.TheVariants as replies
use Rattle.craft_base.specs.declared.command.Request.{Request}
use Rattle.peer_frames.specs.declared.reply_view.ReplyView.{ReplyView}
use Rattle.peer_frames.specs.declared.reply_view.ReplyView.TheVariants as views
use Rattle.peer_frames.specs.declared.request_view.RequestView.{RequestView}

abbrev pub request_of_view : RequestView → Request
request_of_view view = record { client = view.client; seq = view.seq; op = view.op; key = view.key.now; value = view.value.now }

abbrev pub reply_of_view : ReplyView → Reply
reply_of_view (views.Done version) = replies.Done version
reply_of_view (views.Differs version) = replies.Differs version
reply_of_view (views.Gone was_there) = replies.Gone was_there
reply_of_view (views.Value version bytes) = replies.Value version bytes.now
reply_of_view views.Nothing = replies.Nothing
reply_of_view views.Old = replies.Old
reply_of_view (views.Elsewhere hint) = replies.Elsewhere hint
reply_of_view views.Preparing = replies.Preparing
reply_of_view views.Busy = replies.Busy
reply_of_view views.Full = replies.Full
