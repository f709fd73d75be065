use Rattle.peer_frames.proofs.Reading.{frame_needs_none}
use Rattle.peer_frames.proofs.frame_view.FrameView.read_as.Goals as goal

pub returns-in-Request-clause-need : goal.returns-in-Request-clause-need
returns-in-Request-clause-need c = frame_needs_none c.args.shape.now.need _ c.asked.ensures.entryless

pub returns-in-Answered-clause-need : goal.returns-in-Answered-clause-need
returns-in-Answered-clause-need c = frame_needs_none c.args.shape.now.need _ c.answered.ensures.entryless
