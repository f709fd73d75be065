use Rattle.peer_frames.proofs.Reading.{needs_none}
use Rattle.peer_frames.proofs.peer_view.PeerView.read.Goals as goal

pub returns-in-Vote-clause-need : goal.returns-in-Vote-clause-need
returns-in-Vote-clause-need c = needs_none c.args.k _ c.vote.ensures.entryless

pub returns-in-VoteReply-clause-need : goal.returns-in-VoteReply-clause-need
returns-in-VoteReply-clause-need c = needs_none c.args.k _ c.vote_reply.ensures.entryless

pub returns-in-AppendReply-clause-need : goal.returns-in-AppendReply-clause-need
returns-in-AppendReply-clause-need c = needs_none c.args.k _ c.append_reply.ensures.entryless

pub returns-in-Ask-clause-need : goal.returns-in-Ask-clause-need
returns-in-Ask-clause-need c = needs_none c.args.k _ c.ask.ensures.entryless
