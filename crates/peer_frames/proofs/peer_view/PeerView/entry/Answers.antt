use Rattle.std.proofs.Common.{◌∙◌}
use Rattle.peer_frames.proofs.Reading.{slot_seen}
use Rattle.peer_frames.proofs.peer_view.PeerView.entry.Goals as goal

pub returns-in-Append : goal.returns-in-Append
returns-in-Append c = rw c.in-Append.is (λ k all. c.at.ensures ∙ slot_seen k c.in-Append.entries c.args.n all)

pub returns-in-Answer : goal.returns-in-Answer
returns-in-Answer c = rw c.in-Answer.is (λ k all. c.at-in-Answer.ensures ∙ slot_seen k c.in-Answer.slots c.args.n all)
