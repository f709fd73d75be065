use Rattle.std.proofs.Common.{All, subst, sym}
use Rattle.world_model.proofs.Requests.{request_fits}
use Rattle.world_model.specs.Spelling.{IsInnerOf}
use Rattle.schedule_replay.specs.Network.{IsSent}
use Rattle.schedule_replay.proofs.Doing.{no_answer}
use Rattle.schedule_replay.proofs.Spelled.{are_sent, spelled_at}
use Rattle.schedule_replay.proofs.lines.happen_as.Goals as goal

pub frame_in-requires : goal.frame_in-requires
frame_in-requires c =
    let w = c.requires.stands.0 in
    let p = c.requires.stands.1 in
    subst (All (IsSent c.args.shape.now)) (sym p.sent_are) (are_sent c.args.shape.now w.sent p.in_range.sent)

pub to-requires : goal.to-requires
to-requires c =
    let w = c.requires.stands.0 in
    let p = c.requires.stands.1 in
    no_answer c.in-Some.view.frame (spelled_at c.args.shape.now w.sent p.in_range.sent _ c.in-Some.view.frame (c.in-Some.ensures.sent w.sent p.in_range.sent p.sent_are)).0

pub turn_at-requires-in-Some-clause-event : goal.turn_at-requires-in-Some-clause-event
turn_at-requires-in-Some-clause-event c =
    let w = c.requires.stands.0 in
    let p = c.requires.stands.1 in
    record {
      ranged = (spelled_at c.args.shape.now w.sent p.in_range.sent _ c.in-Some.view.frame (c.in-Some.ensures.sent w.sent p.in_range.sent p.sent_are), sym c.to.ensures);
      read = c.in-Some.ensures.read;
    }

pub turn_at-requires-in-Call-clause-event : goal.turn_at-requires-in-Call-clause-event
turn_at-requires-in-Call-clause-event c =
    let told = subst (IsInnerOf c.args.shape.now) c.in-Call.is c.requires.inner in
    record { ranged = request_fits _ told.2; read = tt }
