use Rattle.std.proofs.Common.{◌≡◌, ◌-◌, ◌<◌, ◌∙◌, ap, refl, sym, subst, length, Some}
use Rattle.std.specs.Prelude.{slice_get}
use Rattle.std.proofs.lemmas.Bool.{ltb-true}
use Rattle.std.proofs.lemmas.Option.{slice_get_read}
use Rattle.schedule_replay.specs.Network.{IsSent}
use Rattle.schedule_replay.proofs.Spelled.{is_no_fault, message_at, same_message, spelled_at}
use Rattle.schedule_replay.proofs.network.frame_in.Goals as goal

pub unreachable-requires : goal.unreachable-requires
unreachable-requires c =
    let frames = c.args.sent.now in
    let within : c.saturating_sub-position.result < length frames = ltb-true c.saturating_sub-position.result (length frames) (sym c.in_ok-frame.ensures.lookup.0) in
    let sent = subst (IsSent c.args.shape.now) (sym c.in_ok-frame.ensures.lookup.1) (c.requires c.saturating_sub-position.result c.in_ok-frame.frame.now within) in
    is_no_fault sent.0 c.in_default.field-0 (c.in_default.ensures.only sent.0 sent.1.1 (c.as_bytes.ensures ∙ sent.2))

pub returns-clause-sent : goal.returns-clause-sent
returns-clause-sent c = λ ms all are.
    let frames = c.args.sent.now in
    let position = c.saturating_sub-position.result in
    let within : position < length frames = ltb-true position (length frames) (sym c.in_ok-frame.ensures.lookup.0) in
    let read = slice_get_read frames (length frames) position c.in_ok-frame.frame.now refl within c.in_ok-frame.ensures.lookup.1 in
    let here : slice_get frames (c.args.number - 1) ≡ Some c.in_ok-frame.frame.now = ap (slice_get frames) (sym c.saturating_sub-position.ensures) ∙ read in
    let at = message_at c.args.shape.now ms (c.args.number - 1) c.in_ok-frame.frame.now (ap (λ l. slice_get l (c.args.number - 1)) (sym are) ∙ here) in
    let spelled = spelled_at c.args.shape.now ms all (c.args.number - 1) at.0 at.1 in
    at.1 ∙ ap Some (same_message at.0 c.in-Ok.view.frame (c.in-Ok.ensures.only at.0 spelled.1 (c.as_bytes.ensures ∙ at.2)))
