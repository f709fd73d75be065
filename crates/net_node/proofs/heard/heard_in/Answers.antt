use Rattle.std.proofs.Common.{◌≡◌, ◌∙◌, Bool, true, false, IfOk, Ok, ap, refl, subst, sym}
use Rattle.std.specs.Prelude.{not}
use Rattle.std.proofs.lemmas.Bool.{eqb-true}
use Rattle.std.proofs.lemmas.Result.{IfOk-weaker}
use Rattle.entry_frames.specs.Formats.{reading_all}
use Rattle.entry_frames.specs.MessageFields.{frame_fields}
use Rattle.entry_frames.specs.MessageParts.{receiver_byte}
use Rattle.net_node.specs.Hearing.{IsHeardBy}
use Rattle.net_node.specs.NodeRun.{event_if_read, event_of_message}
use Rattle.net_node.proofs.heard.heard_in.Goals as goal

is_true : (b : Bool) → not b ≡ false → b ≡ true
is_true true is = refl
is_true false is = cc

pub returns : goal.returns
returns c =
    let view = c.in-Ok.view in
    let me = c.args.me in
    let same : receiver_byte view.frame ≡ me = sym c.to.ensures ∙ eqb-true c.to.result me (is_true _ (sym c.ne.ensures ∙ c.if-ne.false)) in
    let read : reading_all (frame_fields c.args.shape.now) c.args.bytes.now ≡ Ok view.frame = c.in-Ok.ensures.exact in
    record {
      heard = IfOk-weaker c.heard_of.result _ _ (λ heard is place. is place ∙ ap (λ to. event_of_message to place view.frame) same ∙ sym (ap (event_if_read me place) read)) c.heard_of.ensures.heard;
      ranged = subst (λ shape. IfOk c.heard_of.result (IsHeardBy shape me)) c.in-Ok.ensures.shape
          (subst (λ to. IfOk c.heard_of.result (IsHeardBy view.shape to)) same c.heard_of.ensures.ranged);
    }
