use Rattle.std.proofs.Common.{◌≡◌, false, true, sym, ap, subst, ◌∙◌}
use Rattle.craft_client.specs.Asking.{is_reply_for, told_in}
use Rattle.craft_client.specs.Members.{NamesMember}
use Rattle.craft_client.proofs.Packets.{tells_without_message, tells_without_reply, tells_reply, names_member}
use Rattle.craft_client.proofs.told.told_by.Goals as goal

pub returns-in_default-clause-told : goal.returns-in_default-clause-told
returns-in_default-clause-told c =
    tells_without_message c.args.shape.now c.args.request.now c.args.bytes.now c.in_default.field-0 c.in_default.ensures.exact

pub returns-then-not-is_reply-clause-told : goal.returns-then-not-is_reply-clause-told
returns-then-not-is_reply-clause-told c =
    let another : is_reply_for c.args.request.now c.in-Ok.view.frame ≡ false = cc in
    tells_without_reply c.args.shape.now c.args.request.now c.args.bytes.now c.in-Ok.view.frame c.in-Ok.ensures.exact another

pub returns-clause-told : goal.returns-clause-told
returns-clause-told c =
    let this : is_reply_for c.args.request.now c.in-Ok.view.frame ≡ true = cc in
    let says : c.said.result ≡ told_in c.in-Ok.view.frame = c.said.ensures ∙ ap told_in (sym c.in-Answered.is ∙ c.in_ok-from.ensures) in
    says ∙ tells_reply c.args.shape.now c.args.request.now c.args.bytes.now c.in-Ok.view.frame c.in-Ok.ensures.exact this

pub returns-clause-member : goal.returns-clause-member
returns-clause-member c =
    let says : c.said.result ≡ told_in c.in-Ok.view.frame = c.said.ensures ∙ ap told_in (sym c.in-Answered.is ∙ c.in_ok-from.ensures) in
    subst (NamesMember c.args.shape.now) (sym says) (names_member c.args.shape.now c.in-Ok.view.frame c.in-Ok.ensures.found.0)
