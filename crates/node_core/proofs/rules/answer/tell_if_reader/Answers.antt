use Rattle.std.proofs.Common.{◌≡◌, ◌∙◌, ◌++◌, ◌∷◌, [], List, Bool, true, false, cond, map, sym, ap, append-nil}
use Rattle.std.specs.Prelude.{◌==◌}
use Rattle.std.proofs.lemmas.Bool.{eq-eqb, ne_eqb}
use Rattle.craft_base.specs.declared.command.Reply.TheVariants.{Value}
use Rattle.world_model.specs.Rules.Applying.{reply_to}
use Rattle.world_model.specs.declared.call.Called.{Called}
use Rattle.world_model.specs.declared.call.ClientReply.{ClientReply}
use Rattle.node_core.proofs.rules.answer.tell_if_reader.Goals as goal

pub returns-in_ok-push : goal.returns-in_ok-push
returns-in_ok-push c =
    let before = c.args.replies.now.items in
    let read = c.args.read in
    let index = c.args.index in
    let value = c.args.value.now in
    let reader : (read.index == index) ≡ true = eq-eqb read.index index c.if-read-index.true in
    c.in_ok-push.ensures.items
    ∙ ap (λ (r : ClientReply). before ++ r ∷ []) (c.reply_to.ensures ∙ ap (λ v. reply_to read (Value index v)) (c.in_ok-value.ensures ∙ c.as_bytes.ensures))
    ∙ ap (λ (b : Bool). before ++ map (λ (r : Called). reply_to r (Value index value)) (cond {A = List Called} b (read ∷ []) [])) (sym reader)

pub returns-else-read-index : goal.returns-else-read-index
returns-else-read-index c =
    let before = c.args.replies.now.items in
    let read = c.args.read in
    let index = c.args.index in
    let value = c.args.value.now in
    let other : (read.index == index) ≡ false = ne_eqb read.index index c.if-read-index.false in
    sym (append-nil before) ∙ ap (λ (b : Bool). before ++ map (λ (r : Called). reply_to r (Value index value)) (cond {A = List Called} b (read ∷ []) [])) (sym other)
