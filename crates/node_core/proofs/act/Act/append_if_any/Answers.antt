use Rattle.std.proofs.Common.{◌≡◌, ◌∷◌, [], subst, sym, ap, ◌∙◌, length}
use Rattle.std.proofs.lemmas.Result.{IfOk-weaker}
use Rattle.world_model.specs.Rules.Acts.{message_of, sending, stays}
use Rattle.world_model.specs.Rules.Say as rule
use Rattle.node_core.specs.Acting.{IsActed}
use Rattle.node_core.proofs.Acting.{stays_acted}
use Rattle.node_core.proofs.Batches.{any_sent, appended, batch_from, none_sent}
use Rattle.node_core.proofs.act.Act.append_if_any.Goals as goal

pub returns : goal.returns
returns c =
    IfOk-weaker c.say.result _ _ (λ x acted n is.
    let receiver = c.args.receiver in
    let start = c.start_for-start.ensures n is in
    let entries = c.in_ok-entries.ensures n is in
    let said : c.append_of-body.result ≡ rule.append_from n receiver (rule.start_of n receiver) =
    c.append_of-body.ensures ∙ appended c.args.self.member n is receiver c.start_for-start.result (rule.start_of n receiver) c.in_ok-entries.entries start entries in
    let batch = batch_from n receiver c.start_for-start.result (rule.start_of n receiver) c.in_ok-entries.entries start entries in
    subst (λ ms. IsActed (sending ms (stays n)) c.args.self x)
    (ap (λ body. message_of n body receiver ∷ []) said ∙ sym (any_sent n receiver (λ none. c.if-len-eq0.false (c.len.ensures ∙ ap length batch ∙ none))))
    (acted n is))
    c.say.ensures

pub returns-then-len-eq0 : goal.returns-then-len-eq0
returns-then-len-eq0 c n is =
    let receiver = c.args.receiver in
    let batch = batch_from n receiver c.start_for-start.result (rule.start_of n receiver) c.in_ok-entries.entries (c.start_for-start.ensures n is) (c.in_ok-entries.ensures n is) in
    let none : rule.append_if_any n receiver ≡ [] = none_sent n receiver (sym (ap length batch) ∙ sym c.len.ensures ∙ c.if-len-eq0.true) in
    subst (λ ms. IsActed (sending ms (stays n)) c.args.self c.args.self) (sym none) (stays_acted c.args.self n is)
