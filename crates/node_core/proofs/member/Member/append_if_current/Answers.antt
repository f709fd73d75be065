use Rattle.std.proofs.Common.{◌≡◌, ℕ, ◌++◌, ◌∷◌, [], List, Bool, true, false, cond, map, length, sym, ap, ◌∙◌, append-nil}
use Rattle.std.proofs.lemmas.Bool.{eq-eqb, ne_eqb}
use Rattle.entry_frames.specs.declared.message.Message.{Message}
use Rattle.world_model.specs.Rules.Say.{append_to}
use Rattle.node_core.specs.Calling.{is_current}
use Rattle.node_core.proofs.member.Member.append_if_current.Goals as goal

pub returns-in_ok-push : goal.returns-in_ok-push
returns-in_ok-push c = λ n is.
    let sends = c.args.sends.now.items in
    let next = c.next_of.ensures n.shape n.volatile.heard n.volatile.first is.stands.of_heard in
    let last : c.last.result ≡ length n.durable.log = c.last.ensures ∙ ap (λ d. length d.log) is.stands.of_durable in
    let current : is_current n c.args.receiver ≡ true = eq-eqb _ _ (sym next ∙ c.if-next_of-last.true ∙ last) in
    c.in_ok-push.ensures.items ∙ ap (λ (m : Message). sends ++ m ∷ []) (c.in_ok-append_to.ensures n is)
    ∙ ap (λ (b : Bool). sends ++ map (append_to n) (cond {A = List ℕ} b (c.args.receiver ∷ []) [])) (sym current)

pub returns-else-next_of-last : goal.returns-else-next_of-last
returns-else-next_of-last c = λ n is.
    let sends = c.args.sends.now.items in
    let next = c.next_of.ensures n.shape n.volatile.heard n.volatile.first is.stands.of_heard in
    let last : c.last.result ≡ length n.durable.log = c.last.ensures ∙ ap (λ d. length d.log) is.stands.of_durable in
    let other : is_current n c.args.receiver ≡ false = ne_eqb _ _ (λ same. c.if-next_of-last.false (next ∙ same ∙ sym last)) in
    sym (append-nil sends) ∙ ap (λ (b : Bool). sends ++ map (append_to n) (cond {A = List ℕ} b (c.args.receiver ∷ []) [])) (sym other)
