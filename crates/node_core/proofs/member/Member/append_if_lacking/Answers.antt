use Rattle.std.proofs.Common.{◌≡◌, ℕ, ◌++◌, ◌∷◌, [], List, Bool, true, false, cond, map, sym, ap, ◌∙◌, append-nil}
use Rattle.std.proofs.lemmas.Bool.{eq-eqb, ne_eqb}
use Rattle.entry_frames.specs.declared.message.Message.{Message}
use Rattle.world_model.specs.Rules.Say.{append_to}
use Rattle.node_core.specs.Wanting.{is_lacking}
use Rattle.node_core.proofs.member.Member.append_if_lacking.Goals as goal

pub returns-in_ok-push : goal.returns-in_ok-push
returns-in_ok-push c = λ n is.
    let sends = c.args.sends.now.items in
    let start = c.start_for.ensures n is in
    let lacking : is_lacking c.args.index n c.args.receiver ≡ true = eq-eqb _ _ (sym start ∙ c.if-start_for-index.true) in
    c.in_ok-push.ensures.items ∙ ap (λ (m : Message). sends ++ m ∷ []) (c.in_ok-append_to.ensures n is)
    ∙ ap (λ (b : Bool). sends ++ map (append_to n) (cond {A = List ℕ} b (c.args.receiver ∷ []) [])) (sym lacking)

pub returns-else-start_for-index : goal.returns-else-start_for-index
returns-else-start_for-index c = λ n is.
    let sends = c.args.sends.now.items in
    let start = c.start_for.ensures n is in
    let other : is_lacking c.args.index n c.args.receiver ≡ false = ne_eqb _ _ (λ same. c.if-start_for-index.false (start ∙ same)) in
    sym (append-nil sends) ∙ ap (λ (b : Bool). sends ++ map (append_to n) (cond {A = List ℕ} b (c.args.receiver ∷ []) [])) (sym other)
