use Rattle.std.proofs.Common.{◌≡◌, ℕ, Option, None, Some, false, refl, sym, subst, ap, ◌∙◌}
use Rattle.std.specs.Prelude.{is_some}
use Rattle.std.proofs.lemmas.Result.{IfOk-weaker}
use Rattle.entry_frames.specs.Records.{Record, Term}
use Rattle.world_model.specs.Rules.Acts.{recording, stays}
use Rattle.world_model.specs.Rules.Vote.{act_of_vote_from}
use Rattle.node_core.specs.Acting.{IsActed}
use Rattle.node_core.proofs.act.Act.vote_for.Goals as goal

is_none : (vote : Option ℕ) → is_some vote ≡ false → vote ≡ None
is_none None e = refl
is_none (Some voted) e = absurd cc

pub returns : goal.returns
returns c = IfOk-weaker c.record.result _ _ (λ x acted n is.
    let own = is.stands.of_durable in
    let none : n.durable.vote ≡ None = sym (ap (λ d. d.vote) own) ∙ sym c.vote.ensures ∙ is_none c.vote.result (sym c.is_some.ensures ∙ c.if-is_some.false) in
    let record_is : Term c.term-term.result (Some c.number.result) ≡ Term n.durable.term (Some c.args.candidate) =
    ap (λ term. Term term (Some c.number.result)) (c.term-term.ensures ∙ ap (λ d. d.term) own) ∙ ap (λ number. Term n.durable.term (Some number)) c.number.ensures.value in
    subst (λ (vote : Option ℕ). IsActed (act_of_vote_from vote c.args.candidate n) c.args.self x) (sym none)
    (subst (λ (r : Record). IsActed (recording r (stays n)) c.args.self x) record_is (acted n is)))
    c.record.ensures.acts
