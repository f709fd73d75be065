use Rattle.std.proofs.Common.{refl, [], None, Some, ◌+◌, ap, ◌∙◌, subst, ◌≡◌}
use Rattle.entry_frames.specs.Records.{Record, Term}
use Rattle.entry_frames.specs.declared.role.Role.TheVariants.{Candidate}
use Rattle.world_model.specs.Rules.Acts.{recording, stays}
use Rattle.node_core.specs.Acting.{IsActed}
use Rattle.node_core.proofs.Acting.{become_after}
use Rattle.node_core.proofs.act.Act.become_candidate.Goals as goal

pub returns : goal.returns
returns c = λ n is.
    let between = c.in_ok-act.act in
    let own : Term (c.term-next.result + 1) (Some c.number-me.result) ≡ Term (n.durable.term + 1) (Some n.me) =
    ap (λ term. Term (term + 1) (Some c.number-me.result)) (c.term-next.ensures ∙ ap (λ d. d.term) is.stands.of_durable)
    ∙ ap (λ me. Term (n.durable.term + 1) (Some me)) (c.number-me.ensures.value ∙ is.stands.of_me) in
    let first = subst (λ (r : Record). IsActed (recording r (stays n)) c.args.self between) own (c.in_ok-act.ensures.acts n is) in
    become_after (recording (Term (n.durable.term + 1) (Some n.me)) (stays n)) (λ m. record m { volatile = record m.volatile { role = Candidate; quiet = 0; hint = None; heard = []; first = 0 } })
    c.args.self between (record between { member = c.enter_as_candidate.new.self }) first refl c.in_ok-enter_as_candidate.ensures
