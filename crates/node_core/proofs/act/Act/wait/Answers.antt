use Rattle.std.proofs.Common.{◌≡◌, true, refl, sym, subst, ap, ◌∙◌}
use Rattle.std.proofs.lemmas.Result.{IfOk-weaker}
use Rattle.world_model.specs.Rules.Tick.{act_of_candidacy, act_of_election, is_due, vote_requests, waiting_node}
use Rattle.node_core.specs.Acting.{IsActed}
use Rattle.node_core.proofs.Acting.{acted_from, sent_after}
use Rattle.node_core.proofs.Choosing.{stands_if_due}
use Rattle.node_core.proofs.act.Act.wait.Goals as goal

pub returns : goal.returns
returns c = IfOk-weaker c.ask_for_votes.result _ _ (λ x asked n is.
    let self = c.args.self in
    let m = waiting_node n in
    let waits = record self { member = c.count_quiet.new.self } in
    let now = c.count_quiet.ensures.node n is in
    let due : is_due m.volatile.quiet c.args.word m.durable.term ≡ true =
    ap (λ quiet. is_due quiet c.args.word m.durable.term) (sym now.stands.of_quiet)
    ∙ ap (λ term. is_due c.count_quiet.new.self.quiet c.args.word term) (sym (c.term.ensures ∙ ap (λ d. d.term) now.stands.of_durable))
    ∙ sym c.starts.ensures ∙ c.if-not-starts.false in
    let first = c.in_ok-act.ensures m now in
    let both = sent_after (act_of_candidacy m) (vote_requests (act_of_candidacy m).node) waits c.in_ok-act.act x first (asked (act_of_candidacy m).node first.node) in
    subst (λ a. IsActed a self x) (sym (stands_if_due m c.args.word due))
    (acted_from (act_of_election m) self waits x refl c.count_quiet.ensures.store both))
    c.ask_for_votes.ensures
