use Rattle.std.proofs.Common.{◌≡◌, ◌∷◌, [], true, sym, subst, ap, ◌∙◌}
use Rattle.std.proofs.lemmas.Result.{IfOk-weaker}
use Rattle.entry_frames.specs.Logs.{last_index, last_term}
use Rattle.entry_frames.specs.declared.peer.Peer.TheVariants.{VoteReply}
use Rattle.world_model.specs.Rules.Acts.{keeping, message_of, sending}
use Rattle.world_model.specs.Rules.Vote.{act_of_vote_from, is_granted, is_grantor}
use Rattle.node_core.specs.Acting.{IsActed}
use Rattle.node_core.proofs.Acting.{sent_after}
use Rattle.node_core.proofs.Choosing.{granted, says_still}
use Rattle.node_core.proofs.act.Act.consider_vote.Goals as goal

pub returns : goal.returns
returns c = IfOk-weaker c.say-2.result _ _ (λ x said n is.
    let self = c.args.self in
    let candidate = c.args.candidate in
    let grants : is_grantor n candidate c.args.their_last_term c.args.their_last ≡ true =
    ap (λ d. is_granted d.vote (last_index d.log) (last_term d.log) candidate c.args.their_last c.args.their_last_term) (sym is.stands.of_durable)
    ∙ sym c.grants.ensures ∙ c.if-not-grants.false in
    let act = keeping (record n.volatile { quiet = 0 }) (act_of_vote_from n.durable.vote candidate n) in
    let first = c.in_ok-act.ensures n is in
    subst (λ a. IsActed a self x) (sym (granted n candidate c.args.their_last_term c.args.their_last grants))
    (subst (λ m. IsActed (sending (m ∷ []) act) self x) (says_still n candidate (VoteReply true) candidate n.durable.vote)
    (sent_after act (message_of act.node (VoteReply true) candidate ∷ []) self c.in_ok-act.act x first (said act.node first.node))))
    c.say-2.ensures
