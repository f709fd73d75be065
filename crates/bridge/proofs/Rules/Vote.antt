-- Vote: a member that grants its vote makes the move cast.
use Rattle.std.proofs.Common.{◌≡◌, ◌≢◌, ℕ, ◌⊎◌, true, false, Option, None, Some, length, [], ◌∷◌, ◌++◌, refl, sym, ap, ◌∙◌, inl, inr}
use Rattle.std.specs.List.{All}
use Rattle.std.proofs.lemmas.Bool.{cond_both, and_parts, eqb-true}
use Rattle.craft_base.specs.Shape.{Shape}
use Rattle.entry_frames.specs.declared.peer.Peer.TheVariants as peers
use Rattle.world_model.specs.Nodes.{Node}
use Rattle.world_model.specs.Rules.Acts.{keeping, message_of}
use Rattle.world_model.specs.Rules.Prepare.{cursor_at}
use Rattle.world_model.specs.Rules.Vote.{act_of_grant, act_of_vote_from, act_of_vote_refusal, act_of_vote_request, is_free_for, is_grantor}
use Rattle.protocol.specs.History.{History}
use Rattle.protocol.specs.Logs.{last_term}
use Rattle.protocol.specs.Moves.{Cast, Allowed, Reached, after}
use Rattle.protocol.specs.Growth.{Grows}
use Rattle.protocol.proofs.Counting.{put_same, put_at_same}
use Rattle.bridge.specs.Agreement.{AskAgrees, MessageAgrees, NodeAgrees}
use Rattle.bridge.specs.Bridges.{ActBridged, OwnMoves}
use Rattle.bridge.proofs.Facts.{all_heard_stays, pages_stay}
use Rattle.bridge.proofs.Steps.{moved, own_move, reached_grows, sends_one, unmoved}
use Rattle.bridge.proofs.Views.{length_seen, last_term_seen, up_to_date}
use Rattle.bridge.proofs.Rules.Terms.{refused_vote_agrees}

free_for : (candidate : ℕ) (vote : Option ℕ) → is_free_for candidate vote ≡ true → (vote ≡ None) ⊎ (vote ≡ Some candidate)
free_for candidate None free = inl refl
free_for candidate (Some voted) free = inr (ap Some (eqb-true voted candidate free))

module _
    {shape : Shape} {g : History} {member : ℕ} {n : Node} (reached : Reached shape.faults g) (a : NodeAgrees shape g member n)
    (candidate : ℕ) (apart : candidate ≢ member) where
  -- what is granted may be cast
  granted_allowed :
      (last_of last : ℕ) → AskAgrees g n.durable.term candidate last_of last → is_grantor n candidate last_of last ≡ true →
      Allowed shape.faults g (Cast member candidate)
  granted_allowed last_of last told granted =
      let parts = and_parts _ _ granted in
      let asked : AskAgrees g (g.term member) candidate last_of last = rw a.term told in (
        elim (free_for candidate n.durable.vote parts.0) [ inl none ↦ inl (a.vote ∙ none) | inr it ↦ inr (a.vote ∙ it) ],
        asked.stood,
        up_to_date (g.stood (g.term member) candidate) (g.log member) last_of last _ _ asked.ends asked.long
            (ap last_term a.log ∙ last_term_seen n.durable.log) (ap length a.log ∙ length_seen n.durable.log) parts.1,
      )

  -- who votes has its vote, whether it is new or stands already
  vote_agrees :
      (vote : Option ℕ) → n.durable.vote ≡ vote → is_free_for candidate vote ≡ true → Grows g (after g (Cast member candidate)) →
      NodeAgrees shape (after g (Cast member candidate)) member (keeping (record n.volatile { quiet = 0 }) (act_of_vote_from vote candidate n)).node
  vote_agrees None is free x = record {
    of_shape = a.of_shape;
    me = a.me;
    within = a.within;
    term = a.term;
    vote = put_same member (Some candidate) g.vote;
    log = a.log;
    commit = a.commit;
    role = a.role;
    heard = all_heard_stays x n.durable.term member n.volatile.heard a.heard;
    knows = a.knows;
    pages = pages_stay x n.volatile.role n.durable.term (cursor_at n) n.volatile.pages a.pages;
    needs = a.needs;
  }
  vote_agrees (Some voted) is free x = record {
    of_shape = a.of_shape;
    me = a.me;
    within = a.within;
    term = a.term;
    vote = put_same member (Some candidate) g.vote ∙ ap Some (sym (eqb-true voted candidate free)) ∙ sym is;
    log = a.log;
    commit = a.commit;
    role = a.role;
    heard = all_heard_stays x n.durable.term member n.volatile.heard a.heard;
    knows = a.knows;
    pages = pages_stay x n.volatile.role n.durable.term (cursor_at n) n.volatile.pages a.pages;
    needs = a.needs;
  }

  grant_agrees : MessageAgrees (after g (Cast member candidate)) (message_of n (peers.VoteReply true) candidate)
  grant_agrees = record {
    apart = λ e. apart (sym e ∙ a.me);
    body_agrees = λ granted. rw (← a.term, a.me) (put_at_same (g.term member) member (Some candidate) g.voted);
  }

  -- a vote that is recorded or stands sends nothing of its own
  only_the_grant :
      (h : History) (vote : Option ℕ) → All (MessageAgrees h) (message_of n (peers.VoteReply true) candidate ∷ []) →
      All (MessageAgrees h) ((act_of_vote_from vote candidate n).sends ++ message_of n (peers.VoteReply true) candidate ∷ [])
  only_the_grant h None all = all
  only_the_grant h (Some voted) all = all

  grant_bridged :
      is_free_for candidate n.durable.vote ≡ true → Allowed shape.faults g (Cast member candidate) → ActBridged shape g member (act_of_grant candidate n)
  grant_bridged free allowed =
      let moves : OwnMoves shape.faults member g (after g (Cast member candidate)) = own_move (Cast member candidate) allowed in
      moved _ moves (vote_agrees n.durable.vote refl free (reached_grows reached moves.run))
      (only_the_grant (after g (Cast member candidate)) n.durable.vote
      (sends_one (after g (Cast member candidate)) (message_of n (peers.VoteReply true) candidate) grant_agrees))

  pub vote_request_bridged :
      (last_of last : ℕ) → AskAgrees g n.durable.term candidate last_of last →
      ActBridged shape g member (act_of_vote_request n candidate last_of last)
  vote_request_bridged last_of last told =
      cond_both (is_grantor n candidate last_of last) (act_of_grant candidate n) (act_of_vote_refusal candidate n) (ActBridged shape g member)
      (λ granted. grant_bridged (and_parts _ _ granted).0 (granted_allowed last_of last told granted))
      (λ refused. unmoved _ a (sends_one g (message_of n (peers.VoteReply false) candidate) (refused_vote_agrees a candidate apart)))
