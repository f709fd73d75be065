-- A member says how far its log is the leader's, and what of it is whole: a leader says it of its own log.
use Rattle.std.proofs.Common.{◌≡◌, ℕ, ◌≤◌, max, List, ◌∙◌, Bool, true, ◌&&◌, ◌||◌, nat_le, sym, ap, subst, arith}
use Rattle.std.proofs.lemmas.Bool.{and_parts, and_from, or_right, leb-true, le-leb}
use Rattle.craft_base.specs.Shape.{Shape}
use Rattle.world_model.specs.Nodes.{Node}
use Rattle.world_model.specs.Rules.Prepare.{cursor_at}
use Rattle.protocol.specs.History as protocol
use Rattle.protocol.specs.Logs.{Slot, Agree, whole_at}
use Rattle.protocol.specs.Moves.{Acknowledge, Reached, after}
use Rattle.protocol.proofs.Counting.{put_at_same}
use Rattle.bridge.specs.Views.{log_seen}
use Rattle.bridge.specs.Agreement.{NodeAgrees}
use Rattle.bridge.specs.Bridges.{OwnMoves}
use Rattle.bridge.proofs.Facts.{all_heard_stays, pages_stay}
use Rattle.bridge.proofs.Steps.{own_move, reached_grows}

-- up to an index, what of a log is whole
abbrev pub whole_up_to : ℕ → List Slot → ℕ → Bool
whole_up_to reach log i = nat_le i reach && whole_at log i

-- the history in which a member said that its log matches up to an index, and what of it is whole
abbrev pub acknowledged : protocol.History → (member reach : ℕ) → List Slot → protocol.History
acknowledged g member reach log = after g (Acknowledge member reach (whole_up_to reach log))

module _
    {shape : Shape} {g : protocol.History} {member : ℕ} {n : Node} (reached : Reached shape.faults g) (a : NodeAgrees shape g member n)
    (reach : ℕ) (agrees : Agree (log_seen n.durable.log) (g.led n.durable.term) reach) where
  abbrev said : protocol.History
  said = acknowledged g member reach (log_seen n.durable.log)

  own_agrees : Agree (g.log member) (g.led (g.term member)) reach
  own_agrees =
      subst (λ t. Agree (g.log member) (g.led t) reach) (sym a.term)
      (subst (λ log. Agree log (g.led n.durable.term) reach) (sym a.log) agrees)

  pub acknowledges : OwnMoves shape.faults member g said
  acknowledges =
      own_move (Acknowledge member reach (whole_up_to reach (log_seen n.durable.log))) (
        own_agrees,
        λ i e.
            let parts = and_parts (nat_le i reach) _ e in
            (leb-true i reach parts.0, subst (λ log. whole_at log i ≡ true) (sym a.log) parts.1),
      )

  pub acknowledged_agrees : NodeAgrees shape said member n
  acknowledged_agrees = record {
    of_shape = a.of_shape;
    me = a.me;
    within = a.within;
    term = a.term;
    vote = a.vote;
    log = a.log;
    commit = a.commit;
    role = a.role;
    heard = all_heard_stays (reached_grows reached acknowledges.run) n.durable.term member n.volatile.heard a.heard;
    knows = a.knows;
    pages = pages_stay (reached_grows reached acknowledges.run) n.volatile.role n.durable.term (cursor_at n) n.volatile.pages a.pages;
    needs = a.needs;
  }

  pub acknowledged_reach : reach ≤ said.ack n.durable.term n.me
  acknowledged_reach =
      let now : said.ack n.durable.term n.me ≡ max (g.ack (g.term member) member) reach =
      rw (← a.term, a.me) (put_at_same (g.term member) member (max (g.ack (g.term member) member) reach) g.ack) in
      omega (arith, now)

  pub acknowledged_whole :
      (i : ℕ) → i ≤ reach → whole_at (log_seen n.durable.log) i ≡ true → said.held n.durable.term n.me i ≡ true
  acknowledged_whole i le w =
      let both : ℕ → Bool = λ k. g.held (g.term member) member k || whole_up_to reach (log_seen n.durable.log) k in
      let now : said.held n.durable.term n.me ≡ both = rw (← a.term, a.me) (put_at_same (g.term member) member both g.held) in
      ap (λ holds. holds i) now ∙ or_right (g.held (g.term member) member i) _ (and_from _ _ (le-leb i reach le) w)
