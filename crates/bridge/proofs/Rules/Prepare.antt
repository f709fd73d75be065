-- Prepare: a candidate that has won makes the move win; once it has decided, rebuild; and where nothing is left to decide, begin and
-- propose, where its log has room. Where its log is cut, it shows its own before.
use Rattle.std.proofs.Common.{◌≡◌, ℕ, ◌-◌, ◌<◌, ◌==◌, true, List, [], ◌∷◌, ◌++◌, length, map, not, take, Option, None, Some, refl, sym, ap, subst, ◌∙◌, inl, inr, arith}
use Rattle.std.specs.List.{All}
use Rattle.std.specs.Option.{option_to_list}
use Rattle.std.proofs.lemmas.Bool.{cond_both, eqb-false, not-true}
use Rattle.std.proofs.lemmas.List.Elements.{All-filter, All-map, All-nil, All-weaker, filter_passes}
use Rattle.craft_base.specs.Knowledge.{members}
use Rattle.craft_base.specs.Shape.{IsShape, Shape}
use Rattle.craft_base.specs.declared.command.Entry.{Entry}
use Rattle.entry_frames.specs.Durable.{Durable, after as applied_all, applied, cut_at}
use Rattle.entry_frames.specs.Records.{Cut}
use Rattle.entry_frames.specs.declared.peer.Peer.TheVariants as peers
use Rattle.entry_frames.specs.declared.role.Role.TheVariants.{Candidate, Preparing}
use Rattle.leader_prep.specs.Decisions.{cursor_of, verdict_at}
use Rattle.leader_prep.specs.Pages.{covers}
use Rattle.world_model.proofs.Ranges.Deciding.{cursor_within}
use Rattle.world_model.proofs.Recorded.{after-append}
use Rattle.world_model.specs.Nodes.{Node}
use Rattle.world_model.specs.Ranges.{IsOfNoLog}
use Rattle.world_model.specs.Rules.Acts.{Act, followed_by, message_of, others, stays}
use Rattle.world_model.specs.Rules.Prepare.{act_of_asking_all, act_of_asking_on, act_of_deciding, act_of_first, act_of_later, act_of_leading, act_of_preparing, act_of_winning, cursor_at, decision_at, preparing, uncovering, whole_record}
use Rattle.world_model.specs.Traces.{Proposal}
use Rattle.protocol.specs.History as protocol
use Rattle.protocol.specs.Logs.{IsFront, Same, Slot, whole_at}
use Rattle.protocol.specs.Moves.{Allowed, Begin, BeginsWith, Reached, ShowsLoss, Win, after}
use Rattle.protocol.proofs.Counting.{put_same}
use Rattle.protocol.proofs.Logs.{same_refl}
use Rattle.protocol.proofs.Runs.{moves_trans}
use Rattle.bridge.specs.Agreement.{BeginsBy, KnowsWithin, MessageAgrees, NodeAgrees, PageAgrees}
use Rattle.bridge.specs.Bridges.{ActBridged, OwnMoves}
use Rattle.bridge.specs.Traced.{AllStand, PageStands, holder}
use Rattle.bridge.specs.Views.{log_seen}
use Rattle.bridge.proofs.Deciding.{had, loses, no_logs, rebuilds, rebuilt, rebuilt_agrees, rebuilt_node, shown_at, shows}
use Rattle.bridge.proofs.Facts.{all_heard_stays}
use Rattle.bridge.proofs.Leaving.{cut_leaves}
use Rattle.bridge.proofs.Steps.{after_moves, own_move, own_then, reached_grows, sends_to_others, unmoved, unmoved_stays}
use Rattle.bridge.proofs.Views.{take_seen}
use Rattle.bridge.proofs.Remaining.{rebuilt_completes}
use Rattle.bridge.proofs.Beginning.{begins, begun_agrees, leader_of, leading_bridged}

-- ---- a node that has decided

-- moves of the member, after which that node agrees
abbrev pub Bridges : Shape → protocol.History → (member : ℕ) → Node → Type 0
Bridges shape g member n = (h : protocol.History) × OwnMoves shape.faults member g h × NodeAgrees shape h member n

module _
    {shape : Shape} {g : protocol.History} {member : ℕ} {n : Node} (reached : Reached shape.faults g) (a : NodeAgrees shape g member n)
    (prepares : n.volatile.role ≡ Preparing) (book : List Proposal) (stand : AllStand (holder shape member) book 1 n.durable.log)
    (seen : All (PageStands shape book) n.volatile.pages) where
  abbrev decided_node : Node
  decided_node = (act_of_deciding n).node

  abbrev kept : Durable
  kept = had reached a prepares

  module _ {h : protocol.History} (run : OwnMoves shape.faults member g h) (it : NodeAgrees shape h member (rebuilt_node reached a prepares)) where
    h_reached : Reached shape.faults h
    h_reached = moves_trans shape.faults _ g h reached run.run

    -- with all of its log
    leads_whole : Bridges shape g member (leader_of (rebuilt_node reached a prepares))
    leads_whole =
        let log : List Slot = log_seen kept.log in
        let way : BeginsWith shape.faults h member log =
        inl (subst (λ slots. Same slots log) (sym it.log) (same_refl log), λ i le w. subst (λ slots. whole_at slots i ≡ true) it.log w) in
        let front : IsFront log (h.log member) = subst (IsFront log) (sym it.log) (same_refl log).agree in
        let silent : All IsOfNoLog n.volatile.heard = no_logs reached a prepares in (
          after h (Begin member log),
          own_then run (begins h_reached it prepares silent kept.log way front),
          begun_agrees h_reached it prepares silent kept.log way front,
        )

    -- with what is left of it
    leads_cut : (index : ℕ) → ShowsLoss shape.faults h member (take (index - 1) (log_seen kept.log)) →
        Bridges shape g member (leader_of (record n { durable = applied kept (Cut index) }))
    leads_cut index loss =
        let log : List Entry = cut_at kept.log index in
        let seen_left : log_seen log ≡ take (index - 1) (log_seen kept.log) = take_seen (index - 1) kept.log in
        let shown : ShowsLoss shape.faults h member (log_seen log) = subst (ShowsLoss shape.faults h member) (sym seen_left) loss in
        let silent : All IsOfNoLog n.volatile.heard = no_logs reached a prepares in (
          after h (Begin member (log_seen log)),
          own_then run (begins h_reached it prepares silent log (inr shown) shown.front),
          begun_agrees h_reached it prepares silent log (inr shown) shown.front,
        )

  -- what it keeps once it has decided
  uncut_keeps : (decision_at n).cut ≡ None → decided_node.durable ≡ kept
  uncut_keeps e =
      ap (λ cut. applied_all n.durable (map whole_record (decision_at n).rebuilt ++ map Cut (option_to_list cut))) e
      ∙ after-append n.durable (map whole_record (decision_at n).rebuilt) []

  cut_keeps : (index : ℕ) → (decision_at n).cut ≡ Some index → decided_node.durable ≡ applied kept (Cut index)
  cut_keeps index e =
      ap (λ cut. applied_all n.durable (map whole_record (decision_at n).rebuilt ++ map Cut (option_to_list cut))) e
      ∙ after-append n.durable (map whole_record (decision_at n).rebuilt) (Cut index ∷ [])

  with_durable : (P : Node → Type 0) (d : Durable) → decided_node.durable ≡ d → P (record n { durable = d }) → P decided_node
  with_durable P d is p = subst (λ it. P (record n { durable = it })) (sym is) p

  rebuilt_run : Bridges shape g member (rebuilt_node reached a prepares)
  rebuilt_run =
      let run : OwnMoves shape.faults member g (rebuilt reached a prepares g.answers) = rebuilds reached a prepares in
      (rebuilt reached a prepares g.answers, run, rebuilt_agrees reached a prepares g.answers (reached_grows reached run.run))

  -- it leads, or is left with something to decide
  decided_leads : (cut : Option ℕ) → (decision_at n).cut ≡ cut → Bridges shape g member (leader_of decided_node)
  decided_leads None e = with_durable (λ it. Bridges shape g member (leader_of it)) kept (uncut_keeps e) (leads_whole rebuilt_run.1 rebuilt_run.2)
  decided_leads (Some index) e =
      let answers : List protocol.Shown = shown_at reached a prepares index in
      let run : OwnMoves shape.faults member g (rebuilt reached a prepares answers) = shows reached a prepares index in
      with_durable (λ it. Bridges shape g member (leader_of it)) (applied kept (Cut index)) (cut_keeps index e)
      (leads_cut run (rebuilt_agrees reached a prepares answers (reached_grows reached run.run)) index (loses reached a prepares book stand seen index e))

  -- a cut leaves nothing to decide
  cut_decides : (index : ℕ) → (decision_at n).cut ≡ Some index → cursor_at decided_node ≡ None
  cut_decides index e =
      with_durable (λ it. cursor_at it ≡ None) (applied kept (Cut index)) (cut_keeps index e)
      (subst (λ commit. cursor_of commit (cut_at kept.log index) ≡ None) (sym (rebuilt_completes n.durable (decision_at n).rebuilt).commit)
      (cut_leaves (verdict_at n.shape n.me n.volatile.pages) n.durable index e))

  decided_waits : (cut : Option ℕ) → (decision_at n).cut ≡ cut → (cursor : ℕ) → cursor_at decided_node ≡ Some cursor → Bridges shape g member decided_node
  decided_waits None e cursor left = with_durable (Bridges shape g member) kept (uncut_keeps e) rebuilt_run
  decided_waits (Some index) e cursor left = absurd (cc (cut_decides index e, left))

  -- ---- and goes on

  asks_from : (cursor : ℕ) → cursor_at decided_node ≡ Some cursor → 0 < cursor
  asks_from cursor e = let within = cursor_within decided_node.durable.commit decided_node.durable.log cursor e in omega (arith, within.0)

  leads_on : IsShape shape → ActBridged shape g member (act_of_leading decided_node)
  leads_on is =
      let led = decided_leads (decision_at n).cut refl in
      after_moves led.1 (leading_bridged decided_node (moves_trans shape.faults _ g led.0 reached (led.1).run) is led.2)

  first_bridged : IsShape shape → (left : Option ℕ) → cursor_at decided_node ≡ left → ActBridged shape g member (act_of_first left decided_node)
  first_bridged is None e = leads_on is
  first_bridged is (Some cursor) e =
      let waits = decided_waits (decision_at n).cut refl cursor e in
      after_moves waits.1
      (unmoved (act_of_asking_all cursor decided_node) waits.2
      (sends_to_others waits.0 decided_node (peers.Ask cursor) (λ receiver. asks_from cursor e)))

  -- to each other member that doesn't cover the cursor
  asking_on_agrees : (h : protocol.History) (cursor : ℕ) → 0 < cursor → All (MessageAgrees h) (act_of_asking_on cursor decided_node).sends
  asking_on_agrees h cursor from =
      let it : ℕ → Type 0 = λ receiver. MessageAgrees h (message_of decided_node (peers.Ask cursor) receiver) in
      let each : (receiver : ℕ) → not (receiver == n.me) ≡ true → it receiver =
      λ receiver passes. record { apart = λ e. eqb-false receiver n.me (not-true _ passes) (sym e); body_agrees = from } in
      All-map (MessageAgrees h) (message_of decided_node (peers.Ask cursor)) (uncovering decided_node cursor)
      (All-filter (λ receiver. not (covers n.me n.volatile.pages cursor receiver)) it (others decided_node)
      (All-weaker (λ receiver. not (receiver == n.me) ≡ true) it each (others decided_node) (filter_passes (λ receiver. not (receiver == n.me)) (members n.shape))))

  later_bridged :
      IsShape shape → (before left : Option ℕ) → cursor_at decided_node ≡ left → ActBridged shape g member (act_of_later before left decided_node)
  later_bridged is before None e = leads_on is
  later_bridged is None (Some cursor) e =
      let waits = decided_waits (decision_at n).cut refl cursor e in after_moves waits.1 (unmoved_stays waits.2)
  later_bridged is (Some before) (Some cursor) e =
      let waits = decided_waits (decision_at n).cut refl cursor e in
      after_moves waits.1
      (cond_both (before == cursor) (stays decided_node) (act_of_asking_on cursor decided_node) (ActBridged shape waits.0 member)
      (λ same. unmoved_stays waits.2)
      (λ moves. unmoved (act_of_asking_on cursor decided_node) waits.2 (asking_on_agrees waits.0 cursor (asks_from cursor e))))

  -- a rule behind the decision is bridged where its act is
  behind : (rule : Node → Act) → ActBridged shape g member (rule decided_node) → ActBridged shape g member (followed_by (act_of_deciding n) rule)
  behind rule b = record { history = b.history; moves = b.moves; node = b.node; sends = b.sends }

  first_decided_bridged : IsShape shape → ActBridged shape g member (followed_by (act_of_deciding n) (λ it. act_of_first (cursor_at it) it))
  first_decided_bridged is = behind (λ it. act_of_first (cursor_at it) it) (first_bridged is (cursor_at decided_node) refl)

  -- a node that prepares, once it has seen more
  pub preparing_bridged : IsShape shape → ActBridged shape g member (act_of_preparing n)
  preparing_bridged is = behind (λ it. act_of_later (cursor_at n) (cursor_at it) it) (later_bridged is (cursor_at n) (cursor_at decided_node) refl)

-- ---- a candidate that has won

module _
    {shape : Shape} {g : protocol.History} {member : ℕ} {n : Node} (reached : Reached shape.faults g) (a : NodeAgrees shape g member n)
    (stands : n.volatile.role ≡ Candidate) (allowed : Allowed shape.faults g (Win member)) where
  wins : OwnMoves shape.faults member g (after g (Win member))
  wins = own_move (Win member) allowed

  -- it has seen no pages yet
  won_agrees : NodeAgrees shape (after g (Win member)) member (record n { volatile = preparing n })
  won_agrees = record {
    of_shape = a.of_shape;
    me = a.me;
    within = a.within;
    term = a.term;
    vote = a.vote;
    log = a.log;
    commit = a.commit;
    role = put_same member protocol.Preparing g.role;
    heard = all_heard_stays (reached_grows reached wins.run) n.durable.term member n.volatile.heard a.heard;
    knows = subst (λ role. KnowsWithin role (length n.durable.log) n.volatile.first n.volatile.heard) stands a.knows;
    pages = (All-nil (PageAgrees (after g (Win member)) n.durable.term), All-nil (BeginsBy (cursor_at n)));
    needs = a.needs;
  }

  pub winning_bridged : IsShape shape → (book : List Proposal) → AllStand (holder shape member) book 1 n.durable.log → ActBridged shape g member (act_of_winning n)
  winning_bridged is book stand =
      let won : Reached shape.faults (after g (Win member)) = moves_trans shape.faults _ g (after g (Win member)) reached wins.run in
      after_moves wins (first_decided_bridged won won_agrees refl book stand (All-nil (PageStands shape book)) is)
