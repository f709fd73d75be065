-- The world where one member changes: the others and what was sent still agree, and what its turn adds to the lists of the run does.
use Rattle.std.proofs.Common.{◌≡◌, ◌≢◌, ℕ, List, ◌++◌, Some, slice_get, slice_set, refl, sym, subst, ◌∙◌, inl, inr}
use Rattle.std.specs.List.{All}
use Rattle.std.proofs.lemmas.Bool.{cases_eq}
use Rattle.std.proofs.lemmas.List.{length-set}
use Rattle.std.proofs.lemmas.List.Elements.{All-append, All-same, All-weaker}
use Rattle.std.proofs.lemmas.Option.{same_Some}
use Rattle.craft_base.specs.Shape.{Shape}
use Rattle.world_model.specs.Nodes.{node_with}
use Rattle.world_model.specs.Traces.{Proposal, proposals_in}
use Rattle.world_model.specs.Turn as turns
use Rattle.world_model.specs.World.{Member, World, after_turn, node_of, running_as, volatile_of}
use Rattle.world_model.proofs.Positions.{set_here, set_there}
use Rattle.world_model.proofs.Turns.{sent_among-turned}
use Rattle.protocol.specs.Growth.{Grows}
use Rattle.protocol.specs.History as protocol
use Rattle.protocol.specs.Moves.{Reached}
use Rattle.bridge.specs.Agreement.{MessageAgrees, NodeAgrees, WorldAgrees}
use Rattle.bridge.specs.Bridges.{OwnMoves, TurnBridged, WorldBridged}
use Rattle.bridge.specs.Traced.{AllStand, CommitAgrees, MessageStands, PageStands, ProposalAgrees, RemovalAgrees, holder}
use Rattle.bridge.proofs.Book.Kept.{commits_stay, proposals_stay, removals_stay}
use Rattle.bridge.proofs.Book.Standing.{message_more, pages_more, stand_more}
use Rattle.bridge.proofs.Facts.{messages_stay, node_stays}
use Rattle.bridge.proofs.Steps.{reached_grows}

-- what holds of a member that is put at a position, and of the others, holds of each
each_after :
    (P : ℕ → Member → Type 0) (members : List Member) (me : ℕ) (m next : Member) → slice_get members me ≡ Some m → P me next →
    ((k : ℕ) (it : Member) → k ≢ me → slice_get members k ≡ Some it → P k it) →
    (k : ℕ) (it : Member) → slice_get (slice_set members me next) k ≡ Some it → P k it
each_after P members me m next here p others k it e = elim (cases_eq k me) [
  | inl same ↦
      let now : slice_get (slice_set members me next) me ≡ Some it = subst (λ i. slice_get (slice_set members me next) i ≡ Some it) same e in
      let is : next ≡ it = same_Some _ _ (sym (set_here members me m next here) ∙ now) in
      rw same (subst (P me) is p)
  | inr apart ↦ others k it apart (sym (set_there members me k next apart) ∙ e)
]

module _
    {shape : Shape} {g : protocol.History} {w : World} (reached : Reached shape.faults g) (a : WorldAgrees shape g w)
  where
    -- one member moves, and agrees in its place: the others didn't move
    members_after :
        {h : protocol.History} {me : ℕ} {m : Member} (next : Member) → OwnMoves shape.faults me g h → NodeAgrees shape h me (node_of w.shape me next) →
        slice_get w.members me ≡ Some m → (k : ℕ) (it : Member) → slice_get (slice_set w.members me next) k ≡ Some it →
        NodeAgrees shape h k (node_of w.shape k it)
    members_after {h = h} {me = me} {m = m} next moves agrees here =
        each_after (λ k it. NodeAgrees shape h k (node_of w.shape k it)) w.members me m next here agrees
        (λ k it apart before. node_stays (reached_grows reached moves.run) (moves.others k apart) agrees.needs (a.members k it before))

    -- what was sent before still agrees
    still_said : {h : protocol.History} {me : ℕ} → OwnMoves shape.faults me g h → All (MessageAgrees h) w.sent
    still_said moves = messages_stay (reached_grows reached moves.run) w.sent a.sent

    -- one member changes with no turn, and keeps its log
    pub changed_bridged :
        {h : protocol.History} {me : ℕ} {m : Member} (next : Member) → OwnMoves shape.faults me g h → NodeAgrees shape h me (node_of w.shape me next) →
        slice_get w.members me ≡ Some m → m.durable.log ≡ next.durable.log → All (PageStands shape w.book) (volatile_of next.running).pages →
        WorldBridged shape g (record w { members = slice_set w.members me next })
    changed_bridged {h = h} {me = me} {m = m} next moves agrees here kept seen =
        let grows : Grows g h = reached_grows reached moves.run in
        record {
          history = h;
          moves = moves.run;
          agrees = record {
            of_shape = a.of_shape;
            many = length-set w.members me next ∙ a.many;
            members = members_after next moves agrees here;
            sent = still_said moves;
            proposals = proposals_stay grows w.book a.proposals;
            removals = removals_stay grows w.cuts a.removals;
            commits = commits_stay grows w.commits a.commits;
            logs = each_after (λ k it. AllStand (holder shape k) w.book 1 it.durable.log) w.members me m next here
                (subst (AllStand (holder shape me) w.book 1) kept (a.logs me m here)) (λ k it apart before. a.logs k it before);
            pages = each_after (λ k it. All (PageStands shape w.book) (volatile_of it.running).pages) w.members me m next here seen
                (λ k it apart before. a.pages k it before);
            stand = a.stand;
          };
        }

    -- one member takes its turn
    pub turned_bridged :
        {me : ℕ} (m : Member) (event : turns.Event) → slice_get w.members me ≡ Some m →
        TurnBridged shape g w.book me m.durable (turns.act_of event (node_of w.shape me m)) →
        WorldBridged shape g (after_turn w me m.durable (turns.turn event (node_of w.shape me m))).world
    turned_bridged {me = me} m event here turn =
        let n = node_of w.shape me m in
        let act = turns.act_of event n in
        let b = turn.bridged in
        let t = turn.traced w.count in
        let grows : Grows g b.history = reached_grows reached (b.moves).run in
        let book : List Proposal = w.book ++ proposals_in w.count act.node.volatile.role m.durable act.records in
        let as_kept : NodeAgrees shape b.history me (node_with w.shape me act.node.durable act.node.volatile) = record {
          of_shape = a.of_shape;
          me = refl;
          within = b.node.within;
          term = b.node.term;
          vote = b.node.vote;
          log = b.node.log;
          commit = b.node.commit;
          role = b.node.role;
          heard = b.node.heard;
          knows = b.node.knows;
          pages = b.node.pages;
          needs = b.node.needs;
        } in
        record {
          history = b.history;
          moves = (b.moves).run;
          agrees = record {
            of_shape = a.of_shape;
            many = length-set w.members me (running_as act.node) ∙ a.many;
            members = members_after (running_as act.node) b.moves as_kept here;
            sent = All-append (MessageAgrees b.history) w.sent _ (still_said b.moves)
                (All-same (MessageAgrees b.history) _ act.sends (sent_among-turned n act) b.sends);
            proposals = All-append (ProposalAgrees b.history) w.book _ (proposals_stay grows w.book a.proposals) t.proposals;
            removals = All-append (RemovalAgrees b.history) w.cuts _ (removals_stay grows w.cuts a.removals)
                t.removals;
            commits = All-append (CommitAgrees b.history) w.commits _ (commits_stay grows w.commits a.commits) t.commits;
            logs = each_after (λ k it. AllStand (holder shape k) book 1 it.durable.log) w.members me m (running_as act.node) here t.log
                (λ k it apart before. stand_more (holder shape k) w.book _ 1 it.durable.log (a.logs k it before));
            pages = each_after (λ k it. All (PageStands shape book) (volatile_of it.running).pages) w.members me m (running_as act.node) here t.pages
                (λ k it apart before. pages_more shape w.book _ (volatile_of it.running).pages (a.pages k it before));
            stand = All-append (MessageStands shape book) w.sent _
                (All-weaker (MessageStands shape w.book) (MessageStands shape book) (message_more shape w.book _) w.sent a.stand)
                (All-same (MessageStands shape book) _ act.sends (sent_among-turned n act) t.sends);
          };
        }
