-- What a member asks of others carries no entries: so what a tick does is traced, and what a leader asks for behind a turn leaves what is
-- traced as it is.
use Rattle.std.proofs.Common.{◌≡◌, ℕ, Option, None, Some, List, [], ◌++◌, append-nil, refl, sym, subst}
use Rattle.std.specs.List.{All}
use Rattle.std.proofs.lemmas.List.Elements.{All-append, All-nil}
use Rattle.std.proofs.lemmas.Bool.{cond_both}
use Rattle.craft_base.specs.Shape.{Shape}
use Rattle.craft_base.specs.Knowledge.{Beat}
use Rattle.entry_frames.specs.Durable.{Durable}
use Rattle.entry_frames.specs.Logs.{last_index, last_term}
use Rattle.entry_frames.specs.Records.{Record}
use Rattle.entry_frames.specs.declared.message.Message.{Message}
use Rattle.entry_frames.specs.declared.peer.Peer.TheVariants as peers
use Rattle.entry_frames.specs.declared.role.Role.{Role}
use Rattle.entry_frames.specs.declared.role.Role.TheVariants.{Follower, Candidate, Preparing, Leader}
use Rattle.leader_prep.specs.Pages.{Page}
use Rattle.world_model.specs.Nodes.{Node, node_hearing}
use Rattle.world_model.specs.Rules.Acts.{Act, followed_by, messages_to_others, stays}
use Rattle.world_model.specs.Rules.Prepare.{act_of_asking_again, act_of_asking_all, cursor_at}
use Rattle.world_model.specs.Rules.Say.{act_of_saying, appends_to_others}
use Rattle.world_model.specs.Rules.Tick.{act_of_beat, act_of_candidacy, act_of_election, act_of_tick, act_of_tick_as, act_of_waiting, is_due, waiting_node}
use Rattle.world_model.specs.Rules.Want.{act_of_want, want_of}
use Rattle.world_model.specs.Traces.{Proposal, proposals_in}
use Rattle.world_model.specs.Turn.{Event, act_of, act_of_event}
use Rattle.world_model.proofs.Wanting.{gathering_keeps, want_keeps}
use Rattle.protocol.specs.History.{History}
use Rattle.protocol.specs.Moves.{Reached}
use Rattle.bridge.specs.Agreement.{MessageAgrees, NodeAgrees}
use Rattle.bridge.specs.Bridges.{ActTraced, TurnBridged}
use Rattle.bridge.specs.Traced.{AllStand, MessageStands, PageStands, holder}
use Rattle.bridge.proofs.Book.Plain.{IsTraced, plain_traced, silent_traced, stays_traced, turned}
use Rattle.bridge.proofs.Book.Sent.{appends_stand, to_others_stand}
use Rattle.bridge.proofs.Rules.Tick.{tick_bridged}
use Rattle.bridge.proofs.Rules.Want.{Agrees, want_agrees}

-- the node with that want and these pages
abbrev asking_node : Node → Option ℕ → List Page → Node
asking_node n want pages = record n { volatile = record n.volatile { want = want; pages = pages } }

-- an act, and behind it one that records and answers nothing, with what its node is then, and what it sends
abbrev before_asking : Act → Act → Act
before_asking act next = record { node = next.node; records = act.records ++ next.records; replies = act.replies ++ next.replies; sends = act.sends ++ next.sends }

-- ---- a tick

module _ {shape : Shape} {g : History} {member : ℕ} {book : List Proposal} (n : Node) (stand : AllStand (holder shape member) book 1 n.durable.log)
    (seen : All (PageStands shape book) n.volatile.pages) where
  waiting_traced : (word : ℕ) → IsTraced shape g member n.durable book (act_of_waiting word n)
  waiting_traced word =
      cond_both (is_due n.volatile.quiet word n.durable.term) (act_of_election n) (stays n) (IsTraced shape g member n.durable book)
      (λ due.
      plain_traced n.durable stand (act_of_election n) seen refl (λ event. refl) (λ event. refl) (λ event. refl)
      (λ more log. to_others_stand shape more (act_of_candidacy n).node (peers.Vote (last_term n.durable.log) (last_index n.durable.log)) (λ receiver. tt)))
      (λ early. stays_traced n.durable stand n seen refl)

  asking_again_traced : (cursor : Option ℕ) → IsTraced shape g member n.durable book (act_of_asking_again cursor n)
  asking_again_traced None = stays_traced n.durable stand n seen refl
  asking_again_traced (Some cursor) =
      silent_traced n.durable stand (act_of_asking_all cursor n) seen refl refl (λ more log. to_others_stand shape more n (peers.Ask cursor) (λ receiver. tt))

  -- a leader sends to all others, and asks for what it wants, or wants nothing
  again_traced :
      n.shape ≡ shape → (wanted want : Option ℕ) (pages : List Page) → All (PageStands shape book) pages →
      IsTraced shape g member n.durable book (before_asking (act_of_saying n) (act_of_asking_again wanted (asking_node n want pages)))
  again_traced of_shape None want pages shown =
      silent_traced n.durable stand (before_asking (act_of_saying n) (stays (asking_node n want pages))) shown refl refl
      (λ more log. All-append (MessageStands shape more) (appends_to_others n) [] (appends_stand shape more member n of_shape log) (All-nil (MessageStands shape more)))
  again_traced of_shape (Some index) want pages shown =
      let now : Node = asking_node n want pages in
      silent_traced n.durable stand (before_asking (act_of_saying n) (act_of_asking_all index now)) shown refl refl
      (λ more log.
      All-append (MessageStands shape more) (appends_to_others n) (messages_to_others now (peers.Ask index)) (appends_stand shape more member n of_shape log)
      (to_others_stand shape more now (peers.Ask index) (λ receiver. tt)))

  beat_traced : n.shape ≡ shape → IsTraced shape g member n.durable book (act_of_beat n)
  beat_traced of_shape =
      gathering_keeps n (λ next. IsTraced shape g member n.durable book (before_asking (act_of_saying n) next))
      (again_traced of_shape (want_of n) n.volatile.want n.volatile.pages seen)
      (again_traced of_shape (want_of n) (want_of n) [] (All-nil (PageStands shape book)))

tick_as_traced :
    {shape : Shape} {g : History} {member : ℕ} {book : List Proposal} (role : Role) (word : ℕ) (n : Node) → AllStand (holder shape member) book 1 n.durable.log →
    All (PageStands shape book) n.volatile.pages → n.shape ≡ shape → IsTraced shape g member n.durable book (act_of_tick_as role word n)
tick_as_traced Follower word n stand seen of_shape = waiting_traced (waiting_node n) stand seen word
tick_as_traced Candidate word n stand seen of_shape = waiting_traced (waiting_node n) stand seen word
tick_as_traced Preparing word n stand seen of_shape = asking_again_traced (node_hearing Beat n) stand seen (cursor_at n)
tick_as_traced Leader word n stand seen of_shape = beat_traced (node_hearing Beat n) stand seen of_shape

pub tick_turned :
    {shape : Shape} {g : History} {member : ℕ} {n : Node} {book : List Proposal} (word : ℕ) → Reached shape.faults g → NodeAgrees shape g member n →
    AllStand (holder shape member) book 1 n.durable.log → All (PageStands shape book) n.volatile.pages → TurnBridged shape g book member n.durable (act_of_tick word n)
tick_turned {n = n} word reached a stand seen = turned (tick_bridged word reached a) (tick_as_traced n.volatile.role word n stand seen a.of_shape)

-- ---- the end of a turn

module _
    {shape : Shape} {h : History} {book : List Proposal} {event member : ℕ} {before : Durable} (act : Act) (t : ActTraced shape h book event member before act)
  where
    abbrev in_book : List Proposal
    in_book = book ++ proposals_in event act.node.volatile.role before act.records

    -- the act, with another want and other pages of its node, and some more that it sends
    asking_traced :
        (want : Option ℕ) (pages : List Page) (sends : List Message) → All (PageStands shape in_book) pages → All (MessageStands shape in_book) sends →
        ActTraced shape h book event member before (before_asking act (record { node = asking_node act.node want pages; records = []; replies = []; sends = sends }))
    asking_traced want pages sends seen stand =
        subst
        (λ (records : List Record).
        ActTraced shape h book event member before
        (record { node = asking_node act.node want pages; records = records; replies = act.replies ++ []; sends = act.sends ++ sends }))
        (sym (append-nil act.records))
        (record {
          proposals = t.proposals;
          removals = t.removals;
          commits = t.commits;
          log = t.log;
          pages = seen;
          sends = All-append (MessageStands shape in_book) act.sends sends t.sends stand;
        })

    wanting_traced : (wanted : Option ℕ) → ActTraced shape h book event member before (before_asking act (act_of_asking_again wanted (asking_node act.node (want_of act.node) [])))
    wanting_traced None = asking_traced (want_of act.node) [] [] (All-nil (PageStands shape in_book)) (All-nil (MessageStands shape in_book))
    wanting_traced (Some index) =
        let now : Node = asking_node act.node (want_of act.node) [] in
        asking_traced (want_of act.node) [] (messages_to_others now (peers.Ask index)) (All-nil (PageStands shape in_book))
        (to_others_stand shape in_book now (peers.Ask index) (λ receiver. tt))

    want_traced : ActTraced shape h book event member before (followed_by act act_of_want)
    want_traced =
        want_keeps act.node (λ next. ActTraced shape h book event member before (before_asking act next))
        (asking_traced act.node.volatile.want act.node.volatile.pages [] t.pages (All-nil (MessageStands shape in_book))) (λ leads. wanting_traced (want_of act.node))

-- the whole turn is bridged and traced where the event's own act is
pub act_turned :
    {shape : Shape} {g : History} {member : ℕ} {before : Durable} {book : List Proposal} (event : Event) (n : Node) →
    TurnBridged shape g book member before (act_of_event event n) → TurnBridged shape g book member before (act_of event n)
act_turned {shape = shape} {member = member} event n turn =
    let act : Act = act_of_event event n in
    let b = turn.bridged in
    let next : Agrees shape b.history member (act_of_want act.node) = want_agrees b.node in
    record {
      bridged = record {
        history = b.history;
        moves = b.moves;
        node = next.0;
        sends = All-append (MessageAgrees b.history) act.sends (act_of_want act.node).sends b.sends next.1;
      };
      traced = λ at. want_traced act (turn.traced at);
    }
