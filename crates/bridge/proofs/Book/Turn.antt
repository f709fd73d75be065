-- A message is taken by moves, and what is proposed, removed and committed by it agrees with where these lead.
use Rattle.std.proofs.Common.{◌≡◌, ℕ, ◌<◌, nat_lt, true, false, le_refl, Bool, Option, None, Some, List, [], ◌∷◌, ap, refl, sym, subst, ◌∙◌}
use Rattle.std.specs.List.{All}
use Rattle.std.proofs.lemmas.List.Elements.{All-cons, All-nil}
use Rattle.std.proofs.lemmas.Bool.{cond_both}
use Rattle.craft_base.specs.Shape.{IsShape, Shape}
use Rattle.craft_base.specs.Knowledge.{Matched}
use Rattle.entry_frames.specs.MessageParts.{receiver_byte}
use Rattle.entry_frames.specs.declared.message.Message.{Message}
use Rattle.entry_frames.specs.declared.message.Message.TheVariants as messages
use Rattle.entry_frames.specs.declared.peer.Peer.{Peer}
use Rattle.entry_frames.specs.declared.peer.Peer.TheVariants as peers
use Rattle.entry_frames.specs.declared.role.Role.{Role}
use Rattle.entry_frames.specs.declared.role.Role.TheVariants.{Follower, Candidate, Preparing, Leader}
use Rattle.world_model.specs.Nodes.{Node, node_hearing}
use Rattle.world_model.specs.Rules.Acts.{Act, followed_by, keeping, message_of, sending, stays}
use Rattle.leader_prep.specs.Pages.{Page, joins}
use Rattle.world_model.specs.Rules.Answer.{act_of_answer_as, act_of_page, answer_heard, node_seeing, node_shown}
use Rattle.world_model.specs.Rules.Append.{following}
use Rattle.world_model.specs.Rules.Ask.{act_of_ask_as, act_of_asked, page_from}
use Rattle.world_model.specs.Rules.Matched.{log_heard}
use Rattle.world_model.specs.Rules.Prepare.{act_of_winning, cursor_at}
use Rattle.world_model.specs.Rules.Terms.{act_of_higher_term, act_of_lower_term, act_of_term}
use Rattle.world_model.specs.Rules.Vote.{act_of_grant, act_of_vote_from, act_of_vote_refusal, act_of_vote_request, is_grantor}
use Rattle.world_model.specs.Rules.VoteReply.{act_of_count, act_of_vote_reply_as, has_won, vote_heard}
use Rattle.world_model.specs.Traces.{Proposal}
use Rattle.world_model.specs.Turn.{act_of_message, act_of_peer}
use Rattle.world_model.proofs.Turns.{caught_up}
use Rattle.protocol.specs.Growth.{Grows}
use Rattle.protocol.specs.History.{History}
use Rattle.protocol.specs.Moves.{Reached}
use Rattle.protocol.proofs.Runs.{moves_trans}
use Rattle.bridge.specs.Agreement.{MessageAgrees, NodeAgrees, SaidAgrees}
use Rattle.bridge.specs.Bridges.{ActBridged, ActTraced, TurnBridged}
use Rattle.bridge.specs.Traced.{AllStand, MessageStands, PageStands, PeerStands, ProposalAgrees, holder}
use Rattle.bridge.specs.Views.{role_seen}
use Rattle.bridge.proofs.Book.Append.{append_as_turned}
use Rattle.bridge.proofs.Book.Committed.{matched_as_traced, refused_as_traced}
use Rattle.bridge.proofs.Book.Filling.{shown_traced}
use Rattle.bridge.proofs.Book.Kept.{proposals_stay}
use Rattle.bridge.proofs.Book.Leading.{preparing_traced, unled_by_winning, unled_in_preparing, winning_traced}
use Rattle.bridge.proofs.Book.Plain.{IsTraced, plain_traced, silent_traced, stays_traced, turned}
use Rattle.bridge.proofs.Book.Sent.{one_stands, page_stands, stale_replies_stand}
use Rattle.bridge.proofs.Starts.{leader_hearable, no_log_hearable}
use Rattle.bridge.proofs.Facts.{hearing_agrees, message_stays}
use Rattle.bridge.proofs.Rules.Answer.{answer_bridged}
use Rattle.bridge.proofs.Rules.Ask.{ask_bridged}
use Rattle.bridge.proofs.Rules.Matched.{matched_bridged, refused_bridged}
use Rattle.bridge.proofs.Rules.Terms.{lower_term_bridged, term_bridged}
use Rattle.bridge.proofs.Rules.Vote.{vote_request_bridged}
use Rattle.bridge.proofs.Rules.VoteReply.{vote_reply_bridged, won_allowed}
use Rattle.bridge.proofs.Steps.{reached_grows, then_moved, unmoved_stays}

-- ---- a message in the node's own term

module _ {shape : Shape} {g : History} {member : ℕ} {book : List Proposal} (n : Node) (stand : AllStand (holder shape member) book 1 n.durable.log)
    (seen : All (PageStands shape book) n.volatile.pages) where
  grant_traced : (candidate : ℕ) (vote : Option ℕ) → IsTraced shape g member n.durable book
      (sending (message_of n (peers.VoteReply true) candidate ∷ []) (keeping (record n.volatile { quiet = 0 }) (act_of_vote_from vote candidate n)))
  grant_traced candidate None =
      plain_traced n.durable stand _ seen refl (λ event. refl) (λ event. refl) (λ event. refl)
      (λ more log. one_stands shape more (message_of n (peers.VoteReply true) candidate) tt)
  grant_traced candidate (Some voted) =
      plain_traced n.durable stand _ seen refl (λ event. refl) (λ event. refl) (λ event. refl)
      (λ more log. one_stands shape more (message_of n (peers.VoteReply true) candidate) tt)

  vote_request_traced : (candidate last_of last : ℕ) → IsTraced shape g member n.durable book (act_of_vote_request n candidate last_of last)
  vote_request_traced candidate last_of last =
      cond_both (is_grantor n candidate last_of last) (act_of_grant candidate n) (act_of_vote_refusal candidate n) (IsTraced shape g member n.durable book)
      (λ granted. grant_traced candidate n.durable.vote)
      (λ refused. silent_traced n.durable stand (act_of_vote_refusal candidate n) seen refl refl
      (λ more log. one_stands shape more (message_of n (peers.VoteReply false) candidate) tt))

  count_traced :
      Reached shape.faults g → IsShape shape → NodeAgrees shape g member n → All (ProposalAgrees g) book → n.volatile.role ≡ Candidate →
      IsTraced shape g member n.durable book (act_of_count n)
  count_traced reached is a proposed stands =
      cond_both (has_won n) (act_of_winning n) (stays n) (IsTraced shape g member n.durable book)
      (λ won.
      let allowed = won_allowed reached a stands won in
      winning_traced is reached a (unled_by_winning reached a allowed) proposed stand) (λ waits. stays_traced n.durable stand n seen refl)

vote_reply_as_traced :
    {shape : Shape} {g : History} {member : ℕ} {book : List Proposal} (role : Role) (sender : ℕ) (granted : Bool) (n : Node) →
    AllStand (holder shape member) book 1 n.durable.log → All (PageStands shape book) n.volatile.pages → Reached shape.faults g → IsShape shape →
    NodeAgrees shape g member (node_hearing (vote_heard n sender granted) n) → All (ProposalAgrees g) book → n.volatile.role ≡ role →
    IsTraced shape g member n.durable book (act_of_vote_reply_as role n sender granted)
vote_reply_as_traced Follower sender granted n stand seen reached is a proposed e = stays_traced n.durable stand n seen refl
vote_reply_as_traced Candidate sender granted n stand seen reached is a proposed e =
    count_traced (node_hearing (vote_heard n sender granted) n) stand seen reached is a proposed e
vote_reply_as_traced Preparing sender granted n stand seen reached is a proposed e =
    stays_traced n.durable stand (node_hearing (vote_heard n sender granted) n) seen refl
vote_reply_as_traced Leader sender granted n stand seen reached is a proposed e =
    stays_traced n.durable stand (node_hearing (vote_heard n sender granted) n) seen refl

module _
    {shape : Shape} {g : History} {member : ℕ} {n : Node} {book : List Proposal} (a : NodeAgrees shape g member n)
    (stand : AllStand (holder shape member) book 1 n.durable.log) (seen : All (PageStands shape book) n.volatile.pages) (asker start : ℕ) (from : 0 < start) where
  asked_traced : IsTraced shape g member n.durable book (act_of_asked asker start n)
  asked_traced =
      let now : Node = record n { volatile = following asker n } in
      silent_traced n.durable stand (act_of_asked asker start n) seen refl refl
      (λ more log.
      one_stands shape more (message_of now (page_from now start) asker)
      (page_stands shape more now asker start from (subst (λ me. AllStand (holder shape me) more 1 n.durable.log) (sym a.me) log)))

  ask_as_traced : (role : Role) → IsTraced shape g member n.durable book (act_of_ask_as role n asker start)
  ask_as_traced Follower = asked_traced
  ask_as_traced Candidate = asked_traced
  ask_as_traced Preparing = stays_traced n.durable stand n seen refl
  ask_as_traced Leader = stays_traced n.durable stand n seen refl

-- a page that stands joins those that were seen
module _
    {shape : Shape} (is : IsShape shape) {g : History} {member : ℕ} {n : Node} {book : List Proposal} (reached : Reached shape.faults g) (a : NodeAgrees shape g member n)
    (stand : AllStand (holder shape member) book 1 n.durable.log) (seen : All (PageStands shape book) n.volatile.pages) (proposed : All (ProposalAgrees g) book)
    (page : Page) (shown : PageStands shape book page) where
  page_traced : n.volatile.role ≡ Preparing → IsTraced shape g member n.durable book (act_of_page page n)
  page_traced prepares =
      let now : Node = node_seeing page (node_hearing (answer_heard n page.sender) n) in
      preparing_traced is now reached a.of_shape a.me a.term a.log (unled_in_preparing reached a (a.role ∙ ap role_seen prepares)) book proposed stand
      (cond_both (joins (cursor_at n) page) (page ∷ n.volatile.pages) n.volatile.pages (All (PageStands shape book))
      (λ yes. All-cons (PageStands shape book) page n.volatile.pages shown seen) (λ no. seen))

  answer_as_traced : (role : Role) → n.volatile.role ≡ role → IsTraced shape g member n.durable book (act_of_answer_as role n page)
  answer_as_traced Follower e = stays_traced n.durable stand n seen refl
  answer_as_traced Candidate e = stays_traced n.durable stand n seen refl
  answer_as_traced Preparing e = page_traced e
  answer_as_traced Leader e =
      let now : Node = node_shown page (node_hearing (answer_heard n page.sender) n) in
      shown_traced is _ now book a.of_shape a.me stand
      (cond_both (joins n.volatile.want page) (page ∷ n.volatile.pages) n.volatile.pages (All (PageStands shape book))
      (λ yes. All-cons (PageStands shape book) page n.volatile.pages shown seen) (λ no. seen)) proposed n.volatile.want

module _
    {shape : Shape} {g : History} {member : ℕ} {n : Node} {book : List Proposal} (reached : Reached shape.faults g) (is : IsShape shape)
    (a : NodeAgrees shape g member n) (stand : AllStand (holder shape member) book 1 n.durable.log) (seen : All (PageStands shape book) n.volatile.pages)
    (proposed : All (ProposalAgrees g) book) where
  peer_turned :
      (sender : ℕ) (body : Peer) → SaidAgrees g sender member n.durable.term body → PeerStands shape book sender member body →
      TurnBridged shape g book member n.durable (act_of_peer n sender body)
  peer_turned sender (peers.Vote last_of last) told sent =
      turned (vote_request_bridged reached a sender told.apart last_of last told.body_agrees) (vote_request_traced n stand seen sender last_of last)
  peer_turned sender (peers.VoteReply granted) told sent =
      turned (vote_reply_bridged sender granted reached is a told book stand)
      (vote_reply_as_traced n.volatile.role sender granted n stand seen reached is (hearing_agrees (vote_heard n sender granted) a (no_log_hearable n.volatile.role _ (vote_heard n sender granted) tt) told) proposed refl)
  peer_turned sender (peers.Append prev prev_term commit entries) told sent =
      append_as_turned reached a sender prev prev_term commit entries told.apart told.body_agrees stand seen sent n.volatile.role
  peer_turned sender (peers.Matched prev count mask) told sent =
      turned (matched_bridged reached a sender prev count mask told)
      (matched_as_traced n reached stand seen a.of_shape sender n.volatile.role prev count mask refl
      (λ leads. hearing_agrees (log_heard n sender (Matched prev count mask)) a (leader_hearable _ (log_heard n sender (Matched prev count mask)) leads (le_refl _)) told))
  peer_turned sender (peers.Refused next) told sent =
      turned (refused_bridged reached a sender next told.apart) (refused_as_traced n reached stand seen a.of_shape sender n.volatile.role next)
  peer_turned sender (peers.Ask start) told sent =
      turned (ask_bridged reached a sender start told.apart told.body_agrees) (ask_as_traced a stand seen sender start told.body_agrees n.volatile.role)
  peer_turned sender (peers.Answer start last slots) told sent =
      turned (answer_bridged reached is a sender start last slots told.body_agrees book stand seen sent)
      (answer_as_traced is reached a stand seen proposed (record { sender = sender; start = start; last = last; slots = slots }) sent n.volatile.role refl)

-- ---- any message

-- a term that is recorded first leaves what is traced as it is
behind_term :
    (shape : Shape) (h : History) (book : List Proposal) (event member at : ℕ) (n : Node) (rule : Node → Act) →
    ActTraced shape h book event member (act_of_term at n).node.durable (rule (act_of_term at n).node) →
    ActTraced shape h book event member n.durable (followed_by (act_of_term at n) rule)
behind_term shape h book event member at n rule =
    cond_both (nat_lt n.durable.term at) (act_of_higher_term at n) (stays n)
    (λ act. ActTraced shape h book event member act.node.durable (rule act.node) → ActTraced shape h book event member n.durable (followed_by act rule))
    (λ higher t. record { proposals = t.proposals; removals = t.removals; commits = t.commits; log = t.log; pages = t.pages; sends = t.sends })
    (λ same t. record { proposals = t.proposals; removals = t.removals; commits = t.commits; log = t.log; pages = t.pages; sends = t.sends })

term_keeps : (at : ℕ) (n : Node) → (act_of_term at n).node.durable.log ≡ n.durable.log
term_keeps at n = cond_both (nat_lt n.durable.term at) (act_of_higher_term at n) (stays n) (λ act. act.node.durable.log ≡ n.durable.log) (λ higher. refl) (λ same. refl)

term_keeps_pages : (shape : Shape) (book : List Proposal) (at : ℕ) (n : Node) → All (PageStands shape book) n.volatile.pages → All (PageStands shape book) (act_of_term at n).node.volatile.pages
term_keeps_pages shape book at n seen =
    cond_both (nat_lt n.durable.term at) (act_of_higher_term at n) (stays n) (λ act. All (PageStands shape book) act.node.volatile.pages)
    (λ higher. All-nil (PageStands shape book)) (λ same. seen)

module _
    {shape : Shape} {g : History} {n : Node} {from to at : ℕ} {body : Peer} {book : List Proposal} (reached : Reached shape.faults g) (is : IsShape shape)
    (a : NodeAgrees shape g to n) (told : SaidAgrees g from to at body) (stand : AllStand (holder shape to) book 1 n.durable.log) (seen : All (PageStands shape book) n.volatile.pages)
    (proposed : All (ProposalAgrees g) book) (sent : PeerStands shape book from to body) where
  current_turned : nat_lt at n.durable.term ≡ false → TurnBridged shape g book to n.durable (followed_by (act_of_term at n) (λ now. act_of_peer now from body))
  current_turned current =
      let first : ActBridged shape g to (act_of_term at n) = term_bridged a at in
      let h : History = first.history in
      let grows : Grows g h = reached_grows reached (first.moves).run in
      let still : SaidAgrees h from to at body = message_stays grows (messages.Peer from to at body) told in
      let own : SaidAgrees h from to (act_of_term at n).node.durable.term body = subst (λ t. SaidAgrees h from to t body) (sym (caught_up n at current)) still in
      let later : Reached shape.faults h = moves_trans shape.faults _ g h reached (first.moves).run in
      let log : AllStand (holder shape to) book 1 (act_of_term at n).node.durable.log = subst (AllStand (holder shape to) book 1) (sym (term_keeps at n)) stand in
      let next : TurnBridged shape h book to (act_of_term at n).node.durable (act_of_peer (act_of_term at n).node from body) =
      peer_turned later is first.node log (term_keeps_pages shape book at n seen) (proposals_stay grows book proposed) from body own sent in
      record {
        bridged = then_moved reached (act_of_term at n) (λ now. act_of_peer now from body) first next.bridged;
        traced = λ event. behind_term shape (next.bridged).history book event to at n (λ now. act_of_peer now from body) (next.traced event);
      }

  said_turned : TurnBridged shape g book to n.durable (act_of_message (messages.Peer from to at body) n)
  said_turned =
      cond_both (nat_lt at n.durable.term) (act_of_lower_term n from body) (followed_by (act_of_term at n) (λ now. act_of_peer now from body))
      (TurnBridged shape g book to n.durable)
      (λ lower.
      turned (lower_term_bridged a from body told.apart)
      (silent_traced n.durable stand (act_of_lower_term n from body) seen refl refl (λ more log. stale_replies_stand shape more n from body)))
      current_turned

-- a message comes to the member that it is for
pub message_turned :
    {shape : Shape} {g : History} {n : Node} {book : List Proposal} (m : Message) → Reached shape.faults g → IsShape shape →
    NodeAgrees shape g (receiver_byte m) n → MessageAgrees g m → AllStand (holder shape (receiver_byte m)) book 1 n.durable.log → All (PageStands shape book) n.volatile.pages → All (ProposalAgrees g) book → MessageStands shape book m →
    TurnBridged shape g book (receiver_byte m) n.durable (act_of_message m n)
message_turned (messages.Peer from to at body) reached is a told stand seen proposed sent = said_turned reached is a told stand seen proposed sent
message_turned {n = n} (messages.Request receiver request) reached is a told stand seen proposed sent = turned (unmoved_stays a) (stays_traced n.durable stand n seen refl)
message_turned {n = n} (messages.Answered sender client seq reply) reached is a told stand seen proposed sent = turned (unmoved_stays a) (stays_traced n.durable stand n seen refl)
