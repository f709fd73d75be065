-- Facts about messages and nodes stay true while history grows.
use Rattle.std.proofs.Common.{ℕ, ◌∙◌, ◌+◌, ◌≤◌, List, Option, ap, sym, le_trans, length, arith}
use Rattle.std.specs.List.{All}
use Rattle.std.proofs.lemmas.List.Elements.{All-cons, All-weaker}
use Rattle.craft_base.specs.Shape.{Shape}
use Rattle.craft_base.specs.declared.command.Entry.{Entry}
use Rattle.entry_frames.specs.declared.peer.Peer.{Peer}
use Rattle.entry_frames.specs.declared.peer.Peer.TheVariants as peers
use Rattle.entry_frames.specs.declared.message.Message.{Message}
use Rattle.entry_frames.specs.declared.message.Message.TheVariants as messages
use Rattle.craft_base.specs.Knowledge.{Heard, Beat, From, Voted, Matched, Refused, Answered}
use Rattle.entry_frames.specs.declared.role.Role.{Role}
use Rattle.entry_frames.specs.declared.role.Role.TheVariants.{Follower, Candidate, Preparing, Leader}
use Rattle.leader_prep.specs.Pages.{Page}
use Rattle.world_model.specs.Nodes.{Node, node_hearing}
use Rattle.world_model.specs.Rules.Prepare.{cursor_at}
use Rattle.protocol.specs.History.{History}
use Rattle.protocol.specs.Logs.{last_term}
use Rattle.protocol.specs.Growth.{Grows, Untouched}
use Rattle.protocol.proofs.Messages.{known_commit}
use Rattle.bridge.specs.Agreement.{AllNeed, AnswerAgrees, AppendAgrees, MatchedAgrees, PageAgrees, PagesAgree, PeerAgrees, HeardAgrees, MessageAgrees, NodeAgrees, SaidAgrees}
use Rattle.bridge.proofs.Starts.{IsHearable, knows_hearing}

module _ {g h : History} (x : Grows g h) where
  pub append_stays :
      (term prev prev_term commit : ℕ) (entries : List Entry) → AppendAgrees g term prev prev_term commit entries →
      AppendAgrees h term prev prev_term commit entries
  append_stays term prev prev_term commit entries a =
      let front = x.led term in
      let within : prev + length entries ≤ length (g.led term) = a.within in
      record {
        began = x.began term a.began;
        within = le_trans within front.right;
        before = sym (front.same _ (omega (arith, within))) ∙ a.before;
        terms = λ place from le. a.terms place from le ∙ front.same _ (omega (arith, within, le));
        commits = known_commit g h x term commit a.began a.commits;
      }

  matched_stays :
      (term sender prev count mask : ℕ) → MatchedAgrees g term sender prev count mask → MatchedAgrees h term sender prev count mask
  matched_stays term sender prev count mask a = record {
    reach = omega (arith, a.reach, x.ack term sender);
    whole = λ bit set. x.held term sender _ (a.whole bit set);
  }

  pub answer_stays :
      (term sender start last : ℕ) (slots : List Entry) → AnswerAgrees g term sender start last slots → AnswerAgrees h term sender start last slots
  answer_stays term sender start last slots a = record {
    shown = a.shown;
    was = x.answers (record { term = term; member = sender; start = start; slots = a.shown }) a.was;
    from = a.from;
    ends = a.ends;
    there = a.there;
  }

  peer_stays : (term sender receiver : ℕ) (body : Peer) → PeerAgrees g term sender receiver body → PeerAgrees h term sender receiver body
  peer_stays term sender receiver (peers.Vote last_of last) a =
      let kept = x.stood term sender a.stood in
      record {
        stood = x.voted term sender sender a.stood;
        ends = ap last_term kept ∙ a.ends;
        long = ap length kept ∙ a.long;
      }
  peer_stays term sender receiver (peers.VoteReply granted) a = λ yes. x.voted term sender receiver (a yes)
  peer_stays term sender receiver (peers.Append prev prev_term commit entries) a = append_stays term prev prev_term commit entries a
  peer_stays term sender receiver (peers.Matched prev count mask) a = matched_stays term sender prev count mask a
  peer_stays term sender receiver (peers.Refused next) a = tt
  peer_stays term sender receiver (peers.Ask start) a = a
  peer_stays term sender receiver (peers.Answer start last slots) a = answer_stays term sender start last slots a

  said_stays : (from to at : ℕ) (body : Peer) → SaidAgrees g from to at body → SaidAgrees h from to at body
  said_stays from to at body a = record { apart = a.apart; body_agrees = peer_stays at from to body a.body_agrees }

  pub message_stays : (m : Message) → MessageAgrees g m → MessageAgrees h m
  message_stays (messages.Peer sender receiver term body) a = said_stays sender receiver term body a
  message_stays (messages.Request receiver request) a = tt
  message_stays (messages.Answered sender client seq reply) a = tt

  pub messages_stay : (sent : List Message) → All (MessageAgrees g) sent → All (MessageAgrees h) sent
  messages_stay sent a = All-weaker (MessageAgrees g) (MessageAgrees h) message_stays sent a

  heard_stays : (term me : ℕ) (item : Heard) → HeardAgrees g term me item → HeardAgrees h term me item
  heard_stays term me Beat a = tt
  heard_stays term me (From sender last (Voted granted)) a = said_stays sender me term (peers.VoteReply granted) a
  heard_stays term me (From sender last (Matched prev count mask)) a = said_stays sender me term (peers.Matched prev count mask) a
  heard_stays term me (From sender last (Refused next)) a = tt
  heard_stays term me (From sender last Answered) a = tt

  pub all_heard_stays : (term me : ℕ) (heard : List Heard) → All (HeardAgrees g term me) heard → All (HeardAgrees h term me) heard
  all_heard_stays term me heard a = All-weaker (HeardAgrees g term me) (HeardAgrees h term me) (heard_stays term me) heard a

  page_stays : (term : ℕ) (page : Page) → PageAgrees g term page → PageAgrees h term page
  page_stays term page a = answer_stays term page.sender page.start page.last page.slots a

  pub all_pages_stay : (term : ℕ) (pages : List Page) → All (PageAgrees g term) pages → All (PageAgrees h term) pages
  all_pages_stay term pages a = All-weaker (PageAgrees g term) (PageAgrees h term) (page_stays term) pages a

  pub pages_stay :
      (role : Role) (term : ℕ) (cursor : Option ℕ) (pages : List Page) → PagesAgree role g term cursor pages → PagesAgree role h term cursor pages
  pages_stay Follower term cursor pages a = tt
  pages_stay Candidate term cursor pages a = tt
  pages_stay Preparing term cursor pages a = (all_pages_stay term pages a.0, a.1)
  pages_stay Leader term cursor pages a = tt

  -- a node whose member didn't move
  pub node_stays :
      {shape : Shape} {member : ℕ} {n : Node} → Untouched g h member → AllNeed shape.need h → NodeAgrees shape g member n →
      NodeAgrees shape h member n
  node_stays {member = member} {n = n} u needs a = record {
    of_shape = a.of_shape;
    me = a.me;
    within = a.within;
    term = u.term ∙ a.term;
    vote = u.vote ∙ a.vote;
    log = u.log ∙ a.log;
    commit = u.commit ∙ a.commit;
    role = u.role ∙ a.role;
    heard = all_heard_stays n.durable.term member n.volatile.heard a.heard;
    knows = a.knows;
    pages = pages_stay n.volatile.role n.durable.term (cursor_at n) n.volatile.pages a.pages;
    needs = needs;
  }

-- a node that heard one thing more, which is true
pub hearing_agrees :
    {shape : Shape} {g : History} {member : ℕ} {n : Node} (item : Heard) → NodeAgrees shape g member n →
    IsHearable n.volatile.role (length n.durable.log) item → HeardAgrees g n.durable.term member item → NodeAgrees shape g member (node_hearing item n)
hearing_agrees {g = g} {member = member} {n = n} item a within told =
    let more = knows_hearing n.volatile.role (length n.durable.log) n.volatile.first item n.volatile.heard within a.knows in
    assumption (a, more, All-cons (HeardAgrees g n.durable.term member) item n.volatile.heard told a.heard)
