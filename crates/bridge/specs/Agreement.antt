-- When a world of the turn agrees with a history of the protocol: one field a fact.
use Rattle.std.specs.Prelude.{◌≡◌, ◌≢◌, ℕ, ◌+◌, ◌<◌, ◌≤◌, ◌⊎◌, true, List, All, length, Option, None, Some, slice_get}
use Rattle.std.specs.Int.{bit_at}
use Rattle.craft_base.specs.Shape.{Shape, members_of}
use Rattle.craft_base.specs.declared.command.Entry.{Entry}
use Rattle.entry_frames.specs.declared.peer.Peer.{Peer}
use Rattle.entry_frames.specs.declared.peer.Peer.TheVariants as peers
use Rattle.entry_frames.specs.declared.message.Message.{Message}
use Rattle.entry_frames.specs.declared.message.Message.TheVariants as messages
use Rattle.entry_frames.specs.declared.role.Role.{Role}
use Rattle.entry_frames.specs.declared.role.Role.TheVariants.{Follower, Candidate, Preparing, Leader}
use Rattle.craft_base.specs.Knowledge.{Heard, Told, Beat, From, Voted, Matched, Refused}
use Rattle.leader_prep.specs.Pages.{Page}
use Rattle.world_model.specs.Nodes.{Node}
use Rattle.world_model.specs.Ranges.{IsOfNoLog}
use Rattle.world_model.specs.Rules.Prepare.{cursor_at}
use Rattle.world_model.specs.World.{Member, World, node_of, volatile_of}
use Rattle.protocol.specs.History.{History, IsIn}
use Rattle.protocol.specs.Logs.{Slot, last_term, slot_at, term_at}
use Rattle.protocol.specs.Words.{need_at}
use Rattle.bridge.specs.Traced.{AllStand, CommitAgrees, MessageStands, PageStands, ProposalAgrees, RemovalAgrees, holder}
use Rattle.bridge.specs.Views.{role_seen, log_seen}

-- a candidate that asks for votes stood in the term, with a log that ends in that term and at that index
pub record AskAgrees (h : History) (term candidate last_of last : ℕ) : Type 0 where
  pub stood : h.voted term candidate ≡ Some candidate
  pub ends : last_term (h.stood term candidate) ≡ last_of
  pub long : length (h.stood term candidate) ≡ last

-- what a leader sends is a stretch of its log of that term, with the term of the entry before it, and a commit index that a
-- leader of the term had
pub record AppendAgrees (h : History) (term prev prev_term commit : ℕ) (entries : List Entry) : Type 0 where
  pub began : h.began term ≡ true
  pub within : prev + length entries ≤ length (h.led term)
  pub before : term_at (h.led term) prev ≡ prev_term
  pub terms : (place : ℕ) → 0 < place → place ≤ length entries → term_at (log_seen entries) place ≡ term_at (h.led term) (prev + place)
  pub commits : (commit ≤ h.base term) ⊎ (commit ≤ h.decided term)

-- who says that its log is the leader's up to an index acknowledged it, and what it says that it holds whole
pub record MatchedAgrees (h : History) (term sender prev count mask : ℕ) : Type 0 where
  pub reach : prev + count ≤ h.ack term sender
  pub whole : (bit : ℕ) → bit_at mask bit ≡ 1 → h.held term sender (prev + 1 + bit) ≡ true

-- who answers showed a log in the term, from that index on: it ends at that index, and has these slots there, in order
pub record AnswerAgrees (h : History) (term sender start last : ℕ) (slots : List Entry) : Type 0 where
  pub shown : List Slot
  pub was : IsIn (record { term = term; member = sender; start = start; slots = shown }) h.answers
  pub from : 0 < start
  pub ends : length shown ≡ last
  pub there : (place : ℕ) → place < length slots → slot_at shown (start + place) ≡ slice_get (log_seen slots) place

-- so is a page, which is what an answer shows
abbrev pub PageAgrees : History → (term : ℕ) → Page → Type 0
PageAgrees h term page = AnswerAgrees h term page.sender page.start page.last page.slots

-- What one member says to another in the term is true: a candidate that asks stood, a vote that is granted was cast, entries are
-- the leader's, a log that matches was acknowledged, and what is shown of a log was shown. Who asks what a log holds asks from an
-- index of it on.
abbrev pub PeerAgrees : History → (term sender receiver : ℕ) → Peer → Type 0
PeerAgrees h term sender receiver (peers.Vote last_of last) = AskAgrees h term sender last_of last
PeerAgrees h term sender receiver (peers.VoteReply granted) = granted ≡ true → h.voted term sender ≡ Some receiver
PeerAgrees h term sender receiver (peers.Append prev prev_term commit entries) = AppendAgrees h term prev prev_term commit entries
PeerAgrees h term sender receiver (peers.Matched prev count mask) = MatchedAgrees h term sender prev count mask
PeerAgrees h term sender receiver (peers.Refused next) = Unit {0}
PeerAgrees h term sender receiver (peers.Ask start) = 0 < start
PeerAgrees h term sender receiver (peers.Answer start last slots) = AnswerAgrees h term sender start last slots

-- what one member says goes to another, and is true. It stays so while history grows.
pub record SaidAgrees (h : History) (sender receiver term : ℕ) (body : Peer) : Type 0 where
  pub apart : sender ≢ receiver
  pub body_agrees : PeerAgrees h term sender receiver body

-- nothing is asked of what clients and members say to each other
abbrev pub MessageAgrees : History → Message → Type 0
MessageAgrees h (messages.Peer sender receiver term body) = SaidAgrees h sender receiver term body
MessageAgrees h _ = Unit {0}

-- what a member heard in the term is true, as the message is that it came by
abbrev pub ToldAgrees : History → (term me sender : ℕ) → Told → Type 0
ToldAgrees h term me sender (Voted granted) = SaidAgrees h sender me term (peers.VoteReply granted)
ToldAgrees h term me sender (Matched prev count mask) = SaidAgrees h sender me term (peers.Matched prev count mask)
ToldAgrees h term me sender _ = Unit {0}

abbrev pub HeardAgrees : History → (term me : ℕ) → Heard → Type 0
HeardAgrees h term me Beat = Unit {0}
HeardAgrees h term me (From sender last told) = ToldAgrees h term me sender told

-- each entry that a leader ever had needs so many parts
abbrev pub AllNeed : ℕ → History → Type 0
AllNeed need h = (term index : ℕ) → 0 < index → index ≤ length (h.led term) → need_at h term index ≡ need

-- what tells of a log was heard when the last index of the node's own was at most that one
abbrev pub ToldWithin : (bound last : ℕ) → Told → Type 0
ToldWithin bound last (Matched prev count mask) = last ≤ bound
ToldWithin bound last (Refused next) = last ≤ bound
ToldWithin bound last _ = Unit {0}

abbrev pub ItemWithin : (bound : ℕ) → Heard → Type 0
ItemWithin bound Beat = Unit {0}
ItemWithin bound (From sender last told) = ToldWithin bound last told

-- What a leader heard of logs, it heard with a log no longer than its log is now, and the index from which on it sends first is at most
-- the one behind its log. Who stands for election or prepares heard nothing of logs, and a preparation may cut the log. Of a follower
-- nothing is said.
abbrev pub KnowsWithin : Role → (last first : ℕ) → List Heard → Type 0
KnowsWithin Follower last first heard = Unit {0}
KnowsWithin Candidate last first heard = All IsOfNoLog heard
KnowsWithin Preparing last first heard = All IsOfNoLog heard
KnowsWithin Leader last first heard = (first ≤ last + 1) × All (ItemWithin last) heard

-- a page begins at or before the cursor, where there is one
abbrev pub BeginsBy : (cursor : Option ℕ) → Page → Type 0
BeginsBy None page = Unit {0}
BeginsBy (Some cursor) page = page.start ≤ cursor

-- what a node that prepares saw was shown in its term, from its cursor or an earlier index on
abbrev pub PagesAgree : Role → History → (term : ℕ) → (cursor : Option ℕ) → List Page → Type 0
PagesAgree Preparing h term cursor pages = All (PageAgrees h term) pages × All (BeginsBy cursor) pages
PagesAgree _ h term cursor pages = Unit {0}

-- The node at a position of the world is that member of the history, and all that it heard is true. That all entries need what
-- the shape says is of the history alone: a node that leads counts by it.
pub record NodeAgrees (shape : Shape) (h : History) (member : ℕ) (n : Node) : Type 0 where
  pub of_shape : n.shape ≡ shape
  pub me : n.me ≡ member
  pub within : member < members_of shape
  pub term : h.term member ≡ n.durable.term
  pub vote : h.vote member ≡ n.durable.vote
  pub log : h.log member ≡ log_seen n.durable.log
  pub commit : h.commit member ≡ n.durable.commit
  pub role : h.role member ≡ role_seen n.volatile.role
  pub heard : All (HeardAgrees h n.durable.term member) n.volatile.heard
  pub knows : KnowsWithin n.volatile.role (length n.durable.log) n.volatile.first n.volatile.heard
  pub pages : PagesAgree n.volatile.role h n.durable.term (cursor_at n) n.volatile.pages
  pub needs : AllNeed shape.need h

-- Each member agrees, as the node as which it runs or would start, and each message that was ever sent. So does all that was
-- proposed, removed and committed, and each entry of a log, a message or a page that was seen stands in the book.
pub record WorldAgrees (shape : Shape) (h : History) (w : World) : Type 0 where
  pub of_shape : w.shape ≡ shape
  pub many : length w.members ≡ members_of shape
  pub members : (me : ℕ) (m : Member) → slice_get w.members me ≡ Some m → NodeAgrees shape h me (node_of w.shape me m)
  pub sent : All (MessageAgrees h) w.sent
  pub proposals : All (ProposalAgrees h) w.book
  pub removals : All (RemovalAgrees h) w.cuts
  pub commits : All (CommitAgrees h) w.commits
  pub logs : (me : ℕ) (m : Member) → slice_get w.members me ≡ Some m → AllStand (holder shape me) w.book 1 m.durable.log
  pub pages : (me : ℕ) (m : Member) → slice_get w.members me ≡ Some m → All (PageStands shape w.book) (volatile_of m.running).pages
  pub stand : All (MessageStands shape w.book) w.sent
