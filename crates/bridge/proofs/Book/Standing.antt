-- Entries that stand in the book: in one that grew, in parts of a log, and at a place.
use Rattle.std.proofs.Common.{◌≡◌, ℕ, zero, suc, ◌+◌, ◌&&◌, ◌==◌, Bool, true, false, if◌then◌else◌, List, [], ◌∷◌, ◌++◌, length, take, drop, Option, None, Some, slice_get, refl, subst, arith}
use Rattle.std.specs.List.{All}
use Rattle.std.proofs.lemmas.Bool.{cond_both, and_parts, and_from, eqb-true, eq-eqb}
use Rattle.std.proofs.lemmas.List.Elements.{All-head, All-tail, All-weaker}
use Rattle.std.proofs.lemmas.Option.{same_Some}
use Rattle.craft_base.specs.Shape.{Shape}
use Rattle.craft_base.specs.declared.command.Entry.{Entry}
use Rattle.entry_frames.specs.declared.message.Message.{Message}
use Rattle.entry_frames.specs.declared.message.Message.TheVariants as messages
use Rattle.entry_frames.specs.declared.peer.Peer.{Peer}
use Rattle.entry_frames.specs.declared.peer.Peer.TheVariants as peers
use Rattle.leader_prep.specs.Pages.{Page}
use Rattle.world_model.specs.Safety.{command_in}
use Rattle.world_model.specs.Traces.{Command, Proposal}
use Rattle.bridge.specs.Traced.{AllStand, Holder, MessageStands, PageStands, PeerStands, StandsAt}

-- ---- what is found in a book

found_more :
    (test : Bool) (command : Command) (rest more : Option Command) (it : Command) → (rest ≡ Some it → more ≡ Some it) →
    (if test then Some command else rest) ≡ Some it → (if test then Some command else more) ≡ Some it
found_more true command rest more it go e = e
found_more false command rest more it go e = go e

pub command_in_more :
    (book more : List Proposal) (term index : ℕ) (command : Command) → command_in book term index ≡ Some command →
    command_in (book ++ more) term index ≡ Some command
command_in_more [] more term index command e = cc
command_in_more (p ∷ book) more term index command e =
    found_more ((p.term == term) && (p.index == index)) p.command (command_in book term index) (command_in (book ++ more) term index) command
    (command_in_more book more term index command) e

-- it has another term or another index
abbrev pub IsElsewhere : (term index : ℕ) → Proposal → Type 0
IsElsewhere term index p = p.term ≡ term → p.index ≡ index → ⊥

-- nothing is found where nothing was proposed
pub command_in_none :
    (book : List Proposal) (term index : ℕ) → All (IsElsewhere term index) book → command_in book term index ≡ None
command_in_none [] term index none = refl
command_in_none (p ∷ book) term index none =
    cond_both ((p.term == term) && (p.index == index)) (Some p.command) (command_in book term index) (λ found. found ≡ None)
    (λ here.
    let parts = and_parts (p.term == term) _ here in
    absurd (All-head (IsElsewhere term index) p book none (eqb-true p.term term parts.0) (eqb-true p.index index parts.1)))
    (λ there. command_in_none book term index (All-tail (IsElsewhere term index) p book none))

found_new :
    (test : Bool) (command : Command) (rest more : Option Command) (it : Command) → (rest ≡ None → more ≡ Some it) →
    (if test then Some command else rest) ≡ None → (if test then Some command else more) ≡ Some it
found_new true command rest more it go e = cc
found_new false command rest more it go e = go e

-- what wasn't found before is found once it is proposed
pub command_in_new :
    (book : List Proposal) (p : Proposal) → command_in book p.term p.index ≡ None → command_in (book ++ p ∷ []) p.term p.index ≡ Some p.command
command_in_new [] p e =
    cond_both ((p.term == p.term) && (p.index == p.index)) (Some p.command) None (λ found. found ≡ Some p.command) (λ here. refl)
    (λ there. absurd (cc (there, and_from (p.term == p.term) (p.index == p.index) (eq-eqb p.term p.term refl) (eq-eqb p.index p.index refl))))
command_in_new (q ∷ book) p e =
    found_new ((q.term == p.term) && (q.index == p.index)) q.command (command_in book p.term p.index) (command_in (book ++ p ∷ []) p.term p.index) p.command
    (command_in_new book p) e

-- ---- in a book that grew

module _ (at : Holder) where
  stands_more : (book more : List Proposal) (index : ℕ) (entry : Entry) → StandsAt at book index entry → StandsAt at (book ++ more) index entry
  stands_more book more index entry stands = (stands.0, command_in_more book more entry.term index stands.0 stands.1, stands.2)

  pub stand_more : (book more : List Proposal) (index : ℕ) (entries : List Entry) → AllStand at book index entries → AllStand at (book ++ more) index entries
  stand_more book more index [] stand = tt
  stand_more book more index (entry ∷ entries) stand =
      (stands_more book more index entry stand.0, stand_more book more (index + 1) entries stand.1)

module _ (shape : Shape) (book more : List Proposal) where
  peer_more : (sender receiver : ℕ) (body : Peer) → PeerStands shape book sender receiver body → PeerStands shape (book ++ more) sender receiver body
  peer_more sender receiver (peers.Append prev prev_term commit entries) stand = stand_more _ book more (prev + 1) entries stand
  peer_more sender receiver (peers.Answer start last slots) stand = stand_more _ book more start slots stand
  peer_more sender receiver (peers.Vote last_term last) stand = tt
  peer_more sender receiver (peers.VoteReply granted) stand = tt
  peer_more sender receiver (peers.Matched prev count mask) stand = tt
  peer_more sender receiver (peers.Refused next) stand = tt
  peer_more sender receiver (peers.Ask start) stand = tt

  page_more : (page : Page) → PageStands shape book page → PageStands shape (book ++ more) page
  page_more page stand = stand_more _ book more page.start page.slots stand

  pub pages_more : (pages : List Page) → All (PageStands shape book) pages → All (PageStands shape (book ++ more)) pages
  pages_more pages all = All-weaker (PageStands shape book) (PageStands shape (book ++ more)) page_more pages all

  pub message_more : (m : Message) → MessageStands shape book m → MessageStands shape (book ++ more) m
  message_more (messages.Peer sender receiver term body) stand = peer_more sender receiver body stand
  message_more (messages.Request receiver request) stand = tt
  message_more (messages.Answered sender client seq reply) stand = tt

-- ---- parts of a log

module _ (at : Holder) (book : List Proposal) where
  pub stand_at_index : (one other : ℕ) (entries : List Entry) → one ≡ other → AllStand at book one entries → AllStand at book other entries
  stand_at_index one other entries e stand = subst (λ index. AllStand at book index entries) e stand

  pub stand_append :
      (index : ℕ) (entries more : List Entry) → AllStand at book index entries → AllStand at book (index + length entries) more →
      AllStand at book index (entries ++ more)
  stand_append index [] more stand rest = stand_at_index (index + 0) index more (omega arith) rest
  stand_append index (entry ∷ entries) more stand rest =
      (stand.0, stand_append (index + 1) entries more stand.1 (stand_at_index (index + suc (length entries)) (index + 1 + length entries) more (omega arith) rest))

  pub stand_drop : (index n : ℕ) (entries : List Entry) → AllStand at book index entries → AllStand at book (index + n) (drop n entries)
  stand_drop index zero entries stand = stand_at_index index (index + 0) entries (omega arith) stand
  stand_drop index (suc n) [] stand = tt
  stand_drop index (suc n) (entry ∷ entries) stand =
      stand_at_index (index + 1 + n) (index + suc n) (drop n entries) (omega arith) (stand_drop (index + 1) n entries stand.1)

  pub stand_take : (index n : ℕ) (entries : List Entry) → AllStand at book index entries → AllStand at book index (take n entries)
  stand_take index zero entries stand = tt
  stand_take index (suc n) [] stand = tt
  stand_take index (suc n) (entry ∷ entries) stand = (stand.0, stand_take (index + 1) n entries stand.1)

  pub stand_place :
      (index : ℕ) (entries : List Entry) (place : ℕ) (entry : Entry) → AllStand at book index entries → slice_get entries place ≡ Some entry →
      StandsAt at book (index + place) entry
  stand_place index [] place entry stand e = cc
  stand_place index (first ∷ entries) zero entry stand e =
      let same : index ≡ index + 0 = omega arith in
      subst (λ i. StandsAt at book i entry) same (subst (StandsAt at book index) (same_Some first entry e) stand.0)
  stand_place index (first ∷ entries) (suc place) entry stand e =
      let same : index + 1 + place ≡ index + suc place = omega arith in
      subst (λ i. StandsAt at book i entry) same (stand_place (index + 1) entries place entry stand.1 e)
