-- When what a run keeps lists of agrees with a history, and when entries stand in the book of what was proposed.
use Rattle.std.specs.Prelude.{◌≡◌, ℕ, ◌+◌, ◌<◌, ◌≤◌, List, [], ◌∷◌, length, All, Some, slice_get}
use Rattle.craft_base.specs.Shape.{Shape}
use Rattle.craft_base.specs.declared.command.Entry.{Entry}
use Rattle.entry_frames.specs.declared.message.Message.{Message}
use Rattle.entry_frames.specs.declared.message.Message.TheVariants as messages
use Rattle.entry_frames.specs.declared.peer.Peer.{Peer}
use Rattle.entry_frames.specs.declared.peer.Peer.TheVariants as peers
use Rattle.leader_prep.specs.Pages.{Page}
use Rattle.world_model.specs.Safety.{StandsFor, command_in}
use Rattle.world_model.specs.Traces.{Command, LeaderCommit, Proposal, Removal}
use Rattle.protocol.specs.History.{Cut, History, IsIn}
use Rattle.protocol.specs.Logs.{Agree}
use Rattle.protocol.specs.Words.{IsLost}
use Rattle.bridge.specs.Views.{log_seen}

-- ---- what was proposed, removed and committed

-- the value is as long as the head says, and each number of it is a byte
abbrev pub IsOfBytes : Command → Type 0
IsOfBytes command = (length command.value ≡ command.head.vlen) × All (λ byte. byte < 256) command.value

-- it has an index of the log that history has for its term, and a value of bytes
abbrev pub ProposalAgrees : History → Proposal → Type 0
ProposalAgrees h p = (0 < p.index) × (p.index ≤ length (h.led p.term)) × IsOfBytes p.command

-- an entry of that term went out of a log at the index, in a cut of a term
abbrev pub IsGone : History → (cut_term index entry_term : ℕ) → Type 0
IsGone h cut_term index entry_term = (cut : Cut) × IsIn cut h.cuts × (cut.term ≡ cut_term) × IsLost cut index entry_term

-- each entry that was removed went out by a cut of the remover's term
abbrev pub RemovalAgrees : History → Removal → Type 0
RemovalAgrees h c = (place : ℕ) (entry : Entry) → slice_get c.entries place ≡ Some entry → IsGone h c.term (c.index + place) entry.term

-- the term's leader decided what was committed, which is a front of its log
abbrev pub CommitAgrees : History → LeaderCommit → Type 0
CommitAgrees h c = (length c.log ≤ h.decided c.term) × Agree (log_seen c.log) (h.led c.term) (length c.log)

-- ---- the book

-- a member that holds entries, and how many fragments of a value rebuild it
pub record Holder : Type 0 where
  pub need : ℕ
  pub member : ℕ

abbrev pub holder : Shape → ℕ → Holder
holder shape member = record { need = shape.need; member = member }

-- the book has a command for an entry's term and an index, and the holder's entry stands for it
abbrev pub StandsAt : Holder → List Proposal → (index : ℕ) → Entry → Type 0
StandsAt at book index entry =
    (command : Command) × (command_in book entry.term index ≡ Some command) × StandsFor at.need at.member entry command

-- so does each of these entries, the first of which has that index
abbrev pub AllStand : Holder → List Proposal → (index : ℕ) → List Entry → Type 0
AllStand at book index [] = Unit {0}
AllStand at book index (entry ∷ entries) = StandsAt at book index entry × AllStand at book (index + 1) entries

-- so does each entry that a message carries: at whom it goes to where it is to be held there, and at its sender where this shows it
abbrev pub PeerStands : Shape → List Proposal → (sender receiver : ℕ) → Peer → Type 0
PeerStands shape book sender receiver (peers.Append prev prev_term commit entries) = AllStand (holder shape receiver) book (prev + 1) entries
PeerStands shape book sender receiver (peers.Answer start last slots) = AllStand (holder shape sender) book start slots
PeerStands shape book sender receiver _ = Unit {0}

-- so does each that a page shows, at its sender
abbrev pub PageStands : Shape → List Proposal → Page → Type 0
PageStands shape book page = AllStand (holder shape page.sender) book page.start page.slots

abbrev pub MessageStands : Shape → List Proposal → Message → Type 0
MessageStands shape book (messages.Peer sender receiver term body) = PeerStands shape book sender receiver body
MessageStands shape book _ = Unit {0}
