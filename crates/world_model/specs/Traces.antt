-- What a turn proposes, removes and commits: the run keeps lists of it, of which safety speaks.
use Rattle.std.specs.Prelude.{ℕ, ◌+◌, ◌-◌, List, [], ◌∷◌, ◌++◌, length, take, drop, Bool, true, false, if◌then◌else◌}
use Rattle.craft_base.specs.declared.command.Entry.{Entry}
use Rattle.craft_base.specs.declared.command.Head.{Head}
use Rattle.craft_base.specs.declared.command.Reply.{Reply}
use Rattle.entry_frames.specs.Durable.{Durable, applied}
use Rattle.entry_frames.specs.Entries.{form_bytes}
use Rattle.entry_frames.specs.Records.{Record, Add, Cut, Commit}
use Rattle.entry_frames.specs.declared.output.Output.{Output}
use Rattle.entry_frames.specs.declared.output.Output.TheVariants as outputs
use Rattle.entry_frames.specs.declared.role.Role.{Role}
use Rattle.entry_frames.specs.declared.role.Role.TheVariants.{Preparing, Leader}

-- what an entry is for: the term of the leader that proposed it, its head, and the whole value
pub record Command : Type 0 where
  pub term : ℕ
  pub head : Head
  pub value : List ℕ

-- an entry that a leader added to its log by its own doing: its term and index, what it asks for, and the event
pub record Proposal : Type 0 where
  pub term : ℕ
  pub index : ℕ
  pub event : ℕ
  pub command : Command

-- entries that a member removed from its log: the event, the member and its term then, and the entries, the first of which had that
-- index
pub record Removal : Type 0 where
  pub event : ℕ
  pub member : ℕ
  pub term : ℕ
  pub index : ℕ
  pub entries : List Entry

-- a commit of the leader of a term: the event, the term, and its log up to there
pub record LeaderCommit : Type 0 where
  pub event : ℕ
  pub term : ℕ
  pub log : List Entry

-- what a client was told: the event, the member that told it, the client and its number for the request, and the reply
pub record Replied : Type 0 where
  pub event : ℕ
  pub member : ℕ
  pub client : ℕ
  pub seq : ℕ
  pub reply : Reply

-- whether a member of that role has won its term: then what it adds to its log is its own doing, and what it commits it has counted
abbrev pub has_won_term : Role → Bool
has_won_term Preparing = true
has_won_term Leader = true
has_won_term _ = false

-- the command of an entry that is proposed, which is whole
abbrev pub command_of : Entry → Command
command_of entry = record { term = entry.term; head = entry.head; value = form_bytes entry.form }

-- ---- one record, of a member with that durable state

abbrev pub proposals_of : (event : ℕ) → Durable → Record → List Proposal
proposals_of event d (Add entry) =
    record { term = entry.term; index = length d.log + 1; event = event; command = command_of entry } ∷ []
proposals_of event d _ = []

abbrev pub removals_of : (event member : ℕ) → Durable → Record → List Removal
removals_of event member d (Cut index) =
    record { event = event; member = member; term = d.term; index = index; entries = drop (index - 1) d.log } ∷ []
removals_of event member d _ = []

abbrev pub commits_of : (event : ℕ) → Durable → Record → List LeaderCommit
commits_of event d (Commit index) = record { event = event; term = d.term; log = take index d.log } ∷ []
commits_of event d _ = []

-- ---- the records of a turn, in order, after which the member has that role

abbrev pub all_proposals_in : (event : ℕ) → Durable → List Record → List Proposal
all_proposals_in event d [] = []
all_proposals_in event d (r ∷ records) = proposals_of event d r ++ all_proposals_in event (applied d r) records

abbrev pub proposals_in : (event : ℕ) → Role → Durable → List Record → List Proposal
proposals_in event role d records = if has_won_term role then all_proposals_in event d records else []

abbrev pub removals_in : (event member : ℕ) → Durable → List Record → List Removal
removals_in event member d [] = []
removals_in event member d (r ∷ records) = removals_of event member d r ++ removals_in event member (applied d r) records

abbrev pub all_commits_in : (event : ℕ) → Durable → List Record → List LeaderCommit
all_commits_in event d [] = []
all_commits_in event d (r ∷ records) = commits_of event d r ++ all_commits_in event (applied d r) records

abbrev pub leader_commits_in : (event : ℕ) → Role → Durable → List Record → List LeaderCommit
leader_commits_in event role d records = if has_won_term role then all_commits_in event d records else []

-- ---- the outputs of a turn

-- what clients were told among some outputs
abbrev pub replies_told : (event member : ℕ) → List Output → List Replied
replies_told event member [] = []
replies_told event member (outputs.Reply place client seq reply ∷ told) =
    record { event = event; member = member; client = client; seq = seq; reply = reply } ∷ replies_told event member told
replies_told event member (_ ∷ told) = replies_told event member told
