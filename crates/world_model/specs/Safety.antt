-- What holds of every run.
use Rattle.std.specs.Prelude.{◌≡◌, ◌≢◌, ℕ, ◌+◌, ◌-◌, ◌<◌, ◌≤◌, ◌⊎◌, List, [], ◌∷◌, ◌++◌, map, reverse, take, All, Bool, true, false, not, ◌&&◌, ◌==◌, nat_lt, if◌then◌else◌, Option, None, Some, slice_get}
use Rattle.std.specs.List.{count_by}
use Rattle.craft_base.specs.Knowledge.{members}
use Rattle.craft_base.specs.Shape.{Shape, IsShape, majority_of}
use Rattle.craft_base.specs.declared.command.Entry.{Entry}
use Rattle.craft_base.specs.declared.command.Form.{Form}
use Rattle.craft_base.specs.declared.command.Form.TheVariants as forms
use Rattle.craft_base.specs.declared.command.Head.{Head}
use Rattle.craft_base.specs.declared.command.Reply.{Reply}
use Rattle.craft_base.specs.declared.command.Reply.TheVariants as replies
use Rattle.entry_frames.specs.Durable.{Durable, born}
use Rattle.entry_frames.specs.Logs.{entry_at, term_at}
use Rattle.entry_frames.specs.declared.role.Role.{Role}
use Rattle.entry_frames.specs.declared.role.Role.TheVariants.{Preparing, Leader}
use Rattle.kv_apply.specs.Commands.{is_of, map_reply}
use Rattle.rs_code.specs.Fragments.{fragment}
use Rattle.world_model.specs.Nodes.{Volatile}
use Rattle.world_model.specs.Quorums.{is_whole}
use Rattle.world_model.specs.Spelling.{IsLineOf}
use Rattle.world_model.specs.Traces.{Command, LeaderCommit, Proposal, Removal, Replied}
use Rattle.world_model.specs.World.{Member, World, run}
use Rattle.world_model.specs.declared.line.Line.{Line}

-- it has won its term: it leads it, or prepares to
abbrev pub HasWon : Role → Type 0
HasWon Preparing = Unit {0}
HasWon Leader = Unit {0}
HasWon _ = ⊥

-- it runs, and has won its term
abbrev pub RunsWon : Option Volatile → Type 0
RunsWon None = ⊥
RunsWon (Some volatile) = HasWon volatile.role

-- the member leads that term, or prepares to
abbrev pub LeadsTerm : Option Member → ℕ → Type 0
LeadsTerm None term = ⊥
LeadsTerm (Some m) term = RunsWon m.running × (m.durable.term ≡ term)

-- the member led that term, or prepared to, after some front of the events
abbrev pub EverLed : Shape → List Line → ℕ → ℕ → Type 0
EverLed shape events term member = (count : ℕ) × LeadsTerm (slice_get (run shape (take count events)).members member) term

-- no term has two members that were ever its leader
abbrev pub OneLeaderATerm : Shape → List Line → Type 0
OneLeaderATerm shape events = (term one other : ℕ) → EverLed shape events term one → EverLed shape events term other → one ≡ other

-- a run of a cluster: its shape's numbers are in range, and so are those of each event
pub record IsRun (shape : Shape) (events : List Line) : Type 0 where
  pub of_shape : IsShape shape
  pub in_range : All (IsLineOf shape) events

-- ---- the list of commands

-- the command that the book has for a term and an index, if any
abbrev pub command_in : List Proposal → (term index : ℕ) → Option Command
command_in [] term index = None
command_in (p ∷ book) term index = if (p.term == term) && (p.index == index) then Some p.command else command_in book term index

-- those for the entries of a log, the first of which has that index
abbrev pub commands_of : List Proposal → ℕ → List Entry → List (Option Command)
commands_of book index [] = []
commands_of book index (entry ∷ log) = command_in book entry.term index ∷ commands_of book (index + 1) log

-- the state that is committed further, the first of the two where both are equal
abbrev pub further : Durable → Durable → Durable
further one other = if nat_lt one.commit other.commit then other else one

-- the state of the member that is committed furthest, the first such member; that state where none is committed further
abbrev pub furthest : Durable → List Member → Durable
furthest d [] = d
furthest d (m ∷ members) = furthest (further d m.durable) members

-- the entries that are committed, as the log of that member has them
abbrev pub committed_log : World → List Entry
committed_log w = let d = furthest born w.members in take d.commit d.log

-- Committed: the list of the commands of these entries
abbrev pub committed : World → List (Option Command)
committed w = commands_of w.book 1 (committed_log w)

-- it is the whole value, or the value's fragment for that member, where so many fragments rebuild it
abbrev pub Holds : (need member : ℕ) → Form → (value : List ℕ) → Type 0
Holds need member (forms.Whole bytes) value = bytes ≡ value
Holds need member (forms.Part bytes) value = bytes ≡ fragment value need member

-- that member's entry is of the command's term, asks for the same, and holds its value so
abbrev pub StandsFor : (need member : ℕ) → Entry → Command → Type 0
StandsFor need member entry command = (entry.term ≡ command.term) × (entry.head ≡ command.head) × Holds need member entry.form command.value

-- each member has, up to its commit index, an entry for each of these commands
abbrev pub HoldsCommitted : World → Type 0
HoldsCommitted w =
    (me : ℕ) (m : Member) (place : ℕ) → slice_get w.members me ≡ Some m → place < m.durable.commit →
    (entry : Entry) × (command : Command) × (slice_get m.durable.log place ≡ Some entry)
    × (slice_get (committed w) place ≡ Some (Some command)) × StandsFor w.shape.need me entry command

-- the first list is the beginning of the second
abbrev pub IsFront : List (Option Command) → List (Option Command) → Type 0
IsFront front whole = (rest : List (Option Command)) × (front ++ rest ≡ whole)

-- what was committed stays: after each front of the events it was a front of what is committed in the end
abbrev pub StaysCommitted : Shape → List Line → Type 0
StaysCommitted shape events = (count : ℕ) → IsFront (committed (run shape (take count events))) (committed (run shape events))

-- ---- what can be rebuilt

abbrev pub log_of : Option Member → List Entry
log_of None = []
log_of (Some m) = m.durable.log

-- whether it is an entry of that term, held in a form that passes the test
abbrev pub is_held_as : (Form → Bool) → (term : ℕ) → Option Entry → Bool
is_held_as test term None = false
is_held_as test term (Some entry) = (entry.term == term) && test entry.form

-- whether a member's log has an entry of that term at a place with its whole value, or with a fragment of it
abbrev pub has_whole : World → (term place member : ℕ) → Bool
has_whole w term place member = is_held_as is_whole term (slice_get (log_of (slice_get w.members member)) place)

abbrev pub has_part : World → (term place member : ℕ) → Bool
has_part w term place member = is_held_as (λ form. not (is_whole form)) term (slice_get (log_of (slice_get w.members member)) place)

-- The logs of these members, whether they run or not, rebuild the value of the command at that place: whatever entry of its term one
-- of them has there stands for it, and one has the whole value, or as many as are needed have its fragments.
pub record Rebuilds (w : World) (who : ℕ → Bool) (place : ℕ) (command : Command) : Type 0 where
  pub stand :
      (me : ℕ) (m : Member) (entry : Entry) → who me ≡ true → slice_get w.members me ≡ Some m → slice_get m.durable.log place ≡ Some entry →
      entry.term ≡ command.term → StandsFor w.shape.need me entry command
  pub enough :
      ((me : ℕ) × (who me ≡ true) × (has_whole w command.term place me ≡ true))
      ⊎ (w.shape.need ≤ count_by (λ me. who me && has_part w command.term place me) (members w.shape))

-- so do those of any F + 1 members for each command that is committed
abbrev pub RebuildsCommitted : World → Type 0
RebuildsCommitted w =
    (who : ℕ → Bool) (place : ℕ) (command : Command) → majority_of w.shape ≤ count_by who (members w.shape) →
    slice_get (committed w) place ≡ Some (Some command) → Rebuilds w who place command

-- ---- what is removed

-- one of the entries, the first of which has that index, stands in the log: there is an entry of its term at its index
abbrev pub StandsIn : (index : ℕ) → List Entry → List Entry → Type 0
StandsIn index entries log =
    (place : ℕ) × (entry : Entry) × (slice_get entries place ≡ Some entry) × (entry_at log (index + place) ≢ None)
    × (term_at log (index + place) ≡ entry.term)

-- the element stands in the list
abbrev pub IsIn : {A : Type 0} → A → List A → Type 0
IsIn a [] = ⊥
IsIn a (x ∷ xs) = (a ≡ x) ⊎ IsIn a xs

-- nothing was removed that a leader of the remover's term or of a lower one ever commits, before or after
abbrev pub RemovesUncommitted : World → Type 0
RemovesUncommitted w =
    (cut : Removal) (commit : LeaderCommit) → IsIn cut w.cuts → IsIn commit w.commits → commit.term ≤ cut.term →
    StandsIn cut.index cut.entries commit.log → ⊥

-- ---- what clients are told

-- the heads of some commands, the latest first
abbrev pub heads_in : List Command → List Head
heads_in commands = reverse (map (λ c. c.head) commands)

abbrev pub value_of_command : Option Command → List ℕ
value_of_command None = []
value_of_command (Some command) = command.value

-- the value of the command with that index
abbrev pub value_in : List Command → ℕ → List ℕ
value_in commands index = value_of_command (slice_get commands (index - 1))

-- a command of that client with a greater number is among them
abbrev pub HasGreater : List Command → (client seq : ℕ) → Type 0
HasGreater commands client seq = (command : Command) × IsIn command commands × (is_of client command.head ≡ true) × (seq < command.head.seq)

-- The reply to the request of that client with that number is the one of one map that took these commands, each number of a client
-- once; or there is a greater number, where it says so. A refusal tells nothing of the map.
abbrev pub IsOfOneMap : List Command → (client seq : ℕ) → Reply → Type 0
IsOfOneMap commands client seq replies.Old = HasGreater commands client seq
IsOfOneMap commands client seq (replies.Elsewhere hint) = Unit {0}
IsOfOneMap commands client seq replies.Preparing = Unit {0}
IsOfOneMap commands client seq replies.Busy = Unit {0}
IsOfOneMap commands client seq replies.Full = Unit {0}
IsOfOneMap commands client seq reply = map_reply (value_in commands) client seq (heads_in commands) ≡ Some reply

-- what is committed is a list of commands, and all that clients were told is told of it
pub record AnswersAsOneMap (w : World) : Type 0 where
  pub commands : List Command
  pub are : committed w ≡ map Some commands
  pub replies : (r : Replied) → IsIn r w.replies → IsOfOneMap commands r.client r.seq r.reply

-- The run is safe: one list of commands is committed, for all members and for ever, and any F + 1 members' logs rebuild it; no entry is removed that a leader of a term up
-- to the remover's commits; clients are answered as by one map that took this list; and no term has two leaders.
pub record IsSafe (shape : Shape) (events : List Line) : Type 0 where
  pub one_list : HoldsCommitted (run shape events)
  pub stays : StaysCommitted shape events
  pub rebuilds : RebuildsCommitted (run shape events)
  pub removes : RemovesUncommitted (run shape events)
  pub replies : AnswersAsOneMap (run shape events)
  pub one_leader : OneLeaderATerm shape events
