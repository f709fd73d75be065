-- What holds of every run, in parts: of each shape and each list of events in range. The words are those of `world_model`'s
-- Safety and Order.
use Rattle.std.specs.Prelude.{◌≡◌, ℕ, ◌<◌, ◌≤◌, Bool, true, List, map, take, Some, slice_get}
use Rattle.std.specs.List.{count_by}
use Rattle.craft_base.specs.Knowledge.{members}
use Rattle.craft_base.specs.Shape.{Shape, majority_of}
use Rattle.craft_base.specs.declared.command.Entry.{Entry}
use Rattle.craft_base.specs.declared.command.Reply.TheVariants.{Old}
use Rattle.kv_apply.specs.Commands.{is_of, map_reply}
use Rattle.world_model.specs.Order.{AreToldInOrder, IsEffectiveAt, IsRequestAt, IsToldAt, IsToldBefore, TellsOutcome}
use Rattle.world_model.specs.Safety.{EverLed, IsFront, IsIn, IsRun, Rebuilds, StandsFor, StandsIn, committed, heads_in, value_in}
use Rattle.world_model.specs.Traces.{Command, LeaderCommit, Removal, Replied}
use Rattle.world_model.specs.World.{Member, run}
use Rattle.world_model.specs.declared.line.Line.{Line}

-- at each place below a member's commit index there is a command in the list that is committed, and the member's log has an entry
-- for it, with the whole value or with the member's fragment of it
abbrev pub OneList : Type 0
OneList =
    (shape : Shape) (events : List Line) → IsRun shape events → (me : ℕ) (m : Member) (place : ℕ) →
    slice_get (run shape events).members me ≡ Some m → place < m.durable.commit →
    (entry : Entry) × (command : Command) × (slice_get m.durable.log place ≡ Some entry)
    × (slice_get (committed (run shape events)) place ≡ Some (Some command)) × StandsFor shape.need me entry command

-- the list that is committed after a front of the events is a front of the one that is committed in the end
abbrev pub StaysCommitted : Type 0
StaysCommitted =
    (shape : Shape) (events : List Line) → IsRun shape events → (count : ℕ) →
    IsFront (committed (run shape (take count events))) (committed (run shape events))

-- The logs of any F + 1 members, whether they run or not, rebuild the value of each command that is committed: whatever entry of its
-- term one of them has at its place stands for it, and one has the whole value, or as many as are needed have their fragments of it.
abbrev pub AnyRebuild : Type 0
AnyRebuild =
    (shape : Shape) (events : List Line) → IsRun shape events → (who : ℕ → Bool) (place : ℕ) (command : Command) →
    majority_of shape ≤ count_by who (members shape) → slice_get (committed (run shape events)) place ≡ Some (Some command) →
    Rebuilds (run shape events) who place command

-- no entry that a member removed stands in what a leader committed, in the remover's term or in a lower one
abbrev pub RemovesUncommitted : Type 0
RemovesUncommitted =
    (shape : Shape) (events : List Line) → IsRun shape events → (cut : Removal) (commit : LeaderCommit) →
    IsIn cut (run shape events).cuts → IsIn commit (run shape events).commits →
    commit.term ≤ cut.term → StandsIn cut.index cut.entries commit.log → ⊥

-- no term has two members that led it or prepared to, after whatever fronts of the events
abbrev pub OneLeaderATerm : Type 0
OneLeaderATerm =
    (shape : Shape) (events : List Line) → IsRun shape events → (term one other : ℕ) →
    EverLed shape events term one → EverLed shape events term other → one ≡ other

-- ---- what clients are told

-- there is a command at each place of what is committed
abbrev pub AllListed : Type 0
AllListed =
    (shape : Shape) (events : List Line) → IsRun shape events →
    (commands : List Command) × (committed (run shape events) ≡ map Some commands)

-- a reply that tells what a request came to is the one of one map that took all that is committed, and each number of a client once
abbrev pub OneMap : Type 0
OneMap =
    (shape : Shape) (events : List Line) → IsRun shape events → (commands : List Command) → committed (run shape events) ≡ map Some commands →
    (r : Replied) → IsIn r (run shape events).replies → TellsOutcome r.reply →
    map_reply (value_in commands) r.client r.seq (heads_in commands) ≡ Some r.reply

-- a client that is told that its number is old has a command with a greater one among those that are committed
abbrev pub OldNumbers : Type 0
OldNumbers =
    (shape : Shape) (events : List Line) → IsRun shape events → (commands : List Command) → committed (run shape events) ≡ map Some commands →
    (r : Replied) → IsIn r (run shape events).replies → r.reply ≡ Old →
    (command : Command) × IsIn command commands × (is_of r.client command.head ≡ true) × (r.seq < command.head.seq)

-- ---- the order of time

-- a reply that tells what a request came to tells what the effective command of its client with its number came to, at its place in the
-- list that is committed, behind those before it
abbrev pub EachAtItsPlace : Type 0
EachAtItsPlace =
    (shape : Shape) (events : List Line) → IsRun shape events → (commands : List Command) → committed (run shape events) ≡ map Some commands →
    (r : Replied) → IsIn r (run shape events).replies → TellsOutcome r.reply → (place : ℕ) × IsToldAt commands r.client r.seq place r.reply

-- where such a reply was told before a request was first taken, that command stands below each of the request
abbrev pub LaterStandAbove : Type 0
LaterStandAbove =
    (shape : Shape) (events : List Line) → IsRun shape events → (commands : List Command) → committed (run shape events) ≡ map Some commands →
    (r : Replied) (client seq : ℕ) → IsToldBefore (run shape events) r client seq → (place later : ℕ) →
    IsEffectiveAt commands r.client r.seq place → IsRequestAt commands client seq later → place < later

-- so the reply to that request counts what the command did
abbrev pub LaterCount : Type 0
LaterCount =
    (shape : Shape) (events : List Line) → IsRun shape events → (commands : List Command) → committed (run shape events) ≡ map Some commands →
    (one other : Replied) → IsToldBefore (run shape events) one other.client other.seq → IsIn other (run shape events).replies →
    TellsOutcome other.reply → AreToldInOrder commands one other
