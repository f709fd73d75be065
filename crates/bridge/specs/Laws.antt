-- What is proved of every run: of each shape and each list of events in range.
use Rattle.std.specs.Prelude.{◌≡◌, ◌≢◌, ◌<◌, ◌≤◌, List, [], ◌∷◌, map, Some, slice_get}
use Rattle.craft_base.specs.Shape.{Shape}
use Rattle.craft_base.specs.declared.command.Entry.{Entry}
use Rattle.craft_base.specs.declared.command.Reply.TheVariants as replies
use Rattle.entry_frames.specs.Logs.{entry_at}
use Rattle.world_model.specs.Order.{IsTakenAfter}
use Rattle.world_model.specs.Safety.{EverLed, IsIn, IsRun, OneLeaderATerm, committed}
use Rattle.world_model.specs.Traces.{Command, LeaderCommit, Removal, Replied}
use Rattle.world_model.specs.World as world
use Rattle.world_model.specs.World.{Member}
use Rattle.world_model.specs.declared.line.Line.{Line}
use Rattle.protocol.specs.History as protocol
use Rattle.bridge.specs.Bridges.{RunBridged}

-- a run of a cluster is a run of the protocol, from the start of the one and of the other
abbrev pub RunsAreBridged : Type 0
RunsAreBridged = (shape : Shape) (events : List Line) → IsRun shape events → RunBridged shape protocol.start (world.start shape) events

-- no term has two members that ever led it or prepared to
abbrev pub OneLeaderInEveryRun : Type 0
OneLeaderInEveryRun = (shape : Shape) (events : List Line) → IsRun shape events → OneLeaderATerm shape events

-- the shape of three members that hold each value whole
abbrev pub three : Shape
three = record { faults = 1; need = 1 }

-- and there is a run in which a member is elected, so that the law doesn't speak of nothing: member 0 of three, in term 1
abbrev pub SomeRunElects : Type 0
SomeRunElects = (events : List Line) × IsRun three events × EverLed three events 1 0

-- a run in which the leaders of two terms each commit an entry, and two members have committed, one of them less than the other
abbrev pub SomeRunCommits : Type 0
SomeRunCommits =
    (events : List Line) × (first second : Command) × (one other : Member) × IsRun three events
    × (committed (world.run three events) ≡ Some first ∷ Some second ∷ []) × (first.term ≡ 1) × (second.term ≡ 2)
    × (map (λ commit. commit.term) (world.run three events).commits ≡ 1 ∷ 2 ∷ [])
    × (slice_get (world.run three events).members 0 ≡ Some one) × (one.durable.commit ≡ 1)
    × (slice_get (world.run three events).members 1 ≡ Some other) × (other.durable.commit ≡ 2)

-- and one in which a member removes an entry, and a leader of the remover's term or of a lower one commits another in its place
abbrev pub SomeRunRemoves : Type 0
SomeRunRemoves =
    (events : List Line) × (cut : Removal) × (commit : LeaderCommit) × (removed : Entry) × (kept : Entry) × IsRun three events
    × IsIn cut (world.run three events).cuts × IsIn commit (world.run three events).commits × (commit.term ≤ cut.term)
    × (slice_get cut.entries 0 ≡ Some removed) × (entry_at commit.log cut.index ≡ Some kept) × (removed.term ≢ kept.term)

-- and one in which a client is told that its put was done, then what it set, as it asks under a greater number for the first time, and
-- then that the number of its put is old, as it asks under that again
abbrev pub SomeRunAnswers : Type 0
SomeRunAnswers =
    (events : List Line) × (put got again : Replied) × IsRun three events × ((world.run three events).replies ≡ put ∷ got ∷ again ∷ [])
    × (put.client ≡ got.client) × (put.client ≡ again.client) × (put.seq < got.seq) × (put.seq ≡ again.seq)
    × IsTakenAfter (world.run three events).book put.event got.client got.seq
    × (put.reply ≡ replies.Done 2) × (got.reply ≡ replies.Value 2 (1 ∷ 2 ∷ [])) × (again.reply ≡ replies.Old)
