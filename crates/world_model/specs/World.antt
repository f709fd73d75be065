-- A whole cluster and its network, and what a line of a schedule makes of them.
use Rattle.std.specs.Prelude.{ℕ, ◌+◌, ◌-◌, List, [], ◌∷◌, ◌++◌, replicate, Option, None, Some, option_map, Bool, true, false, ◌&&◌, nat_le, slice_get, slice_set}
use Rattle.craft_base.specs.Shape.{Shape, members_of}
use Rattle.entry_frames.specs.Durable.{Durable, born}
use Rattle.entry_frames.specs.MessageParts.{receiver_byte}
use Rattle.entry_frames.specs.declared.message.Message.{Message}
use Rattle.entry_frames.specs.declared.output.Output.{Output}
use Rattle.entry_frames.specs.declared.output.Output.TheVariants as outputs
use Rattle.world_model.specs.declared.line.Inner.{Inner}
use Rattle.world_model.specs.declared.line.Inner.TheVariants.{Tick, Take, Call}
use Rattle.world_model.specs.declared.line.Line.{Line}
use Rattle.world_model.specs.declared.line.Line.TheVariants as lines
use Rattle.world_model.specs.declared.verdict.Verdict.{Verdict}
use Rattle.world_model.specs.declared.verdict.Verdict.TheVariants.{Done, NoFrame, Skip, Stop}
use Rattle.world_model.specs.Nodes.{Node, Volatile, fresh, node_with}
use Rattle.world_model.specs.Traces.{LeaderCommit, Proposal, Removal, Replied, leader_commits_in, proposals_in, removals_in, replies_told}
use Rattle.world_model.specs.Turn as turns

-- ---- the members and the network

-- a member of the cluster: what outlives a crash, and where it runs what a crash loses
pub record Member : Type 0 where
  pub durable : Durable
  pub running : Option Volatile

-- it runs as that node, or it is down
abbrev pub running_as : Node → Member
running_as n = record { durable = n.durable; running = Some n.volatile }

abbrev pub down_with : Durable → Member
down_with durable = record { durable = durable; running = None }

abbrev pub volatile_of : Option Volatile → Volatile
volatile_of None = fresh
volatile_of (Some volatile) = volatile

-- the node as which it runs; where it is down, the one as which it would start
abbrev pub node_of : Shape → ℕ → Member → Node
node_of shape me m = node_with shape me m.durable (volatile_of m.running)

-- The members, and every message that was ever sent, the first frame first. What is never taken is lost; what is taken again is
-- repeated. Beside them stands what safety speaks of: how many events there were, and of all of them what leaders proposed, what was
-- removed from logs, what leaders committed, and what clients were told.
pub record World : Type 0 where
  pub shape : Shape
  pub members : List Member
  pub sent : List Message
  pub count : ℕ
  pub book : List Proposal
  pub cuts : List Removal
  pub commits : List LeaderCommit
  pub replies : List Replied

-- each member runs, and none has ever run before
abbrev pub newborn : Member
newborn = record { durable = born; running = Some fresh }

abbrev pub start : Shape → World
start shape =
    record { shape = shape; members = replicate (members_of shape) newborn; sent = []; count = 0; book = []; cuts = []; commits = []; replies = [] }

-- one more event
abbrev pub counting : World → World
counting w = record w { count = w.count + 1 }

-- ---- what happens

-- what a line makes of the world, and what is told of it
pub record Happened : Type 0 where
  pub world : World
  pub verdict : Verdict
  pub member : ℕ
  pub outputs : List Output
  -- what is shown of the member
  pub shown : Option Durable

-- nothing happens
abbrev pub nothing : World → Verdict → Happened
nothing w verdict = record { world = w; verdict = verdict; member = 0; outputs = []; shown = None }

-- the member is now this one, and tells nothing
abbrev pub becoming : World → Verdict → ℕ → Member → Happened
becoming w verdict me m =
    record { world = record w { members = slice_set w.members me m }; verdict = verdict; member = me; outputs = []; shown = None }

-- ---- turns

-- the messages among some outputs
abbrev pub sent_among : List Output → List Message
sent_among [] = []
sent_among (outputs.Send m ∷ told) = m ∷ sent_among told
sent_among (_ ∷ told) = sent_among told

-- what becomes of the world by a turn of a member that had this durable state
abbrev pub Ending : Type 0
Ending = World → ℕ → Durable → turns.Turned → Happened

-- the records of a turn count: what was proposed, removed or committed by a leader in it stands in the lists
abbrev pub tracing : World → ℕ → Durable → turns.Turned → World
tracing w me before t =
    let role = t.node.volatile.role in
    record w {
      book = w.book ++ proposals_in w.count role before t.records;
      cuts = w.cuts ++ removals_in w.count me before t.records;
      commits = w.commits ++ leader_commits_in w.count role before t.records;
    }

-- the turn ends: the member is the turn's node, and what it sent can be delivered from then on
abbrev pub after_turn : Ending
after_turn w me before t =
    record {
      world =
          record (tracing w me before t) {
            members = slice_set w.members me (running_as t.node);
            sent = w.sent ++ sent_among t.outputs;
            replies = w.replies ++ replies_told w.count me t.outputs;
          };
      verdict = Done;
      member = me;
      outputs = t.outputs;
      shown = None;
    }

-- the group of a turn that stops in a device call is in the journal exactly where the call is the third or the fourth, so that the
-- group is on the disk, and the gate's byte, which is pending there, is kept
abbrev pub is_applied : ℕ → Bool → Bool
is_applied call keep = nat_le 3 call && keep

-- the machine stops in a turn whose records count, or don't: the member is down, and what it told is lost
abbrev pub stopped : Bool → Ending
stopped true w me before t = becoming (tracing w me before t) Stop me (down_with t.node.durable)
stopped false w me before t = becoming w Stop me (down_with before)

-- it stops in that device call of the turn
abbrev pub after_stop : ℕ → Bool → Ending
after_stop call keep = stopped (is_applied call keep)

-- an event, and the member at which it happens
pub record Aim : Type 0 where
  pub member : ℕ
  pub event : turns.Event

abbrev pub delivery_of : Message → Aim
delivery_of m = record { member = receiver_byte m; event = turns.Frame m }

-- frames are numbered from 1, in the order in which they were sent; one that isn't sent yet happens nowhere
abbrev pub aim_of : World → Inner → Option Aim
aim_of w (Tick member word) = Some (record { member = member; event = turns.Tick word })
aim_of w (Take frame) = option_map delivery_of (slice_get w.sent (frame - 1))
-- the place from which a client asks is its number
aim_of w (Call member request) = Some (record { member = member; event = turns.Call request.client request })

-- a turn of that member, where it runs
abbrev pub turn_as : Ending → World → Aim → Durable → Option Volatile → Happened
turn_as ending w aim durable None = nothing w Skip
turn_as ending w aim durable (Some volatile) =
    ending w aim.member durable (turns.turn aim.event (node_with w.shape aim.member durable volatile))

abbrev pub turn_of : Ending → World → Aim → Option Member → Happened
turn_of ending w aim None = nothing w Skip
turn_of ending w aim (Some m) = turn_as ending w aim m.durable m.running

abbrev pub turn_at : Ending → World → Option Aim → Happened
turn_at ending w None = nothing w NoFrame
turn_at ending w (Some aim) = turn_of ending w aim (slice_get w.members aim.member)

-- ---- the other lines

-- a member that runs goes down
abbrev pub down_as : World → ℕ → Durable → Option Volatile → Happened
down_as w me durable None = nothing w Skip
down_as w me durable (Some volatile) = becoming w Done me (down_with durable)

abbrev pub down_of : World → ℕ → Option Member → Happened
down_of w me None = nothing w Skip
down_of w me (Some m) = down_as w me m.durable m.running

-- a member that is down starts
abbrev pub up_as : World → ℕ → Durable → Option Volatile → Happened
up_as w me durable None = becoming w Done me (record { durable = durable; running = Some fresh })
up_as w me durable (Some volatile) = nothing w Skip

abbrev pub up_of : World → ℕ → Option Member → Happened
up_of w me None = nothing w Skip
up_of w me (Some m) = up_as w me m.durable m.running

-- a member that runs is shown
abbrev pub show_as : World → ℕ → Durable → Option Volatile → Happened
show_as w me durable None = nothing w Skip
show_as w me durable (Some volatile) =
    record { world = w; verdict = Done; member = me; outputs = []; shown = Some durable }

abbrev pub show_of : World → ℕ → Option Member → Happened
show_of w me None = nothing w Skip
show_of w me (Some m) = show_as w me m.durable m.running

-- ---- lines and runs

-- what a line makes of the world in which it is counted already
abbrev pub happening : World → Line → Happened
happening w (lines.Do inner) = turn_at after_turn w (aim_of w inner)
happening w (lines.Down me) = down_of w me (slice_get w.members me)
happening w (lines.Up me) = up_of w me (slice_get w.members me)
happening w (lines.Show me) = show_of w me (slice_get w.members me)
happening w (lines.Stop call keep inner) = turn_at (after_stop call keep) w (aim_of w inner)

abbrev pub step : World → Line → Happened
step w line = happening (counting w) line

-- the world after a list of lines
abbrev pub run_from : World → List Line → World
run_from w [] = w
run_from w (line ∷ lines) = run_from (step w line).world lines

abbrev pub run : Shape → List Line → World
run shape lines = run_from (start shape) lines
