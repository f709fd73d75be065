-- A node that serves, and the run that it makes.
use Rattle.std.specs.Prelude.{◌≡◌, ◌⊎◌, ℕ, ◌+◌, ◌≤◌, Bool, IsTrue, List, [], ◌++◌, Option, Some, is_some}
use Rattle.craft_base.specs.Shape.{Shape}
use Rattle.craft_edge.specs.Packets.{Packet}
use Rattle.node_core.specs.Stands.{Kept, Stands}
use Rattle.synced_log.specs.Journal.{owned}
use Rattle.synced_log.specs.States.{OpensTo}
use Rattle.synced_log.specs.declared.owner.Owner.{Owner}
use Rattle.net_node.specs.Ends.{EndsEarly, FaultCounts, NoFewer}
use Rattle.net_node.specs.NodeRun.{Served}
use Rattle.net_node.specs.declared.serving.Counts.{Counts}
use Rattle.net_node.specs.declared.serve_end.ServeEnd.{ServeEnd}

-- what the devices of a node tell, each where it tells it: the readings and the packets still to come, the packets sent, and the
-- bytes written
pub record Edges : Type 0 where
  pub readings : Option (List ℕ)
  pub coming : Option (List Packet)
  pub sent : Option (List Packet)
  pub taken : Option (List ℕ)

-- the devices tell what they told
pub record TellsAs (old new : Edges) : Type 0 where
  pub readings : is_some new.readings ≡ is_some old.readings
  pub coming : is_some new.coming ≡ is_some old.coming
  pub sent : is_some new.sent ≡ is_some old.sent
  pub taken : is_some new.taken ≡ is_some old.taken

-- an image that a crash may leave of a disk which tells that, and tells what a read gives
pub record CanLeave (tells_crash : Bool) (seen : Option (List ℕ)) (may_leave : List ℕ → Type 0) (image : List ℕ) : Type 0 where
  pub told : IsTrue tells_crash
  pub read : IsTrue (is_some seen)
  pub left : may_leave image

-- the member is that one of the cluster
abbrev pub IsOf : Shape → (me : ℕ) → Kept → Type 0
IsOf shape me core = (core.shape ≡ shape) × (core.me ≡ me)

-- where a node stands: its member, its counts, what its devices tell, and how often each has failed
pub record Moment : Type 0 where
  pub core : Kept
  pub counts : Counts
  pub edges : Edges
  pub faults : FaultCounts

-- The node stands where the run stands: its member for the run's node, and its devices behind what was written and sent before the
-- run began, and then by the run.
pub record Follows (text : List ℕ) (before : List Packet) (m : Moment) (s : Served) : Type 0 where
  pub node : Stands m.core s.node
  pub words : m.counts.words ≡ s.words
  pub shown : m.counts.shown ≡ s.shown
  pub events : m.counts.events ≡ s.events
  pub frame : m.counts.frame ≡ s.frame
  pub readings : m.edges.readings ≡ Some s.readings
  pub coming : m.edges.coming ≡ Some s.packets
  pub sent : m.edges.sent ≡ Some (before ++ s.sent)
  pub taken : m.edges.taken ≡ Some (text ++ s.lines)

-- ---- the run goes on

-- whatever run the node stood in, it now stands in what is made of it
abbrev pub Becomes : (Served → Served) → (old new : Moment) → Type 0
Becomes made old new = (text : List ℕ) (before : List Packet) (s : Served) → Follows text before old s → Follows text before new (made s)

-- it is the same member, with so many events more at most
pub record GoesOn (shape : Shape) (me most : ℕ) (old new : Moment) : Type 0 where
  pub member : IsOf shape me new.core
  pub events : new.counts.events ≤ old.counts.events + most
  pub told : TellsAs old.edges new.edges
  pub later : NoFewer old.faults new.faults

-- what is made of the run was made
pub record Makes (made : Served → Served) (shape : Shape) (me most : ℕ) (old new : Moment) : Type 0 where
  pub run : Becomes made old new
  pub goes_on : GoesOn shape me most old new

-- ---- the run ends early

-- An event makes of the run s the run `made`. So far a front of the event's lines was written and a front of its packets was sent,
-- none of them before all of its lines. Each image that a crash may leave opens to the state after the event, or else nothing of the
-- event was written or sent, and it opens to the state before it.
pub record StopsIn (text : List ℕ) (before : List Packet) (edges : Edges) (owner : Owner) (leaves : List ℕ → Type 0) (s made : Served) : Type 0 where
  pub printed : List ℕ
  pub unprinted : List ℕ
  pub lines : made.lines ≡ s.lines ++ (printed ++ unprinted)
  pub taken : edges.taken ≡ Some (text ++ (s.lines ++ printed))
  pub gone : List Packet
  pub unsent : List Packet
  pub packets : made.sent ≡ s.sent ++ (gone ++ unsent)
  pub sent : edges.sent ≡ Some (before ++ (s.sent ++ gone))
  pub order : (gone ≡ []) ⊎ (unprinted ≡ [])
  pub crash : (image : List ℕ) → leaves image → OpensTo image owner made.node.durable ⊎ ((printed ≡ []) × (gone ≡ []) × OpensTo image owner s.node.durable)

-- whatever run the node stood in, it stopped within the event that makes this of it
abbrev pub Stops : (Served → Served) → (old : Moment) → Edges → Owner → (leaves : List ℕ → Type 0) → Type 0
Stops made old edges owner leaves = (text : List ℕ) (before : List Packet) (s : Served) → Follows text before old s → StopsIn text before edges owner leaves s (made s)

-- it ended early, for a cause, and its devices tell what they told
pub record HasStopped (old : Moment) (edges : Edges) (faults : FaultCounts) (ending : ServeEnd) : Type 0 where
  pub told : TellsAs old.edges edges
  pub later : NoFewer old.faults faults
  pub cause : EndsEarly old.faults faults ending

-- the node ended early, within the event that makes this of the run
pub record Halts (made : Served → Served) (shape : Shape) (me : ℕ) (old : Moment) (edges : Edges) (faults : FaultCounts) (leaves : List ℕ → Type 0) (ending : ServeEnd) : Type 0 where
  pub run : Stops made old edges (owned shape me) leaves
  pub ended : HasStopped old edges faults ending
