-- What a run of a node leaves.
use Rattle.std.specs.Prelude.{◌≡◌, ℕ, ◌≤◌, suc, min, List, ◌∷◌, ◌++◌, Some}
use Rattle.craft_base.specs.Shape.{Shape}
use Rattle.craft_edge.specs.Packets.{Packet}
use Rattle.craft_edge.specs.Readings.{after_reading}
use Rattle.synced_log.specs.Journal.{owned}
use Rattle.synced_log.specs.States.{OpensTo}
use Rattle.synced_log.specs.declared.owner.Owner.{Owner}
use Rattle.world_model.specs.Nodes.{Node}
use Rattle.net_node.specs.Ends.{FaultCounts}
use Rattle.net_node.specs.NodeRun.{Served, node_run, opened}
use Rattle.net_node.specs.Serving.{Edges, Follows, HasStopped, Moment, StopsIn}
use Rattle.net_node.specs.declared.serve_end.ServeEnd.{ServeEnd}

-- Where a clock, a link and a sink tell what they have: a fact of the run with which the node begins over it, behind what was
-- written and sent before. The clock's first reading is the one before the first turn.
abbrev pub WhereRun : Node → (seed : ℕ) → Edges → (List ℕ → List Packet → Served → Type 0) → Type 0
WhereRun n seed edges Fact =
    (shown : ℕ) (later : List ℕ) (packets sent : List Packet) (text : List ℕ) → edges.readings ≡ Some (shown ∷ later)
    → edges.coming ≡ Some packets → edges.sent ≡ Some sent → edges.taken ≡ Some text
    → Fact text sent (opened n seed (after_reading (shown ∷ later)) shown packets)

-- What the run left is still to come, just what it sends was sent, and just what it prints was written. Each image that a crash may
-- leave opens to its state.
pub record IsLeft (text : List ℕ) (before : List Packet) (edges : Edges) (owner : Owner) (leaves : List ℕ → Type 0) (s : Served) : Type 0 where
  pub readings : edges.readings ≡ Some s.readings
  pub coming : edges.coming ≡ Some s.packets
  pub sent : edges.sent ≡ Some (before ++ s.sent)
  pub taken : edges.taken ≡ Some (text ++ s.lines)
  pub crash : (image : List ℕ) → leaves image → OpensTo image owner s.node.durable

-- the run stopped within one of its turns: all the earlier ones were made. Where it has no turn it stopped before the first.
pub record StopsAmong (places : List ℕ) (turns : ℕ) (text : List ℕ) (before : List Packet) (edges : Edges) (owner : Owner) (leaves : List ℕ → Type 0) (s : Served) : Type 0 where
  pub turn : ℕ
  pub within : turn ≤ turns
  pub stops : StopsIn text before edges owner leaves (node_run places turn s) (node_run places (min (suc turn) turns) s)

-- the node ended early, within one of so many turns of whatever run it stood in
pub record HaltsAmong (places : List ℕ) (turns : ℕ) (shape : Shape) (me : ℕ) (old : Moment) (edges : Edges) (faults : FaultCounts) (leaves : List ℕ → Type 0) (ending : ServeEnd) : Type 0 where
  pub run : (text : List ℕ) (before : List Packet) (s : Served) → Follows text before old s → StopsAmong places turns text before edges (owned shape me) leaves s
  pub ended : HasStopped old edges faults ending
