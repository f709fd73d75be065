-- What it is for a rule, an event and a run of the world to be moves of the protocol.
use Rattle.std.specs.Prelude.{◌≡◌, ◌≢◌, ℕ, zero, suc, List, ◌++◌, All, take}
use Rattle.craft_base.specs.Shape.{Shape}
use Rattle.entry_frames.specs.Durable.{Durable}
use Rattle.world_model.specs.Rules.Acts.{Act}
use Rattle.world_model.specs.Traces.{Proposal, leader_commits_in, proposals_in, removals_in}
use Rattle.world_model.specs.World.{World, run_from}
use Rattle.world_model.specs.declared.line.Line.{Line}
use Rattle.protocol.specs.History.{History}
use Rattle.protocol.specs.Moves.{Moves}
use Rattle.protocol.specs.Growth.{Untouched}
use Rattle.bridge.specs.Traced.{AllStand, CommitAgrees, MessageStands, PageStands, ProposalAgrees, RemovalAgrees, holder}
use Rattle.bridge.specs.Agreement.{MessageAgrees, NodeAgrees, WorldAgrees}

-- moves of one member alone, from one history to another
pub record OwnMoves (F member : ℕ) (g h : History) : Type 0 where
  pub run : Moves F g h
  pub others : (k : ℕ) → k ≢ member → Untouched g h k

-- from that history there are moves of one member alone, after which what a rule made of its node agrees
pub record ActBridged (shape : Shape) (g : History) (member : ℕ) (act : Act) : Type 0 where
  pub history : History
  pub moves : OwnMoves shape.faults member g history
  pub node : NodeAgrees shape history member act.node
  pub sends : All (MessageAgrees history) act.sends

-- What an act of a member that had this durable state proposes, removes and commits agrees with the history. Once what it proposes is
-- in the book, each entry of its log stands there, and each that it saw of others' logs and that it sends.
pub record ActTraced (shape : Shape) (h : History) (book : List Proposal) (event member : ℕ) (before : Durable) (act : Act) : Type 0 where
  pub proposals : All (ProposalAgrees h) (proposals_in event act.node.volatile.role before act.records)
  pub removals : All (RemovalAgrees h) (removals_in event member before act.records)
  pub commits : All (CommitAgrees h) (leader_commits_in event act.node.volatile.role before act.records)
  pub log : AllStand (holder shape member) (book ++ proposals_in event act.node.volatile.role before act.records) 1 act.node.durable.log
  pub pages : All (PageStands shape (book ++ proposals_in event act.node.volatile.role before act.records)) act.node.volatile.pages
  pub sends : All (MessageStands shape (book ++ proposals_in event act.node.volatile.role before act.records)) act.sends

-- an act that is bridged and, whatever the number of its event, traced
pub record TurnBridged (shape : Shape) (g : History) (book : List Proposal) (member : ℕ) (before : Durable) (act : Act) : Type 0 where
  pub bridged : ActBridged shape g member act
  pub traced : (event : ℕ) → ActTraced shape bridged.history book event member before act

-- from that history there are moves after which the world agrees
pub record WorldBridged (shape : Shape) (g : History) (w : World) : Type 0 where
  pub history : History
  pub moves : Moves shape.faults g history
  pub agrees : WorldAgrees shape history w

-- A history for each front of the events: that one before the first event, and then each made of the one before by moves, and
-- agreeing with the world that the events up to there make of this one.
pub record RunBridged (shape : Shape) (g : History) (w : World) (events : List Line) : Type 0 where
  pub history : ℕ → History
  pub first : history zero ≡ g
  pub moves : (count : ℕ) → Moves shape.faults (history count) (history (suc count))
  pub agrees : (count : ℕ) → WorldAgrees shape (history count) (run_from w (take count events))
