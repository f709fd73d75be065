-- Why a run of a node ends: each fault has a device that failed.
use Rattle.std.specs.Prelude.{ℕ, ◌≤◌}
use Rattle.craft_edge.specs.Causes.{Rose}
use Rattle.net_node.specs.declared.serve_end.ServeEnd.{ServeEnd}
use Rattle.net_node.specs.declared.serve_end.ServeEnd.TheVariants.{Turns, SinkFault, DiskFault, LinkFault, NoMemory}

-- how often each device of a node has failed
pub record FaultCounts : Type 0 where
  pub sink : ℕ
  pub disk : ℕ
  pub link : ℕ

-- no count fell
pub record NoFewer (before now : FaultCounts) : Type 0 where
  pub sink : before.sink ≤ now.sink
  pub disk : before.disk ≤ now.disk
  pub link : before.link ≤ now.link

-- the run ended early, by a device whose count of faults rose since those counts, or for want of memory
abbrev pub EndsEarly : (before now : FaultCounts) → ServeEnd → Type 0
EndsEarly before now Turns = ⊥
EndsEarly before now SinkFault = Rose before.sink now.sink
EndsEarly before now DiskFault = Rose before.disk now.disk
EndsEarly before now LinkFault = Rose before.link now.link
EndsEarly before now NoMemory = Unit {0}

-- the run made all of its turns, or it ended early
abbrev pub HasEnded : (before now : FaultCounts) → ServeEnd → Type 0
HasEnded before now Turns = Unit {0}
HasEnded before now ending = EndsEarly before now ending
