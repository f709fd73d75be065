-- A member over its journal.
use Rattle.std.specs.Prelude.{ℕ, Bool, List, None, Some, Option, ⊤}
use Rattle.craft_edge.specs.Disk.{WhereTold, OnlySeen}
use Rattle.entry_frames.specs.Durable.{Durable}
use Rattle.node_core.specs.Stands.{Kept, Stands}
use Rattle.synced_log.specs.declared.owner.Owner.{Owner}
use Rattle.synced_log.specs.Journal.{owned}
use Rattle.synced_log.specs.States.{HoldsTo, OpensTo}
use Rattle.world_model.specs.Nodes.{Node}

-- what contracts see of it: the member as it runs, its disk, and the offset of the journal's closed gate
pub record Standing (D : Type 0) : Type 0 where
  pub core : Kept
  pub disk : D
  pub gate : ℕ

-- whose journal it is
abbrev pub owner_of : Kept → Owner
owner_of core = owned core.shape core.me

-- there is a node for which the member stands
abbrev pub HasNode : Kept → Type 0
HasNode core = (n : Node) × Stands core n

-- where the disk tells what a read gives: the file is the member's journal, whose groups leave what the member keeps
abbrev pub IsKept : Option (List ℕ) → ℕ → Kept → Type 0
IsKept None gate core = ⊤
IsKept (Some file) gate core = HoldsTo file gate (owner_of core) core.durable

-- where the disk tells what a read gives: each image that a crash may leave opens to this state for this owner
abbrev pub AllOpenTo : Option (List ℕ) → (List ℕ → Type 0) → Owner → Durable → Type 0
AllOpenTo None may_leave o d = ⊤
AllOpenTo (Some file) may_leave o d = (image : List ℕ) → may_leave image → OpensTo image o d

-- the journal is what the member keeps, and all that a crash leaves is what a read gives
pub record IsUpheld (tells_crash : Bool) (seen : Option (List ℕ)) (may_leave : List ℕ → Type 0) (gate : ℕ) (core : Kept) : Type 0 where
  pub node : HasNode core
  pub kept : IsKept seen gate core
  pub durable : WhereTold tells_crash (OnlySeen seen may_leave)
