-- A member of the cluster as it runs.
use Rattle.std.specs.Prelude.{ℕ, List, [], ◌∷◌, Option, None}
use Rattle.craft_base.specs.Knowledge.{Heard}
use Rattle.craft_base.specs.Shape.{Shape}
use Rattle.entry_frames.specs.Durable.{Durable}
use Rattle.entry_frames.specs.declared.role.Role.{Role}
use Rattle.entry_frames.specs.declared.role.Role.TheVariants.{Follower}
use Rattle.leader_prep.specs.Pages.{Page}
use Rattle.world_model.specs.declared.call.Called.{Called}

-- what a crash loses
pub record Volatile : Type 0 where
  pub role : Role
  -- how many ticks have come since a leader or a candidate was heard
  pub quiet : ℕ
  -- who leads this term, as far as is known
  pub hint : Option ℕ
  -- all that was heard in this term, the latest first
  pub heard : List Heard
  -- the index from which on a leader sends to a member of whose log it knows nothing
  pub first : ℕ
  -- what others have shown of their logs while it prepares to lead, or while as a leader it wants a value, the latest first
  pub pages : List Page
  -- the requests that it added to its log as a leader and that aren't applied yet
  pub calls : List Called
  -- the requests that were applied and found a version of whose value it holds a part alone, each with that version as its index,
  -- in order of clients; a client has at most one
  pub reads : List Called
  -- the index whose value it wants as a leader, if there is one
  pub want : Option ℕ

-- a member: what outlives a crash is its durable part, and nothing else does
pub record Node : Type 0 where
  pub shape : Shape
  pub me : ℕ
  pub durable : Durable
  pub volatile : Volatile

-- what a crash has just lost: nothing was heard, and nobody is known to lead
abbrev pub fresh : Volatile
fresh = record { role = Follower; quiet = 0; hint = None; heard = []; first = 0; pages = []; calls = []; reads = []; want = None }

abbrev pub node_with : Shape → ℕ → Durable → Volatile → Node
node_with shape me durable volatile = record { shape = shape; me = me; durable = durable; volatile = volatile }

-- a member that has just started over what outlived its last run
abbrev pub started : Shape → ℕ → Durable → Node
started shape me durable = node_with shape me durable fresh

-- the node with one more thing heard
abbrev pub node_hearing : Heard → Node → Node
node_hearing item n = record n { volatile = record n.volatile { heard = item ∷ n.volatile.heard } }
