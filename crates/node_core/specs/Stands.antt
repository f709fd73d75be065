-- When a running member stands for a node of the definitions.
use Rattle.std.specs.Prelude.{◌≡◌, ℕ, ◌≤◌, List, Option, None, Some}
use Rattle.craft_base.specs.Shape.{Shape}
use Rattle.craft_base.specs.declared.command.Entry.{Entry}
use Rattle.entry_frames.specs.Durable.{Durable}
use Rattle.entry_frames.specs.declared.role.Role.{Role}
use Rattle.entry_frames.specs.declared.role.Role.TheVariants.{Follower, Candidate, Preparing, Leader}
use Rattle.gather_read.specs.Standing as gathering
use Rattle.gather_read.specs.declared.gather.Gather.{Gather}
use Rattle.heard_book.specs.Kept as known
use Rattle.leader_prep.specs.Pages.{Page}
use Rattle.leader_prep.specs.Standing as preparation
use Rattle.leader_prep.specs.declared.prep.Prep.{Prep}
use Rattle.world_model.specs.Nodes.{Node}
use Rattle.world_model.specs.Rules.Prepare.{cursor_at}
use Rattle.world_model.specs.Rules.Want.{part_at}
use Rattle.world_model.specs.declared.call.Called.{Called}

-- what is kept of a member: all that a node has, and in place of all that it heard and was shown what it knows by it
pub record Kept : Type 0 where
  pub shape : Shape
  pub me : ℕ
  pub durable : Durable
  pub role : Role
  pub quiet : ℕ
  pub hint : Option ℕ
  pub heard : known.Kept
  pub prep : Option Prep
  pub gather : Option Gather
  pub calls : List Called
  pub reads : List Called

-- who prepares has a preparation that stands for all that it was shown, and has that cursor
abbrev pub IsShown : Role → Option Prep → Shape → (me : ℕ) → List Page → (cursor : Option ℕ) → Type 0
IsShown Preparing (Some prep) shape me pages cursor = preparation.Stands prep shape me pages cursor
IsShown Preparing None shape me pages cursor = ⊥
IsShown Follower prep shape me pages cursor = Unit {0}
IsShown Candidate prep shape me pages cursor = Unit {0}
IsShown Leader prep shape me pages cursor = Unit {0}

-- what is wanted is an index that the log holds as a part, and what is kept stands for that part and for these pages
pub record IsWanted (gather : Gather) (shape : Shape) (me : ℕ) (log : List Entry) (pages : List Page) (want : Option ℕ) : Type 0 where
  pub index : ℕ
  pub own : Entry
  pub wants : want ≡ Some index
  pub part : part_at log index ≡ Some own
  pub stands : gathering.Stands gather shape me index own pages

-- a leader keeps what it was shown of what it wants, if it wants something
abbrev pub IsGathering : Role → Option Gather → Shape → (me : ℕ) → List Entry → List Page → (want : Option ℕ) → Type 0
IsGathering Leader None shape me log pages want = want ≡ None
IsGathering Leader (Some gather) shape me log pages want = IsWanted gather shape me log pages want
IsGathering Follower gather shape me log pages want = Unit {0}
IsGathering Candidate gather shape me log pages want = Unit {0}
IsGathering Preparing gather shape me log pages want = Unit {0}

-- the member is that node, as far as it keeps it: what it knows stands for what the node heard, and tells who holds which entry whole
-- above the commit index at least; and what it was shown, for the node's pages
pub record Stands (core : Kept) (n : Node) : Type 0 where
  pub of_shape : core.shape ≡ n.shape
  pub of_me : core.me ≡ n.me
  pub of_durable : core.durable ≡ n.durable
  pub of_role : core.role ≡ n.volatile.role
  pub of_quiet : core.quiet ≡ n.volatile.quiet
  pub of_hint : core.hint ≡ n.volatile.hint
  pub of_heard : known.Stands core.heard n.shape n.volatile.heard n.volatile.first
  pub settled : core.heard.window.settled ≤ n.durable.commit
  pub of_prep : IsShown core.role core.prep n.shape n.me n.volatile.pages (cursor_at n)
  pub of_gather : IsGathering core.role core.gather n.shape n.me n.durable.log n.volatile.pages n.volatile.want
  pub of_calls : core.calls ≡ n.volatile.calls
  pub of_reads : core.reads ≡ n.volatile.reads
