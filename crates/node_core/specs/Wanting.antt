-- What a leader wants, and how it has it.
use Rattle.std.specs.Prelude.{◌≡◌, ℕ, List, [], ◌∷◌, filter, Bool, ◌==◌, Option}
use Rattle.craft_base.specs.declared.command.Entry.{Entry}
use Rattle.entry_frames.specs.Records.{Whole}
use Rattle.leader_prep.specs.Pages.{Page}
use Rattle.world_model.specs.Nodes.{Node}
use Rattle.world_model.specs.Rules.Acts.{Act, answering, keeping, stays}
use Rattle.world_model.specs.Rules.Answer.{act_of_having, act_of_shown, having, node_shown, values_told}
use Rattle.world_model.specs.Rules.Say.{start_of}
use Rattle.world_model.specs.Rules.Want.{is_part_at, least, want_of}
use Rattle.node_core.specs.declared.member.Member.{Member}
use Rattle.node_core.specs.Acting.{IsNode, MayRecord, StartsInRange}

-- the least of some indexes that a log holds as a part, if there is one
abbrev pub wanted_among : List Entry → List ℕ → Option ℕ
wanted_among log indexes = least (filter (is_part_at log) indexes)

-- it is the want of whatever node the member stands for
abbrev pub IsWant : Member → Option ℕ → Type 0
IsWant m want = (n : Node) → IsNode m n → want ≡ want_of n

-- ---- a page

-- what a leader makes of a page once it has heard of it
abbrev pub shown_act : Page → Node → Act
shown_act page n = act_of_shown n.volatile.want (node_shown page n)

-- ---- a value that is had

-- nobody waits for it any more, and nothing is wanted
abbrev pub having_node : ℕ → Node → Node
having_node index n = record n { volatile = having index n.volatile }

-- those who wait for it are told
abbrev pub value_act : ℕ → List ℕ → Node → Act
value_act index value n = answering (values_told index value n.volatile.reads) (keeping (having index n.volatile) (stays n))

-- whether a member is sent entries from that index on
abbrev pub is_lacking : ℕ → Node → ℕ → Bool
is_lacking index n member = start_of n member == index

-- the value may be recorded at that index, and the leader then sends from places of its log
pub record MayHave (index : ℕ) (value : List ℕ) (m : Member) : Type 0 where
  pub node : Node
  pub is : IsNode m node
  pub may : MayRecord m (Whole index value ∷ [])
  pub starts : StartsInRange (act_of_having index value node).node
