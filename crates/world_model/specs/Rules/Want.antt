-- Want: a leader that holds an entry in part alone, and needs its value, asks the others what they hold of it. It wants one value at
-- a time, the first that a client or another member waits for.
use Rattle.std.specs.Prelude.{ℕ, List, [], ◌∷◌, ◌++◌, map, filter, Bool, true, false, ◌==◌, if◌then◌else◌, Option, None, Some, is_some}
use Rattle.craft_base.specs.Knowledge.{least_of}
use Rattle.craft_base.specs.declared.command.Entry.{Entry}
use Rattle.entry_frames.specs.Logs.{entry_at}
use Rattle.entry_frames.specs.declared.role.Role.{Role}
use Rattle.entry_frames.specs.declared.role.Role.TheVariants.{Follower, Candidate, Preparing, Leader}
use Rattle.leader_prep.specs.Decisions.{if_part}
use Rattle.world_model.specs.Nodes.{Node}
use Rattle.world_model.specs.Rules.Acts.{Act, stays, others}
use Rattle.world_model.specs.Rules.Prepare.{act_of_asking_again}
use Rattle.world_model.specs.Rules.Say.{start_of}

-- ---- what is wanted

-- the entry at an index of a log, where it is a part
abbrev pub part_at : List Entry → ℕ → Option Entry
part_at log index = if_part (entry_at log index)

abbrev pub is_part_at : List Entry → ℕ → Bool
is_part_at log index = is_some (part_at log index)

-- the indexes whose value somebody waits for: the versions of the reads, and of each other member that from which on it is sent
-- entries
abbrev pub needed : Node → List ℕ
needed n = map (λ r. r.index) n.volatile.reads ++ map (start_of n) (others n)

abbrev pub least : List ℕ → Option ℕ
least [] = None
least (index ∷ indexes) = least_of (Some index) (least indexes)

-- the want of a leader: the least of them that it holds as a part, if there is one
abbrev pub want_of : Node → Option ℕ
want_of n = least (filter (is_part_at n.durable.log) (needed n))

abbrev pub is_same_want : Option ℕ → Option ℕ → Bool
is_same_want None None = true
is_same_want (Some one) (Some other) = one == other
is_same_want _ _ = false

-- ---- the rule

-- it wants that now, and nothing was shown of it yet
abbrev pub wanting : Option ℕ → Node → Node
wanting want n = record n { volatile = record n.volatile { want = want; pages = [] } }

-- all others are asked
abbrev pub act_of_new_want : Option ℕ → Node → Act
act_of_new_want want n = act_of_asking_again want (wanting want n)

-- on a tick they are asked in any case
abbrev pub act_of_gathering : Node → Act
act_of_gathering n = if is_same_want n.volatile.want (want_of n) then act_of_asking_again (want_of n) n else act_of_new_want (want_of n) n

-- at the end of each turn they are asked where the leader wants another value than before
abbrev pub act_of_want_as : Role → Node → Act
act_of_want_as Leader n = if is_same_want n.volatile.want (want_of n) then stays n else act_of_new_want (want_of n) n
act_of_want_as Follower n = stays n
act_of_want_as Candidate n = stays n
act_of_want_as Preparing n = stays n

abbrev pub act_of_want : Node → Act
act_of_want n = act_of_want_as n.volatile.role n
