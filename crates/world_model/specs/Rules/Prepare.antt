-- Prepare: who has won its term makes whole what it holds as parts above its commit index, or removes it, and then leads. It adds an
-- empty entry of the term, since by counting it commits entries of its own term alone, and all before it with them.
use Rattle.std.specs.Prelude.{ℕ, ◌+◌, List, [], ◌++◌, map, not, ◌==◌, if◌then◌else◌, nat_lt, length, Option, None, Some}
use Rattle.std.specs.List.{filter}
use Rattle.std.specs.Option.{option_to_list}
use Rattle.craft_base.specs.declared.command.Entry.{Entry}
use Rattle.craft_base.specs.declared.command.Form.TheVariants as forms
use Rattle.craft_base.specs.declared.command.Op.TheVariants as ops
use Rattle.entry_frames.specs.Limits.{last_place}
use Rattle.entry_frames.specs.Records.{Record, Add, Cut, Whole}
use Rattle.entry_frames.specs.declared.peer.Peer.TheVariants as peers
use Rattle.entry_frames.specs.declared.role.Role.TheVariants.{Preparing, Leader}
use Rattle.leader_prep.specs.Decisions.{Decision, Rebuilt, cursor_of, decision}
use Rattle.leader_prep.specs.Pages.{covers}
use Rattle.leader_prep.specs.Solutions.{value_of}
use Rattle.world_model.specs.Nodes.{Node, Volatile}
use Rattle.world_model.specs.Rules.Acts.{Act, stays, recording, recording_all, keeping, sending, followed_by, message_of, messages_to_others, others}
use Rattle.world_model.specs.Rules.Say.{appends_to_others}

-- ---- what is decided

-- the least index above the commit index that the node holds as a part, if there is one: what is to be decided next
abbrev pub cursor_at : Node → Option ℕ
cursor_at n = cursor_of n.durable.commit n.durable.log

abbrev pub decision_at : Node → Decision
decision_at n = decision n.shape n.me n.volatile.pages n.durable.commit n.durable.log

abbrev pub whole_record : Rebuilt → Record
whole_record rebuilt = Whole rebuilt.index (value_of rebuilt.source)

-- what is had becomes whole, and the log is cut where nobody can have committed more
abbrev pub decided_records : Decision → List Record
decided_records decided = map whole_record decided.rebuilt ++ map Cut (option_to_list decided.cut)

abbrev pub act_of_deciding : Node → Act
act_of_deciding n = recording_all (decided_records (decision_at n)) (stays n)

-- ---- where nothing is left to decide

-- an entry that asks for nothing
abbrev pub noop : ℕ → Entry
noop term = record { term = term; head = record { client = 0; seq = 0; op = ops.Noop; key = []; vlen = 0 }; form = forms.Whole [] }

-- the empty entry of the term, where the log has room for one
abbrev pub act_of_noop : Node → Act
act_of_noop n = if nat_lt (length n.durable.log) last_place then recording (Add (noop n.durable.term)) (stays n) else stays n

-- the leader of its term: it sends to a member of whose log it knows nothing from behind what it had
abbrev pub leading : Node → Volatile
leading n = record n.volatile { role = Leader; hint = Some n.me; first = length n.durable.log + 1; pages = []; want = None }

abbrev pub act_of_beginning : Node → Act
act_of_beginning n = keeping (leading n) (act_of_noop n)

abbrev pub act_of_leading : Node → Act
act_of_leading n = sending (appends_to_others (act_of_beginning n).node) (act_of_beginning n)

-- ---- where something is left

-- the others are asked what they hold from the cursor on
abbrev pub act_of_asking_all : ℕ → Node → Act
act_of_asking_all cursor n = sending (messages_to_others n (peers.Ask cursor)) (stays n)

-- the others are asked for an index again, if there is one
abbrev pub act_of_asking_again : Option ℕ → Node → Act
act_of_asking_again None n = stays n
act_of_asking_again (Some index) n = act_of_asking_all index n

-- the other members that don't cover the cursor, in order
abbrev pub uncovering : Node → ℕ → List ℕ
uncovering n cursor = filter (λ member. not (covers n.me n.volatile.pages cursor member)) (others n)

abbrev pub act_of_asking_on : ℕ → Node → Act
act_of_asking_on cursor n = sending (map (message_of n (peers.Ask cursor)) (uncovering n cursor)) (stays n)

-- ---- the rule

-- a node that has just won
abbrev pub act_of_first : Option ℕ → Node → Act
act_of_first None n = act_of_leading n
act_of_first (Some cursor) n = act_of_asking_all cursor n

-- a node that prepares, and had that cursor before: where the cursor moved, it asks on
abbrev pub act_of_later : (before left : Option ℕ) → Node → Act
act_of_later before None n = act_of_leading n
act_of_later None (Some cursor) n = stays n
act_of_later (Some before) (Some cursor) n = if before == cursor then stays n else act_of_asking_on cursor n

abbrev pub preparing : Node → Volatile
preparing n = record n.volatile { role = Preparing; pages = [] }

-- a candidate that has won
abbrev pub act_of_winning : Node → Act
act_of_winning n =
    let now = record n { volatile = preparing n } in
    followed_by (act_of_deciding now) (λ decided. act_of_first (cursor_at decided) decided)

-- a node that prepares, once it has seen more
abbrev pub act_of_preparing : Node → Act
act_of_preparing n = followed_by (act_of_deciding n) (λ decided. act_of_later (cursor_at n) (cursor_at decided) decided)
