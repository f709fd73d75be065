-- Answer: a node sees what another member holds. One that prepares decides what it can by it; a leader that wants a value has it once
-- the others have shown enough, and gives it to those who wait for it.
use Rattle.std.specs.Prelude.{ℕ, List, [], map, filter, not, ◌==◌, Option, None, Some}
use Rattle.craft_base.specs.Knowledge.{Heard, From, Answered}
use Rattle.craft_base.specs.declared.command.Entry.{Entry}
use Rattle.craft_base.specs.declared.command.Reply.TheVariants as replies
use Rattle.entry_frames.specs.Logs.{last_index}
use Rattle.entry_frames.specs.Records.{Whole}
use Rattle.entry_frames.specs.declared.role.Role.{Role}
use Rattle.entry_frames.specs.declared.role.Role.TheVariants.{Follower, Candidate, Preparing, Leader}
use Rattle.gather_read.specs.Gathered.{gathered}
use Rattle.leader_prep.specs.Pages.{Page, joined}
use Rattle.leader_prep.specs.Solutions.{value_of}
use Rattle.leader_prep.specs.Verdicts.{Source}
use Rattle.world_model.specs.Nodes.{Node, Volatile, node_hearing}
use Rattle.world_model.specs.Rules.Acts.{Act, stays, recording, keeping, answering, sending, followed_by, others}
use Rattle.world_model.specs.Rules.Applying.{reply_to}
use Rattle.world_model.specs.Rules.Prepare.{act_of_preparing, cursor_at}
use Rattle.world_model.specs.Rules.Say.{append_to, start_of}
use Rattle.world_model.specs.Rules.Want.{part_at}
use Rattle.world_model.specs.declared.call.Called.{Called}
use Rattle.world_model.specs.declared.call.ClientReply.{ClientReply}

-- that a member answered, as it is heard
abbrev pub answer_heard : Node → (sender : ℕ) → Heard
answer_heard n sender = From sender (last_index n.durable.log) Answered

-- ---- a node that prepares

-- the page joins what was shown, where it begins at or before the cursor
abbrev pub node_seeing : Page → Node → Node
node_seeing page n = record n { volatile = record n.volatile { pages = joined (cursor_at n) page n.volatile.pages } }

abbrev pub act_of_page : Page → Node → Act
act_of_page page n = act_of_preparing (node_seeing page (node_hearing (answer_heard n page.sender) n))

-- ---- a leader

-- the page joins what was shown, where it begins at or before the index that is wanted
abbrev pub node_shown : Page → Node → Node
node_shown page n = record n { volatile = record n.volatile { pages = joined n.volatile.want page n.volatile.pages } }

-- the reads of a version, in order of clients
abbrev pub readers : (version : ℕ) → List Called → List Called
readers version reads = filter (λ r. r.index == version) reads

-- they are answered, and what was wanted is had
abbrev pub having : ℕ → Volatile → Volatile
having index volatile =
    record volatile { reads = filter (λ r. not (r.index == index)) volatile.reads; want = None; pages = [] }

abbrev pub values_told : ℕ → List ℕ → List Called → List ClientReply
values_told index value reads = map (λ r. reply_to r (replies.Value index value)) (readers index reads)

abbrev pub act_of_having : ℕ → List ℕ → Node → Act
act_of_having index value n =
    answering (values_told index value n.volatile.reads) (keeping (having index n.volatile) (recording (Whole index value) (stays n)))

-- the other members that are sent entries from that index on, in order
abbrev pub lacking : ℕ → Node → List ℕ
lacking index n = filter (λ member. start_of n member == index) (others n)

abbrev pub act_of_supplying : ℕ → Node → Act
act_of_supplying index n = sending (map (append_to n) (lacking index n)) (stays n)

abbrev pub act_of_value : ℕ → List ℕ → Node → Act
act_of_value index value n = followed_by (act_of_having index value n) (act_of_supplying index)

-- where the value of the part that stands there is had from, if it is
abbrev pub source_of_part : Node → ℕ → Option Entry → Option Source
source_of_part n index None = None
source_of_part n index (Some own) = gathered n.shape n.me index own n.volatile.pages

abbrev pub source_at : Node → ℕ → Option Source
source_at n index = source_of_part n index (part_at n.durable.log index)

abbrev pub act_of_source : ℕ → Option Source → Node → Act
act_of_source index None n = stays n
act_of_source index (Some source) n = act_of_value index (value_of source) n

abbrev pub act_of_shown : Option ℕ → Node → Act
act_of_shown None n = stays n
act_of_shown (Some index) n = act_of_source index (source_at n index) n

abbrev pub act_of_gathered : Page → Node → Act
act_of_gathered page n = act_of_shown n.volatile.want (node_shown page (node_hearing (answer_heard n page.sender) n))

-- ---- the rule

abbrev pub act_of_answer_as : Role → Node → Page → Act
act_of_answer_as Preparing n page = act_of_page page n
act_of_answer_as Leader n page = act_of_gathered page n
act_of_answer_as Follower n page = stays n
act_of_answer_as Candidate n page = stays n

abbrev pub act_of_answer : Node → (sender start last : ℕ) → (slots : List Entry) → Act
act_of_answer n sender start last slots =
    act_of_answer_as n.volatile.role n (record { sender = sender; start = start; last = last; slots = slots })
