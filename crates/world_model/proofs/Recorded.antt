-- What outlives a crash is what the records of a turn leave, whatever the rule.
use Rattle.std.proofs.Common.{◌≡◌, ℕ, ◌+◌, ◌++◌, ◌==◌, length, min, nat_lt, Option, None, Some, Bool, List, [], ◌∷◌, refl, ap, ◌∙◌}
use Rattle.std.proofs.lemmas.Bool.{cond_both}
use Rattle.entry_frames.specs.Durable.{Durable, applied, after}
use Rattle.craft_base.specs.Knowledge.{Beat, Matched}
use Rattle.craft_base.specs.declared.command.Entry.{Entry}
use Rattle.entry_frames.specs.Limits.{last_place}
use Rattle.entry_frames.specs.Records.{Record, Add}
use Rattle.entry_frames.specs.declared.message.Message.{Message}
use Rattle.entry_frames.specs.declared.message.Message.TheVariants as messages
use Rattle.entry_frames.specs.declared.peer.Peer.{Peer}
use Rattle.entry_frames.specs.declared.peer.Peer.TheVariants as peers
use Rattle.entry_frames.specs.declared.role.Role.{Role}
use Rattle.entry_frames.specs.declared.role.Role.TheVariants.{Follower, Candidate, Preparing, Leader}
use Rattle.world_model.specs.Nodes.{Node, node_hearing}
use Rattle.world_model.specs.Rules.Acts.{Act, stays, recording, followed_by, IsRecorded}
use Rattle.world_model.specs.Rules.Append.{act_of_append_as, act_of_entries, act_of_heard_append, act_of_match, act_of_refusal, act_of_suited, act_of_taking, difference, following, has_before, is_clash}
use Rattle.leader_prep.specs.Pages.{Page}
use Rattle.leader_prep.specs.Verdicts.{Source}
use Rattle.world_model.specs.Rules.Answer.{act_of_answer_as, act_of_shown, act_of_source, answer_heard, node_seeing, node_shown, source_at}
use Rattle.world_model.specs.Rules.Ask.{act_of_ask_as}
use Rattle.world_model.specs.Rules.Applying.{act_of_applying, act_of_commit}
use Rattle.kv_apply.specs.Commands.{kept_of}
use Rattle.kv_apply.specs.declared.outcome.Kept.{Kept}
use Rattle.kv_apply.specs.declared.outcome.Kept.TheVariants as keeps
use Rattle.craft_base.specs.declared.command.Reply.TheVariants as replies
use Rattle.craft_base.specs.declared.command.Request.{Request}
use Rattle.world_model.specs.Rules.Call.{act_of_asking, act_of_call_as, act_of_new_request, act_of_reply, act_of_request, applied_heads, is_busy, is_full}
use Rattle.world_model.specs.Rules.Matched.{act_of_matched_as, act_of_next, act_of_progress, act_of_refused_as, commit_of_leader, log_heard}
use Rattle.world_model.specs.Rules.Prepare.{act_of_asking_again, act_of_asking_on, act_of_deciding, act_of_first, act_of_later, act_of_leading, act_of_noop, act_of_preparing, act_of_winning, cursor_at, noop, preparing}
use Rattle.world_model.specs.Rules.Terms.{act_of_higher_term, act_of_term, act_of_lower_term}
use Rattle.world_model.specs.Rules.Say.{act_of_saying}
use Rattle.world_model.specs.Rules.Tick.{act_of_election, act_of_tick_as, act_of_waiting, is_due, waiting_node}
use Rattle.world_model.specs.Rules.Want.{act_of_gathering, act_of_want, want_of, wanting}
use Rattle.world_model.specs.Rules.Vote.{act_of_grant, act_of_vote_from, act_of_vote_refusal, act_of_vote_request, is_grantor}
use Rattle.world_model.specs.Rules.VoteReply.{act_of_count, act_of_vote_reply_as, has_won, vote_heard}
use Rattle.world_model.specs.Turn.{EveryTurnIsRecorded, Event, Tick, Frame, Call, act_of_event, act_of_message, act_of_peer}
use Rattle.world_model.proofs.Wanting.{gathering_keeps, want_keeps}

pub after-append : (d : Durable) (records more : List Record) → after d (records ++ more) ≡ after (after d records) more
after-append d [] more = refl
after-append d (r ∷ records) more = after-append (applied d r) records more

followed_recorded : (n : Node) (act : Act) (rule : Node → Act) → IsRecorded n act → IsRecorded act.node (rule act.node) → IsRecorded n (followed_by act rule)
followed_recorded n act rule first next =
    after-append n.durable act.records (rule act.node).records ∙ ap (λ d. after d (rule act.node).records) first ∙ next

-- ---- the rules

pub term_recorded : (n : Node) (term : ℕ) → IsRecorded n (act_of_term term n)
term_recorded n term =
    cond_both (nat_lt n.durable.term term) (act_of_higher_term term n) (stays n) (IsRecorded n) (λ higher. refl) (λ same. refl)

waiting_recorded : (n : Node) (word : ℕ) → IsRecorded n (act_of_waiting word n)
waiting_recorded n word =
    cond_both (is_due n.volatile.quiet word n.durable.term) (act_of_election n) (stays n) (IsRecorded n) (λ due. refl) (λ early. refl)

asking_again_recorded : (cursor : Option ℕ) (n : Node) → IsRecorded n (act_of_asking_again cursor n)
asking_again_recorded None n = refl
asking_again_recorded (Some cursor) n = refl

gathering_recorded : (n : Node) → IsRecorded n (act_of_gathering n)
gathering_recorded n =
    gathering_keeps n (IsRecorded n) (asking_again_recorded (want_of n) n) (asking_again_recorded (want_of n) (wanting (want_of n) n))

want_recorded : (n : Node) → IsRecorded n (act_of_want n)
want_recorded n = want_keeps n (IsRecorded n) refl (λ leads. asking_again_recorded (want_of n) (wanting (want_of n) n))

tick_as_recorded : (n : Node) (word : ℕ) (role : Role) → IsRecorded n (act_of_tick_as role word n)
tick_as_recorded n word Follower = waiting_recorded (waiting_node n) word
tick_as_recorded n word Candidate = waiting_recorded (waiting_node n) word
tick_as_recorded n word Preparing = asking_again_recorded (cursor_at n) (node_hearing Beat n)
tick_as_recorded n word Leader =
    let now = node_hearing Beat n in
    followed_recorded now (act_of_saying now) act_of_gathering refl (gathering_recorded now)

vote_from_recorded : (n : Node) (candidate : ℕ) (vote : Option ℕ) → IsRecorded n (act_of_vote_from vote candidate n)
vote_from_recorded n candidate None = refl
vote_from_recorded n candidate (Some voted) = refl

vote_request_recorded : (n : Node) (candidate last_term last : ℕ) → IsRecorded n (act_of_vote_request n candidate last_term last)
vote_request_recorded n candidate last_term last =
    cond_both (is_grantor n candidate last_term last) (act_of_grant candidate n) (act_of_vote_refusal candidate n) (IsRecorded n)
    (λ granted. vote_from_recorded n candidate n.durable.vote) (λ refused. refl)

-- the empty entry of a new leader
noop_recorded : (n : Node) → IsRecorded n (act_of_noop n)
noop_recorded n =
    cond_both (nat_lt (length n.durable.log) last_place) (recording (Add (noop n.durable.term)) (stays n)) (stays n) (IsRecorded n) (λ room. refl) (λ full. refl)

leading_recorded : (n : Node) → IsRecorded n (act_of_leading n)
leading_recorded n = noop_recorded n

pub commit_recorded : (index : ℕ) (n : Node) → IsRecorded n (act_of_commit index n)
commit_recorded index n = cond_both (nat_lt n.durable.commit index) (act_of_applying index n) (stays n) (IsRecorded n) (λ grows. refl) (λ same. refl)

-- entries that are taken, and how far they are committed
taking_recorded : (leader prev commit : ℕ) (entries : List Entry) (n : Node) → IsRecorded n (act_of_taking leader prev commit entries n)
taking_recorded leader prev commit entries n =
    let taken = (act_of_entries prev entries n).node in
    let rule = λ (now : Node). followed_by (act_of_commit (min commit (prev + length entries)) now) (act_of_match leader prev (length entries)) in
    followed_recorded n (act_of_entries prev entries n) rule refl
    (followed_recorded taken (act_of_commit (min commit (prev + length entries)) taken) (act_of_match leader prev (length entries))
    (commit_recorded (min commit (prev + length entries)) taken) refl)

suited_recorded : (leader prev commit : ℕ) (entries : List Entry) (n : Node) → IsRecorded n (act_of_suited leader prev commit entries n)
suited_recorded leader prev commit entries n =
    cond_both (is_clash n.durable.commit (difference prev n.durable.log entries)) (stays n) (act_of_taking leader prev commit entries n) (IsRecorded n)
    (λ clash. refl) (λ suits. taking_recorded leader prev commit entries n)

heard_append_recorded : (leader prev prev_term commit : ℕ) (entries : List Entry) (n : Node) → IsRecorded n (act_of_heard_append leader prev prev_term commit entries n)
heard_append_recorded leader prev prev_term commit entries n =
    cond_both (has_before n.durable.log prev prev_term) (act_of_suited leader prev commit entries n) (act_of_refusal leader n) (IsRecorded n)
    (λ has. suited_recorded leader prev commit entries n) (λ lacks. refl)

append_as_recorded : (role : Role) (n : Node) (leader prev prev_term commit : ℕ) (entries : List Entry) → IsRecorded n (act_of_append_as role n leader prev prev_term commit entries)
append_as_recorded Follower n leader prev prev_term commit entries =
    heard_append_recorded leader prev prev_term commit entries (record n { volatile = following leader n })
append_as_recorded Candidate n leader prev prev_term commit entries =
    heard_append_recorded leader prev prev_term commit entries (record n { volatile = following leader n })
append_as_recorded Preparing n leader prev prev_term commit entries = refl
append_as_recorded Leader n leader prev prev_term commit entries = refl

ask_as_recorded : (role : Role) (n : Node) (asker start : ℕ) → IsRecorded n (act_of_ask_as role n asker start)
ask_as_recorded Follower n asker start = refl
ask_as_recorded Candidate n asker start = refl
ask_as_recorded Preparing n asker start = refl
ask_as_recorded Leader n asker start = refl

progress_recorded : (member : ℕ) (n : Node) → IsRecorded n (act_of_progress member n)
progress_recorded member n =
    followed_recorded n (act_of_commit (commit_of_leader n) n) (act_of_next member) (commit_recorded (commit_of_leader n) n) refl

matched_as_recorded : (role : Role) (n : Node) (sender prev count mask : ℕ) → IsRecorded n (act_of_matched_as role n sender prev count mask)
matched_as_recorded Leader n sender prev count mask = progress_recorded sender (node_hearing (log_heard n sender (Matched prev count mask)) n)
matched_as_recorded Follower n sender prev count mask = refl
matched_as_recorded Candidate n sender prev count mask = refl
matched_as_recorded Preparing n sender prev count mask = refl

refused_as_recorded : (role : Role) (n : Node) (sender next : ℕ) → IsRecorded n (act_of_refused_as role n sender next)
refused_as_recorded Leader n sender next = refl
refused_as_recorded Follower n sender next = refl
refused_as_recorded Candidate n sender next = refl
refused_as_recorded Preparing n sender next = refl

first_recorded : (left : Option ℕ) (n : Node) → IsRecorded n (act_of_first left n)
first_recorded None n = leading_recorded n
first_recorded (Some cursor) n = refl

next_recorded : (before left : Option ℕ) (n : Node) → IsRecorded n (act_of_later before left n)
next_recorded before None n = leading_recorded n
next_recorded None (Some cursor) n = refl
next_recorded (Some before) (Some cursor) n =
    cond_both (before == cursor) (stays n) (act_of_asking_on cursor n) (IsRecorded n) (λ same. refl) (λ moved. refl)

winning_recorded : (n : Node) → IsRecorded n (act_of_winning n)
winning_recorded n =
    let now = record n { volatile = preparing n } in
    followed_recorded now (act_of_deciding now) (λ decided. act_of_first (cursor_at decided) decided) refl
    (first_recorded (cursor_at (act_of_deciding now).node) (act_of_deciding now).node)

preparing_recorded : (n : Node) → IsRecorded n (act_of_preparing n)
preparing_recorded n =
    followed_recorded n (act_of_deciding n) (λ decided. act_of_later (cursor_at n) (cursor_at decided) decided) refl
    (next_recorded (cursor_at n) (cursor_at (act_of_deciding n).node) (act_of_deciding n).node)

source_recorded : (index : ℕ) (source : Option Source) (n : Node) → IsRecorded n (act_of_source index source n)
source_recorded index None n = refl
source_recorded index (Some source) n = refl

shown_recorded : (want : Option ℕ) (n : Node) → IsRecorded n (act_of_shown want n)
shown_recorded None n = refl
shown_recorded (Some index) n = source_recorded index (source_at n index) n

answer_as_recorded : (role : Role) (n : Node) (page : Page) → IsRecorded n (act_of_answer_as role n page)
answer_as_recorded Follower n page = refl
answer_as_recorded Candidate n page = refl
answer_as_recorded Preparing n page = preparing_recorded (node_seeing page (node_hearing (answer_heard n page.sender) n))
answer_as_recorded Leader n page = shown_recorded n.volatile.want (node_shown page (node_hearing (answer_heard n page.sender) n))

count_recorded : (n : Node) → IsRecorded n (act_of_count n)
count_recorded n = cond_both (has_won n) (act_of_winning n) (stays n) (IsRecorded n) (λ won. winning_recorded n) (λ waits. refl)

vote_reply_as_recorded : (n : Node) (sender : ℕ) (granted : Bool) (role : Role) → IsRecorded n (act_of_vote_reply_as role n sender granted)
vote_reply_as_recorded n sender granted Follower = refl
vote_reply_as_recorded n sender granted Candidate = count_recorded (node_hearing (vote_heard n sender granted) n)
vote_reply_as_recorded n sender granted Preparing = refl
vote_reply_as_recorded n sender granted Leader = refl

peer_recorded : (n : Node) (sender : ℕ) (body : Peer) → IsRecorded n (act_of_peer n sender body)
peer_recorded n sender (peers.Vote last_term last) = vote_request_recorded n sender last_term last
peer_recorded n sender (peers.VoteReply granted) = vote_reply_as_recorded n sender granted n.volatile.role
peer_recorded n sender (peers.Append prev prev_term commit entries) = append_as_recorded n.volatile.role n sender prev prev_term commit entries
peer_recorded n sender (peers.Matched prev count mask) = matched_as_recorded n.volatile.role n sender prev count mask
peer_recorded n sender (peers.Refused next) = refused_as_recorded n.volatile.role n sender next
peer_recorded n sender (peers.Ask start) = ask_as_recorded n.volatile.role n sender start
peer_recorded n sender (peers.Answer start last slots) =
    answer_as_recorded n.volatile.role n (record { sender = sender; start = start; last = last; slots = slots })

message_recorded : (m : Message) (n : Node) → IsRecorded n (act_of_message m n)
message_recorded (messages.Peer sender receiver term body) n =
    cond_both (nat_lt term n.durable.term) (act_of_lower_term n sender body) (followed_by (act_of_term term n) (λ now. act_of_peer now sender body)) (IsRecorded n)
    (λ lower. refl)
    (λ current. followed_recorded n (act_of_term term n) (λ now. act_of_peer now sender body) (term_recorded n term) (peer_recorded (act_of_term term n).node sender body))
message_recorded (messages.Request receiver request) n = refl
message_recorded (messages.Answered sender client seq reply) n = refl

-- a request is recorded where it is added, and an answer isn't
new_request_recorded : (place : ℕ) (r : Request) (n : Node) → IsRecorded n (act_of_new_request place r n)
new_request_recorded place r n =
    cond_both (is_full n.durable.log) (act_of_reply place r replies.Full n) _ (IsRecorded n) (λ full. refl)
    (λ room. cond_both (is_busy n.durable.commit n.durable.log) (act_of_reply place r replies.Busy n) (act_of_asking place r n) (IsRecorded n) (λ busy. refl) (λ free. refl))

request_recorded : (place : ℕ) (r : Request) (kept : Kept) (n : Node) → IsRecorded n (act_of_request place r kept n)
request_recorded place r keeps.New n = new_request_recorded place r n
request_recorded place r (keeps.Same outcome) n = refl
request_recorded place r keeps.Old n = refl

call_as_recorded : (role : Role) (place : ℕ) (r : Request) (n : Node) → IsRecorded n (act_of_call_as role place r n)
call_as_recorded Follower place r n = refl
call_as_recorded Candidate place r n = refl
call_as_recorded Preparing place r n = refl
call_as_recorded Leader place r n = request_recorded place r (kept_of r.client r.seq (applied_heads n)) n

pub event_recorded : (event : Event) (n : Node) → IsRecorded n (act_of_event event n)
event_recorded (Tick word) n = tick_as_recorded n word n.volatile.role
event_recorded (Frame m) n = message_recorded m n
event_recorded (Call place request) n = call_as_recorded n.volatile.role place request n

pub every_turn_is_recorded : EveryTurnIsRecorded
every_turn_is_recorded event n =
    followed_recorded n (act_of_event event n) act_of_want (event_recorded event n) (want_recorded (act_of_event event n).node)
