-- Whoever prepares waits, after each turn.
use Rattle.std.proofs.Common.{◌≡◌, ℕ, ◌+◌, ◌==◌, nat_lt, min, false, Bool, List, length, Option, None, Some, refl, sym, subst}
use Rattle.std.proofs.lemmas.Bool.{cond_both}
use Rattle.craft_base.specs.Knowledge.{Beat, Matched}
use Rattle.craft_base.specs.Shape.{Shape}
use Rattle.craft_base.specs.declared.command.Entry.{Entry}
use Rattle.craft_base.specs.declared.command.Reply.TheVariants as replies
use Rattle.craft_base.specs.declared.command.Request.{Request}
use Rattle.entry_frames.specs.Durable.{Durable}
use Rattle.entry_frames.specs.Limits.{last_place}
use Rattle.entry_frames.specs.Records.{Add}
use Rattle.entry_frames.specs.declared.message.Message.{Message}
use Rattle.entry_frames.specs.declared.message.Message.TheVariants as messages
use Rattle.entry_frames.specs.declared.peer.Peer.{Peer}
use Rattle.entry_frames.specs.declared.peer.Peer.TheVariants as peers
use Rattle.entry_frames.specs.declared.role.Role.{Role}
use Rattle.entry_frames.specs.declared.role.Role.TheVariants.{Follower, Candidate, Preparing, Leader}
use Rattle.kv_apply.specs.Commands.{kept_of}
use Rattle.kv_apply.specs.declared.outcome.Kept.{Kept}
use Rattle.kv_apply.specs.declared.outcome.Kept.TheVariants as keeps
use Rattle.leader_prep.specs.Pages.{Page, is_shown}
use Rattle.leader_prep.specs.Verdicts.{Source, is_covered}
use Rattle.world_model.specs.Nodes.{Node, Volatile, node_hearing, node_with}
use Rattle.world_model.specs.Preparing.{EveryPreparingWaits, Waits, WaitsAs}
use Rattle.world_model.specs.Rules.Acts.{Act, followed_by, keeping, recording, stays}
use Rattle.world_model.specs.Rules.Answer.{act_of_answer_as, act_of_gathered, act_of_shown, act_of_source, answer_heard, node_seeing, node_shown, source_at}
use Rattle.world_model.specs.Rules.Append.{act_of_append_as, act_of_entries, act_of_heard_append, act_of_match, act_of_refusal, act_of_suited, act_of_taking, difference, following, has_before, is_clash}
use Rattle.world_model.specs.Rules.Ask.{act_of_ask_as}
use Rattle.world_model.specs.Rules.Call.{act_of_asking, act_of_call_as, act_of_reply, act_of_request, applied_heads, is_busy, is_full}
use Rattle.world_model.specs.Rules.Matched.{act_of_matched_as, act_of_next, act_of_progress, act_of_refused_as, commit_of_leader, log_heard}
use Rattle.world_model.specs.Rules.Prepare.{act_of_asking_again, act_of_asking_on, act_of_deciding, act_of_first, act_of_later, act_of_leading, act_of_preparing, act_of_winning, cursor_at, leading, noop, preparing}
use Rattle.world_model.specs.Rules.Terms.{act_of_higher_term, act_of_lower_term, act_of_term}
use Rattle.world_model.specs.Rules.Tick.{act_of_beat, act_of_election, act_of_tick_as, act_of_waiting, is_due, waiting_node}
use Rattle.world_model.specs.Rules.Want.{act_of_gathering, act_of_new_want, want_of}
use Rattle.world_model.specs.Rules.Vote.{act_of_grant, act_of_vote_from, act_of_vote_refusal, act_of_vote_request, is_grantor}
use Rattle.world_model.specs.Rules.VoteReply.{act_of_count, act_of_vote_reply_as, has_won, vote_heard}
use Rattle.world_model.specs.Turn.{Event, Tick, Frame, Call, act_of, act_of_event, act_of_message, act_of_peer}
use Rattle.world_model.proofs.Members.{members_keep}
use Rattle.world_model.proofs.Preparing.Left.{decided_waits}
use Rattle.world_model.proofs.Ranges.Applying.{commit_keeps}
use Rattle.world_model.proofs.Wanting.{again_keeps, gathering_keeps, new_want_keeps, want_keeps}

-- ---- by the role

-- what an act leaves waits, where it prepares
abbrev pub ActWaits : Node → Act → Type 0
ActWaits n act = Waits n.shape n.me act.node.durable act.node.volatile

abbrev pub NodeWaits : Node → Type 0
NodeWaits n = Waits n.shape n.me n.durable n.volatile

as_role : (role : Role) (shape : Shape) (me : ℕ) (d : Durable) (v : Volatile) → v.role ≡ role → WaitsAs role shape me d.commit d.log v.pages → Waits shape me d v
as_role role shape me d v e waits = subst (λ r. WaitsAs r shape me d.commit d.log v.pages) (sym e) waits

follows : (n : Node) (act : Act) → act.node.volatile.role ≡ Follower → ActWaits n act
follows n act e = as_role Follower n.shape n.me act.node.durable act.node.volatile e tt

leads : (n : Node) (act : Act) → act.node.volatile.role ≡ Leader → ActWaits n act
leads n act e = as_role Leader n.shape n.me act.node.durable act.node.volatile e tt

-- ---- a preparation

leading_waits : (n : Node) → ActWaits n (act_of_leading n)
leading_waits n =
    cond_both (nat_lt (length n.durable.log) last_place) (recording (Add (noop n.durable.term)) (stays n)) (stays n)
    (λ act. ActWaits n (keeping (leading n) act)) (λ room. tt) (λ full. tt)

-- too few members cover where it still has a cursor
abbrev Uncovered : Node → Option ℕ → Type 0
Uncovered n None = Unit {0}
Uncovered n (Some cursor) = is_covered n.shape n.me (λ member. is_shown member n.volatile.pages cursor) ≡ false

prepares : (n : Node) (cursor : ℕ) → n.volatile.role ≡ Preparing → cursor_at n ≡ Some cursor → Uncovered n (Some cursor) → NodeWaits n
prepares n cursor e there uncovered = as_role Preparing n.shape n.me n.durable n.volatile e (cursor, there, uncovered)

first_waits : (left : Option ℕ) (n : Node) → n.volatile.role ≡ Preparing → cursor_at n ≡ left → Uncovered n left → ActWaits n (act_of_first left n)
first_waits None n e there uncovered = leading_waits n
first_waits (Some cursor) n e there uncovered = prepares n cursor e there uncovered

later_waits : (before left : Option ℕ) (n : Node) → n.volatile.role ≡ Preparing → cursor_at n ≡ left → Uncovered n left → ActWaits n (act_of_later before left n)
later_waits before None n e there uncovered = leading_waits n
later_waits None (Some cursor) n e there uncovered = prepares n cursor e there uncovered
later_waits (Some before) (Some cursor) n e there uncovered =
    cond_both (before == cursor) (stays n) (act_of_asking_on cursor n) (ActWaits n)
    (λ same. prepares n cursor e there uncovered) (λ moved. prepares n cursor e there uncovered)

uncovered_now : (n : Node) (left : Option ℕ) → cursor_at (act_of_deciding n).node ≡ left → Uncovered (act_of_deciding n).node left
uncovered_now n None there = tt
uncovered_now n (Some cursor) there = decided_waits n cursor there

winning_waits : (n : Node) → ActWaits n (act_of_winning n)
winning_waits n =
    let now : Node = record n { volatile = preparing n } in
    let decided : Node = (act_of_deciding now).node in
    first_waits (cursor_at decided) decided refl refl (uncovered_now now (cursor_at decided) refl)

preparing_waits : (n : Node) → n.volatile.role ≡ Preparing → ActWaits n (act_of_preparing n)
preparing_waits n e =
    let decided : Node = (act_of_deciding n).node in
    later_waits (cursor_at n) (cursor_at decided) decided e refl (uncovered_now n (cursor_at decided) refl)

-- ---- the rules

asking_again_waits : (cursor : Option ℕ) (n : Node) → NodeWaits n → ActWaits n (act_of_asking_again cursor n)
asking_again_waits None n waits = waits
asking_again_waits (Some cursor) n waits = waits

waiting_waits : (n : Node) (word : ℕ) → NodeWaits n → ActWaits n (act_of_waiting word n)
waiting_waits n word waits =
    cond_both (is_due n.volatile.quiet word n.durable.term) (act_of_election n) (stays n) (ActWaits n) (λ due. tt) (λ early. waits)

-- who wants a value leads
abbrev IsLeader : Node → Type 0
IsLeader n = n.volatile.role ≡ Leader

gathering_leads : (n : Node) → IsLeader n → IsLeader (act_of_gathering n).node
gathering_leads n e = gathering_keeps n (λ act. IsLeader act.node) (again_keeps (want_of n) n IsLeader e) (new_want_keeps n IsLeader e)

tick_as_waits : (role : Role) (word : ℕ) (n : Node) → n.volatile.role ≡ role → NodeWaits n → ActWaits n (act_of_tick_as role word n)
tick_as_waits Follower word n e waits = waiting_waits (waiting_node n) word waits
tick_as_waits Candidate word n e waits = waiting_waits (waiting_node n) word waits
tick_as_waits Preparing word n e waits = asking_again_waits (cursor_at n) (node_hearing Beat n) waits
tick_as_waits Leader word n e waits =
    let now : Node = node_hearing Beat n in
    leads n (act_of_beat now) (gathering_leads now e)

grant_waits : (n : Node) (candidate : ℕ) (vote : Option ℕ) → NodeWaits n → ActWaits n (keeping (record n.volatile { quiet = 0 }) (act_of_vote_from vote candidate n))
grant_waits n candidate None waits = waits
grant_waits n candidate (Some voted) waits = waits

vote_request_waits : (n : Node) (candidate last_term last : ℕ) → NodeWaits n → ActWaits n (act_of_vote_request n candidate last_term last)
vote_request_waits n candidate last_term last waits =
    cond_both (is_grantor n candidate last_term last) (act_of_grant candidate n) (act_of_vote_refusal candidate n) (ActWaits n)
    (λ granted. grant_waits n candidate n.durable.vote waits) (λ refused. waits)

count_waits : (n : Node) → NodeWaits n → ActWaits n (act_of_count n)
count_waits n waits = cond_both (has_won n) (act_of_winning n) (stays n) (ActWaits n) (λ won. winning_waits n) (λ short. waits)

vote_reply_as_waits : (role : Role) (n : Node) (sender : ℕ) (granted : Bool) → NodeWaits n → ActWaits n (act_of_vote_reply_as role n sender granted)
vote_reply_as_waits Follower n sender granted waits = waits
vote_reply_as_waits Candidate n sender granted waits = count_waits (node_hearing (vote_heard n sender granted) n) waits
vote_reply_as_waits Preparing n sender granted waits = waits
vote_reply_as_waits Leader n sender granted waits = waits

-- a commit index changes no role
abbrev HasRole : Role → Act → Type 0
HasRole role act = act.node.volatile.role ≡ role

taking_follows : (n : Node) (leader prev commit : ℕ) (es : List Entry) → n.volatile.role ≡ Follower → HasRole Follower (act_of_taking leader prev commit es n)
taking_follows n leader prev commit es e =
    let taken : Node = (act_of_entries prev es n).node in
    commit_keeps taken (min commit (prev + length es)) (λ act. HasRole Follower (followed_by (act_of_entries prev es n) (λ it. followed_by act (act_of_match leader prev (length es))))) e e

pub heard_append_follows : (n : Node) (leader prev prev_term commit : ℕ) (es : List Entry) → n.volatile.role ≡ Follower → HasRole Follower (act_of_heard_append leader prev prev_term commit es n)
heard_append_follows n leader prev prev_term commit es e =
    cond_both (has_before n.durable.log prev prev_term) (act_of_suited leader prev commit es n) (act_of_refusal leader n) (HasRole Follower)
    (λ has.
    cond_both (is_clash n.durable.commit (difference prev n.durable.log es)) (stays n) (act_of_taking leader prev commit es n) (HasRole Follower)
    (λ clash. e) (λ suits. taking_follows n leader prev commit es e))
    (λ lacks. e)

append_as_waits : (role : Role) (n : Node) (leader prev prev_term commit : ℕ) (es : List Entry) → NodeWaits n → ActWaits n (act_of_append_as role n leader prev prev_term commit es)
append_as_waits Follower n leader prev prev_term commit es waits =
    let now : Node = record n { volatile = following leader n } in
    follows n (act_of_heard_append leader prev prev_term commit es now) (heard_append_follows now leader prev prev_term commit es refl)
append_as_waits Candidate n leader prev prev_term commit es waits =
    let now : Node = record n { volatile = following leader n } in
    follows n (act_of_heard_append leader prev prev_term commit es now) (heard_append_follows now leader prev prev_term commit es refl)
append_as_waits Preparing n leader prev prev_term commit es waits = waits
append_as_waits Leader n leader prev prev_term commit es waits = waits

progress_leads : (n : Node) (member : ℕ) → n.volatile.role ≡ Leader → HasRole Leader (act_of_progress member n)
progress_leads n member e = commit_keeps n (commit_of_leader n) (λ act. HasRole Leader (followed_by act (act_of_next member))) e e

matched_as_waits : (role : Role) (n : Node) (sender prev count mask : ℕ) → n.volatile.role ≡ role → NodeWaits n → ActWaits n (act_of_matched_as role n sender prev count mask)
matched_as_waits Follower n sender prev count mask e waits = waits
matched_as_waits Candidate n sender prev count mask e waits = waits
matched_as_waits Preparing n sender prev count mask e waits = waits
matched_as_waits Leader n sender prev count mask e waits =
    let now : Node = node_hearing (log_heard n sender (Matched prev count mask)) n in
    leads n (act_of_progress sender now) (progress_leads now sender e)

refused_as_waits : (role : Role) (n : Node) (sender next : ℕ) → NodeWaits n → ActWaits n (act_of_refused_as role n sender next)
refused_as_waits Follower n sender next waits = waits
refused_as_waits Candidate n sender next waits = waits
refused_as_waits Preparing n sender next waits = waits
refused_as_waits Leader n sender next waits = waits

ask_as_waits : (role : Role) (n : Node) (asker start : ℕ) → NodeWaits n → ActWaits n (act_of_ask_as role n asker start)
ask_as_waits Follower n asker start waits = tt
ask_as_waits Candidate n asker start waits = tt
ask_as_waits Preparing n asker start waits = waits
ask_as_waits Leader n asker start waits = waits

source_leads : (index : ℕ) (source : Option Source) (n : Node) → IsLeader n → IsLeader (act_of_source index source n).node
source_leads index None n e = e
source_leads index (Some source) n e = e

shown_leads : (want : Option ℕ) (n : Node) → IsLeader n → IsLeader (act_of_shown want n).node
shown_leads None n e = e
shown_leads (Some index) n e = source_leads index (source_at n index) n e

answer_as_waits : (role : Role) (n : Node) (page : Page) → n.volatile.role ≡ role → NodeWaits n → ActWaits n (act_of_answer_as role n page)
answer_as_waits Follower n page e waits = waits
answer_as_waits Candidate n page e waits = waits
answer_as_waits Preparing n page e waits = preparing_waits (node_seeing page (node_hearing (answer_heard n page.sender) n)) e
answer_as_waits Leader n page e waits =
    leads n (act_of_gathered page n) (shown_leads n.volatile.want (node_shown page (node_hearing (answer_heard n page.sender) n)) e)

peer_waits : (n : Node) (sender : ℕ) (body : Peer) → NodeWaits n → ActWaits n (act_of_peer n sender body)
peer_waits n sender (peers.Vote last_term last) waits = vote_request_waits n sender last_term last waits
peer_waits n sender (peers.VoteReply granted) waits = vote_reply_as_waits n.volatile.role n sender granted waits
peer_waits n sender (peers.Append prev prev_term commit es) waits = append_as_waits n.volatile.role n sender prev prev_term commit es waits
peer_waits n sender (peers.Matched prev count mask) waits = matched_as_waits n.volatile.role n sender prev count mask refl waits
peer_waits n sender (peers.Refused next) waits = refused_as_waits n.volatile.role n sender next waits
peer_waits n sender (peers.Ask start) waits = ask_as_waits n.volatile.role n sender start waits
peer_waits n sender (peers.Answer start last slots) waits =
    answer_as_waits n.volatile.role n (record { sender = sender; start = start; last = last; slots = slots }) refl waits

message_waits : (m : Message) (n : Node) → NodeWaits n → ActWaits n (act_of_message m n)
message_waits (messages.Peer sender receiver term body) n waits =
    cond_both (nat_lt term n.durable.term) (act_of_lower_term n sender body) (followed_by (act_of_term term n) (λ now. act_of_peer now sender body)) (ActWaits n)
    (λ lower. waits)
    (λ current.
    cond_both (nat_lt n.durable.term term) (act_of_higher_term term n) (stays n) (λ act. ActWaits n (followed_by act (λ now. act_of_peer now sender body)))
    (λ higher. peer_waits (act_of_higher_term term n).node sender body tt) (λ same. peer_waits n sender body waits))
message_waits (messages.Request receiver request) n waits = waits
message_waits (messages.Answered sender client seq reply) n waits = waits

request_leads : (n : Node) (place : ℕ) (r : Request) (kept : Kept) → n.volatile.role ≡ Leader → HasRole Leader (act_of_request place r kept n)
request_leads n place r keeps.New e =
    cond_both (is_full n.durable.log) (act_of_reply place r replies.Full n) _ (HasRole Leader) (λ full. e)
    (λ room. cond_both (is_busy n.durable.commit n.durable.log) (act_of_reply place r replies.Busy n) (act_of_asking place r n) (HasRole Leader) (λ busy. e) (λ free. e))
request_leads n place r (keeps.Same outcome) e = e
request_leads n place r keeps.Old e = e

call_as_waits : (role : Role) (n : Node) (place : ℕ) (r : Request) → n.volatile.role ≡ role → NodeWaits n → ActWaits n (act_of_call_as role place r n)
call_as_waits Follower n place r e waits = waits
call_as_waits Candidate n place r e waits = waits
call_as_waits Preparing n place r e waits = waits
call_as_waits Leader n place r e waits =
    let kept = kept_of r.client r.seq (applied_heads n) in
    leads n (act_of_request place r kept n) (request_leads n place r kept e)

event_waits : (event : Event) (n : Node) → NodeWaits n → ActWaits n (act_of_event event n)
event_waits (Tick word) n waits = tick_as_waits n.volatile.role word n refl waits
event_waits (Frame m) n waits = message_waits m n waits
event_waits (Call place request) n waits = call_as_waits n.volatile.role n place request refl waits

pub turn_waits : (event : Event) (n : Node) → NodeWaits n → ActWaits n (act_of event n)
turn_waits event n waits =
    let now : Node = (act_of_event event n).node in
    want_keeps now (ActWaits n) (event_waits event n waits) (λ e. leads n (act_of_new_want (want_of now) now) (new_want_keeps now IsLeader e))

pub every_preparing_waits : EveryPreparingWaits
every_preparing_waits shape events run me m here =
    members_keep Waits (λ s i d. tt) (λ event s i d v waits. turn_waits event (node_with s i d v) waits) shape events me m here
