-- Each rule keeps what is said of the requests that wait, and what it tells clients is told of what is committed then. Only a leader
-- adds requests, only at the end of its log, and no leader cuts its log.
use Rattle.std.proofs.Common.{◌≡◌, ℕ, ◌+◌, ◌==◌, min, nat_lt, Bool, true, Option, None, Some, List, [], ◌∷◌, length, drop, take, refl}
use Rattle.std.proofs.lemmas.Bool.{cond_both}
use Rattle.craft_base.specs.Knowledge.{Beat, Matched, Refused}
use Rattle.craft_base.specs.declared.command.Entry.{Entry}
use Rattle.entry_frames.specs.Limits.{last_place}
use Rattle.entry_frames.specs.Records.{Add}
use Rattle.entry_frames.specs.declared.message.Message.{Message}
use Rattle.entry_frames.specs.declared.message.Message.TheVariants as messages
use Rattle.entry_frames.specs.declared.peer.Peer.{Peer}
use Rattle.entry_frames.specs.declared.peer.Peer.TheVariants as peers
use Rattle.entry_frames.specs.declared.role.Role.{Role}
use Rattle.entry_frames.specs.declared.role.Role.TheVariants.{Follower, Candidate, Preparing, Leader}
use Rattle.world_model.specs.Nodes.{Node, node_hearing}
use Rattle.world_model.specs.Rules.Acts.{Act, followed_by, keeping, message_of, recording, sending, stays}
use Rattle.world_model.specs.Rules.Append.{act_of_append_as, act_of_entries, act_of_heard_append, act_of_refusal, act_of_suited, act_of_taking, difference, following, has_before, is_clash, mask_of}
use Rattle.leader_prep.specs.Pages.{Page}
use Rattle.world_model.specs.Rules.Answer.{act_of_answer_as, answer_heard, node_seeing, node_shown}
use Rattle.world_model.specs.Rules.Ask.{act_of_ask_as, act_of_asked}
use Rattle.world_model.specs.Rules.Matched.{act_of_matched_as, act_of_refused_as, act_of_retry, commit_of_leader, log_heard}
use Rattle.world_model.specs.Rules.Prepare.{act_of_asking_all, act_of_asking_on, act_of_deciding, act_of_first, act_of_later, act_of_leading, act_of_preparing, act_of_winning, cursor_at, noop, preparing}
use Rattle.world_model.specs.Rules.Say.{append_if_any}
use Rattle.world_model.specs.Rules.Terms.{act_of_higher_term, act_of_lower_term, act_of_term}
use Rattle.world_model.specs.Rules.Tick.{act_of_election, act_of_tick_as, act_of_waiting, is_due, waiting_node}
use Rattle.world_model.specs.Rules.Vote.{act_of_grant, act_of_vote_from, act_of_vote_refusal, act_of_vote_request, is_grantor}
use Rattle.world_model.specs.Rules.VoteReply.{act_of_count, act_of_vote_reply_as, has_won, vote_heard}
use Rattle.world_model.specs.Turn.{act_of_message, act_of_peer}
use Rattle.bridge.proofs.Replies.Answering.{ActAnswers, IsAnswering, NobodyWaits, asking_again_answers, beat_answers, commit_answers, in_role, of_role, silent, still_waits}
use Rattle.bridge.proofs.Replies.Filling.{shown_answers}
use Rattle.bridge.proofs.Beginning.{announcing}

-- ---- a tick

waiting_answers : (n : Node) (word : ℕ) → NobodyWaits n.volatile → IsAnswering n → ActAnswers (act_of_waiting word n)
waiting_answers n word none calls =
    cond_both (is_due n.volatile.quiet word n.durable.term) (act_of_election n) (stays n) ActAnswers
    (λ due. silent (act_of_election n) refl none) (λ early. silent (stays n) refl calls)

tick_as_answers : (role : Role) (word : ℕ) (n : Node) → n.volatile.role ≡ role → IsAnswering n → ActAnswers (act_of_tick_as role word n)
tick_as_answers Follower word n e calls = waiting_answers (waiting_node n) word (of_role n Follower e calls) calls
tick_as_answers Candidate word n e calls = waiting_answers (waiting_node n) word (of_role n Candidate e calls) calls
tick_as_answers Preparing word n e calls = asking_again_answers (cursor_at n) (node_hearing Beat n) calls
tick_as_answers Leader word n e calls = beat_answers (node_hearing Beat n) calls

-- ---- votes

vote_from_answers :
    (n : Node) (candidate : ℕ) (vote : Option ℕ) → IsAnswering n →
    ActAnswers (sending (message_of n (peers.VoteReply true) candidate ∷ []) (keeping (record n.volatile { quiet = 0 }) (act_of_vote_from vote candidate n)))
vote_from_answers n candidate None calls = silent _ refl calls
vote_from_answers n candidate (Some voted) calls = silent _ refl calls

vote_request_answers : (n : Node) (candidate last_term last : ℕ) → IsAnswering n → ActAnswers (act_of_vote_request n candidate last_term last)
vote_request_answers n candidate last_term last calls =
    cond_both (is_grantor n candidate last_term last) (act_of_grant candidate n) (act_of_vote_refusal candidate n) ActAnswers
    (λ granted. vote_from_answers n candidate n.durable.vote calls) (λ refused. silent (act_of_vote_refusal candidate n) refl calls)

-- who begins to lead waits to answer nothing yet
leading_answers : (n : Node) → NobodyWaits n.volatile → ActAnswers (act_of_leading n)
leading_answers n none =
    cond_both (nat_lt (length n.durable.log) last_place) (recording (Add (noop n.durable.term)) (stays n)) (stays n)
    (λ act. ActAnswers (announcing n act))
    (λ room. silent _ refl (still_waits (announcing n (recording (Add (noop n.durable.term)) (stays n))).node none))
    (λ full. silent _ refl (still_waits (announcing n (stays n)).node none))

first_answers : (left : Option ℕ) (n : Node) → NobodyWaits n.volatile → ActAnswers (act_of_first left n)
first_answers None n none = leading_answers n none
first_answers (Some cursor) n none = silent (act_of_asking_all cursor n) refl (still_waits n none)

later_answers : (before left : Option ℕ) (n : Node) → NobodyWaits n.volatile → ActAnswers (act_of_later before left n)
later_answers before None n none = leading_answers n none
later_answers None (Some cursor) n none = silent (stays n) refl (still_waits n none)
later_answers (Some before) (Some cursor) n none =
    cond_both (before == cursor) (stays n) (act_of_asking_on cursor n) ActAnswers
    (λ same. silent (stays n) refl (still_waits n none)) (λ moved. silent (act_of_asking_on cursor n) refl (still_waits n none))

winning_answers : (n : Node) → NobodyWaits n.volatile → ActAnswers (act_of_winning n)
winning_answers n none =
    let decided : Node = (act_of_deciding (record n { volatile = preparing n })).node in
    let next = first_answers (cursor_at decided) decided none in
    record { calls = next.calls; replies = next.replies }

preparing_answers : (n : Node) → NobodyWaits n.volatile → ActAnswers (act_of_preparing n)
preparing_answers n none =
    let decided : Node = (act_of_deciding n).node in
    let next = later_answers (cursor_at n) (cursor_at decided) decided none in
    record { calls = next.calls; replies = next.replies }

count_answers : (n : Node) → NobodyWaits n.volatile → IsAnswering n → ActAnswers (act_of_count n)
count_answers n none calls =
    cond_both (has_won n) (act_of_winning n) (stays n) ActAnswers (λ won. winning_answers n none) (λ waits. silent (stays n) refl calls)

vote_reply_as_answers :
    (role : Role) (n : Node) (sender : ℕ) (granted : Bool) → n.volatile.role ≡ role → IsAnswering n → ActAnswers (act_of_vote_reply_as role n sender granted)
vote_reply_as_answers Follower n sender granted e calls = silent (stays n) refl calls
vote_reply_as_answers Candidate n sender granted e calls =
    count_answers (node_hearing (vote_heard n sender granted) n) (of_role n Candidate e calls) calls
vote_reply_as_answers Preparing n sender granted e calls = silent (stays (node_hearing (vote_heard n sender granted) n)) refl calls
vote_reply_as_answers Leader n sender granted e calls = silent (stays (node_hearing (vote_heard n sender granted) n)) refl calls

-- ---- entries of a leader, which a node that waits to answer none takes

module _ (leader prev : ℕ) (entries : List Entry) (n : Node) (follows : n.volatile.role ≡ Follower) (none : NobodyWaits n.volatile) where
  taking_answers : (commit : ℕ) → ActAnswers (act_of_taking leader prev commit entries n)
  taking_answers commit =
      let taken = (act_of_entries prev entries n).node in
      let then_told =
      commit_answers taken (min commit (prev + length entries))
      (λ now. message_of now (peers.Matched prev (length entries) (mask_of (take (length entries) (drop prev now.durable.log)))) leader ∷ [])
      (in_role taken Follower follows none) in
      record { calls = then_told.calls; replies = then_told.replies }

  heard_append_answers : (prev_term commit : ℕ) → ActAnswers (act_of_heard_append leader prev prev_term commit entries n)
  heard_append_answers prev_term commit =
      cond_both (has_before n.durable.log prev prev_term) (act_of_suited leader prev commit entries n) (act_of_refusal leader n) ActAnswers
      (λ here.
      cond_both (is_clash n.durable.commit (difference prev n.durable.log entries)) (stays n) (act_of_taking leader prev commit entries n) ActAnswers
      (λ clashes. silent (stays n) refl (in_role n Follower follows none)) (λ suits. taking_answers commit))
      (λ lacks. silent (act_of_refusal leader n) refl (in_role n Follower follows none))

append_as_answers :
    (role : Role) (n : Node) (leader prev prev_term commit : ℕ) (entries : List Entry) → n.volatile.role ≡ role → IsAnswering n →
    ActAnswers (act_of_append_as role n leader prev prev_term commit entries)
append_as_answers Follower n leader prev prev_term commit entries e calls =
    heard_append_answers leader prev entries (record n { volatile = following leader n }) refl (of_role n Follower e calls) prev_term commit
append_as_answers Candidate n leader prev prev_term commit entries e calls =
    heard_append_answers leader prev entries (record n { volatile = following leader n }) refl (of_role n Candidate e calls) prev_term commit
append_as_answers Preparing n leader prev prev_term commit entries e calls = silent (stays n) refl calls
append_as_answers Leader n leader prev prev_term commit entries e calls = silent (stays n) refl calls

-- ---- what a leader hears

matched_as_answers :
    (role : Role) (n : Node) (sender prev count mask : ℕ) → IsAnswering n → ActAnswers (act_of_matched_as role n sender prev count mask)
matched_as_answers Follower n sender prev count mask calls = silent (stays n) refl calls
matched_as_answers Candidate n sender prev count mask calls = silent (stays n) refl calls
matched_as_answers Preparing n sender prev count mask calls = silent (stays n) refl calls
matched_as_answers Leader n sender prev count mask calls =
    let now = node_hearing (log_heard n sender (Matched prev count mask)) n in
    commit_answers now (commit_of_leader now) (λ it. append_if_any it sender) calls

refused_as_answers : (role : Role) (n : Node) (sender next : ℕ) → IsAnswering n → ActAnswers (act_of_refused_as role n sender next)
refused_as_answers Follower n sender next calls = silent (stays n) refl calls
refused_as_answers Candidate n sender next calls = silent (stays n) refl calls
refused_as_answers Preparing n sender next calls = silent (stays n) refl calls
refused_as_answers Leader n sender next calls = silent (act_of_retry sender (node_hearing (log_heard n sender (Refused next)) n)) refl calls

-- ---- who asks, whom a node that waits to answer none follows

asked_answers : (n : Node) (asker start : ℕ) → NobodyWaits n.volatile → ActAnswers (act_of_asked asker start n)
asked_answers n asker start none = silent (act_of_asked asker start n) refl none

ask_as_answers : (role : Role) (n : Node) (asker start : ℕ) → n.volatile.role ≡ role → IsAnswering n → ActAnswers (act_of_ask_as role n asker start)
ask_as_answers Follower n asker start e calls = asked_answers n asker start (of_role n Follower e calls)
ask_as_answers Candidate n asker start e calls = asked_answers n asker start (of_role n Candidate e calls)
ask_as_answers Preparing n asker start e calls = silent (stays n) refl calls
ask_as_answers Leader n asker start e calls = silent (stays n) refl calls

-- ---- what others show, of which a node that waits to answer none decides, and a leader has a value

answer_as_answers : (role : Role) (n : Node) (page : Page) → n.volatile.role ≡ role → IsAnswering n → ActAnswers (act_of_answer_as role n page)
answer_as_answers Follower n page e calls = silent (stays n) refl calls
answer_as_answers Candidate n page e calls = silent (stays n) refl calls
answer_as_answers Preparing n page e calls = preparing_answers (node_seeing page (node_hearing (answer_heard n page.sender) n)) (of_role n Preparing e calls)
answer_as_answers Leader n page e calls = shown_answers n.volatile.want (node_shown page (node_hearing (answer_heard n page.sender) n)) e calls

-- ---- a message

peer_answers : (n : Node) (sender : ℕ) (body : Peer) → IsAnswering n → ActAnswers (act_of_peer n sender body)
peer_answers n sender (peers.Vote last_term last) calls = vote_request_answers n sender last_term last calls
peer_answers n sender (peers.VoteReply granted) calls = vote_reply_as_answers n.volatile.role n sender granted refl calls
peer_answers n sender (peers.Append prev prev_term commit entries) calls =
    append_as_answers n.volatile.role n sender prev prev_term commit entries refl calls
peer_answers n sender (peers.Matched prev count mask) calls = matched_as_answers n.volatile.role n sender prev count mask calls
peer_answers n sender (peers.Refused next) calls = refused_as_answers n.volatile.role n sender next calls
peer_answers n sender (peers.Ask start) calls = ask_as_answers n.volatile.role n sender start refl calls
peer_answers n sender (peers.Answer start last slots) calls =
    answer_as_answers n.volatile.role n (record { sender = sender; start = start; last = last; slots = slots }) refl calls

behind_term_answers : (at : ℕ) (n : Node) (rule : Node → Act) → IsAnswering n → ((now : Node) → IsAnswering now → ActAnswers (rule now)) → ActAnswers (followed_by (act_of_term at n) rule)
behind_term_answers at n rule calls each =
    cond_both (nat_lt n.durable.term at) (act_of_higher_term at n) (stays n) (λ act. ActAnswers (followed_by act rule))
    (λ higher. let next = each (act_of_higher_term at n).node (refl, refl) in record { calls = next.calls; replies = next.replies })
    (λ same. let next = each n calls in record { calls = next.calls; replies = next.replies })

pub message_answers : (m : Message) (n : Node) → IsAnswering n → ActAnswers (act_of_message m n)
message_answers (messages.Peer from to at body) n calls =
    cond_both (nat_lt at n.durable.term) (act_of_lower_term n from body) (followed_by (act_of_term at n) (λ now. act_of_peer now from body)) ActAnswers
    (λ lower. silent (act_of_lower_term n from body) refl calls)
    (λ current. behind_term_answers at n (λ now. act_of_peer now from body) calls (λ now its. peer_answers now from body its))
message_answers (messages.Request receiver request) n calls = silent (stays n) refl calls
message_answers (messages.Answered sender client seq reply) n calls = silent (stays n) refl calls

pub tick_answers : (word : ℕ) (n : Node) → IsAnswering n → ActAnswers (act_of_tick_as n.volatile.role word n)
tick_answers word n calls = tick_as_answers n.volatile.role word n refl calls
