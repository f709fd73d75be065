-- What was shown in a preparation is kept, so answers of enough members move its cursor.
use Rattle.std.proofs.Common.{◌≡◌, ℕ, ◌≤◌, ◌<◌, ◌==◌, ◌&&◌, ◌||◌, nat_le, nat_lt, true, false, Bool, if◌then◌else◌, List, [], ◌∷◌, drop, length, Option, None, Some, refl, sym, ap, subst, ◌∙◌, arith, cond, inl, inr}
use Rattle.std.specs.List.{count_by}
use Rattle.std.proofs.lemmas.List.Sums.{sum_by-cons}
use Rattle.std.proofs.lemmas.Option.{same_Some}
use Rattle.std.proofs.lemmas.Bool.{and_parts, cond_both, eqb-true, leb-false, leb-true, ltb-false, ltb-true, or_cases, true≢false}
use Rattle.craft_base.specs.Knowledge.{Beat, members}
use Rattle.craft_base.specs.Shape.{Shape, majority_of}
use Rattle.craft_base.specs.declared.command.Entry.{Entry}
use Rattle.craft_base.specs.declared.command.Request.{Request}
use Rattle.entry_frames.specs.Limits.{last_place}
use Rattle.entry_frames.specs.Records.{Add}
use Rattle.entry_frames.specs.declared.message.Message.TheVariants as messages
use Rattle.entry_frames.specs.declared.message.Message.{Message}
use Rattle.entry_frames.specs.declared.peer.Peer.{Peer}
use Rattle.entry_frames.specs.declared.peer.Peer.TheVariants as peers
use Rattle.entry_frames.specs.declared.role.Role.{Role}
use Rattle.entry_frames.specs.declared.role.Role.TheVariants.{Follower, Candidate, Preparing, Leader}
use Rattle.leader_prep.specs.Decisions.{open_parts, verdict_at}
use Rattle.entry_frames.specs.Durable.{Durable}
use Rattle.leader_prep.specs.Pages.{Page, covers_in, is_shown, joined}
use Rattle.leader_prep.specs.Verdicts.{is_covered}
use Rattle.world_model.specs.Nodes.{Node, node_hearing}
use Rattle.world_model.specs.Preparing.{EnoughMoveOn, IsAt, PartsAreLeft, StaysAt, Waits, WaitsAs, after_event, has_answered, is_answer_of, shows_at}
use Rattle.world_model.specs.Rules.Acts.{Act, followed_by, keeping, message_of, recording, sending, stays}
use Rattle.world_model.specs.Rules.Answer.{act_of_answer_as, answer_heard, node_seeing}
use Rattle.world_model.specs.Rules.Append.{act_of_append_as, following}
use Rattle.world_model.specs.Rules.Ask.{act_of_ask_as}
use Rattle.world_model.specs.Rules.Call.{act_of_call_as}
use Rattle.world_model.specs.Rules.Matched.{act_of_matched_as, act_of_refused_as}
use Rattle.world_model.specs.Rules.Prepare.{act_of_asking_again, act_of_asking_on, act_of_deciding, act_of_later, act_of_leading, cursor_at, leading, noop}
use Rattle.world_model.specs.Rules.Terms.{act_of_higher_term, act_of_lower_term, act_of_term}
use Rattle.world_model.specs.Rules.Tick.{act_of_tick_as}
use Rattle.world_model.specs.Rules.Want.{act_of_new_want, want_of}
use Rattle.world_model.specs.Rules.Vote.{act_of_grant, act_of_vote_from, act_of_vote_refusal, act_of_vote_request, is_grantor}
use Rattle.world_model.specs.Rules.VoteReply.{act_of_vote_reply_as}
use Rattle.world_model.specs.Turn.{Event, Tick, Frame, Call, act_of, act_of_event, act_of_message, act_of_peer}
use Rattle.world_model.proofs.Preparing.Left.{left_open}
use Rattle.world_model.proofs.Preparing.Waiting.{heard_append_follows, turn_waits}
use Rattle.world_model.proofs.Wanting.{new_want_keeps, want_keeps}

-- ---- counting

counted_more : (p q : ℕ → Bool) → ((m : ℕ) → p m ≡ true → q m ≡ true) → (xs : List ℕ) → count_by p xs ≤ count_by q xs
counted_more p q more [] = omega arith
counted_more p q more (x ∷ xs) =
    let rest : count_by p xs ≤ count_by q xs = counted_more p q more xs in
    omega (arith, rest, sum_by-cons (λ k. cond (p k) 1 0) x xs, sum_by-cons (λ k. cond (q k) 1 0) x xs, one (p x) (q x) (more x))
  where
    one : (a b : Bool) → (a ≡ true → b ≡ true) → cond a 1 0 ≤ cond b 1 0
    one true true go = omega arith
    one true false go = absurd (true≢false (sym (go refl)))
    one false true go = omega arith
    one false false go = omega arith

or_true : (x : Bool) → (x || true) ≡ true
or_true true = refl
or_true false = refl

or_last : (d c : Bool) → c ≡ true → (d || c) ≡ true
or_last true c e = refl
or_last false c e = e

or_with : (a : Bool) (b c : Bool) → (b ≡ true → c ≡ true) → (a || b) ≡ true → (a || c) ≡ true
or_with true b c more e = refl
or_with false b c more e = more e

lt-leb_false : (m n : ℕ) → n < m → nat_le m n ≡ false
lt-leb_false m n lt = one (nat_le m n) refl where
  one : (b : Bool) → nat_le m n ≡ b → nat_le m n ≡ false
  one true e = absurd (omega (arith, leb-true m n e, lt))
  one false e = e

-- where fewer have shown something, too few cover
uncovered_less : (shape : Shape) (me : ℕ) (fewer shown : ℕ → Bool) → ((m : ℕ) → fewer m ≡ true → shown m ≡ true) → is_covered shape me shown ≡ false → is_covered shape me fewer ≡ false
uncovered_less shape me fewer shown more e =
    let count : count_by (λ m. (m == me) || fewer m) (members shape) ≤ count_by (λ m. (m == me) || shown m) (members shape) =
    counted_more (λ m. (m == me) || fewer m) (λ m. (m == me) || shown m) (λ m. or_with (m == me) (fewer m) (shown m) (more m)) (members shape) in
    let few : count_by (λ m. (m == me) || shown m) (members shape) < majority_of shape = leb-false _ _ e in
    lt-leb_false (majority_of shape) (count_by (λ m. (m == me) || fewer m) (members shape)) (omega (arith, count, few))

-- ---- a turn that leaves the cursor

-- What was shown at the cursor is kept, and what the event shows is added; or the node prepares no longer.
abbrev Keeps : Node → (cursor : ℕ) → (shows : ℕ → Bool) → Act → Type 0
Keeps n cursor shows act =
    act.node.volatile.role ≡ Preparing → (member : ℕ) → (is_shown member n.volatile.pages cursor || shows member) ≡ true →
    is_shown member act.node.volatile.pages cursor ≡ true

without : (a : Bool) → (a || false) ≡ true → a ≡ true
without true e = refl
without false e = e

-- what was shown and what is open is as before
abbrev IsSame : Node → Act → Type 0
IsSame n act =
    (act.node.volatile.pages ≡ n.volatile.pages)
    × (open_parts act.node.durable.commit act.node.durable.log ≡ open_parts n.durable.commit n.durable.log)

by_same : (n : Node) (cursor : ℕ) (act : Act) → IsSame n act → Keeps n cursor (λ member. false) act
by_same n cursor act same prepares member shown =
    ap (λ pages. is_shown member pages cursor) same.0 ∙ without (is_shown member n.volatile.pages cursor) shown

module _ (n : Node) where
  tick_same : (role : Role) (word : ℕ) → role ≡ Preparing → IsSame n (act_of_tick_as role word n)
  tick_same Follower word e = cc
  tick_same Candidate word e = cc
  tick_same Leader word e = cc
  tick_same Preparing word e = one (cursor_at n) where
    one : (at : Option ℕ) → IsSame n (act_of_asking_again at (node_hearing Beat n))
    one None = (refl, refl)
    one (Some at) = (refl, refl)

  vote_same : (candidate last_term last : ℕ) → IsSame n (act_of_vote_request n candidate last_term last)
  vote_same candidate last_term last =
      cond_both (is_grantor n candidate last_term last) (act_of_grant candidate n) (act_of_vote_refusal candidate n) (IsSame n)
      (λ granted. one n.durable.vote) (λ refused. (refl, refl))
    where
      told : Option ℕ → Act
      told vote = sending (message_of n (peers.VoteReply true) candidate ∷ []) (keeping (record n.volatile { quiet = 0 }) (act_of_vote_from vote candidate n))

      one : (vote : Option ℕ) → IsSame n (told vote)
      one None = (refl, refl)
      one (Some voted) = (refl, refl)

  vote_reply_same : (role : Role) (sender : ℕ) (granted : Bool) → role ≡ Preparing → IsSame n (act_of_vote_reply_as role n sender granted)
  vote_reply_same Follower sender granted e = cc
  vote_reply_same Candidate sender granted e = cc
  vote_reply_same Leader sender granted e = cc
  vote_reply_same Preparing sender granted e = (refl, refl)

  append_same : (role : Role) (leader prev prev_term commit : ℕ) (es : List Entry) → role ≡ Preparing → IsSame n (act_of_append_as role n leader prev prev_term commit es)
  append_same Follower leader prev prev_term commit es e = cc
  append_same Candidate leader prev prev_term commit es e = cc
  append_same Leader leader prev prev_term commit es e = cc
  append_same Preparing leader prev prev_term commit es e = (refl, refl)

  matched_same : (role : Role) (sender prev count mask : ℕ) → role ≡ Preparing → IsSame n (act_of_matched_as role n sender prev count mask)
  matched_same Follower sender prev count mask e = cc
  matched_same Candidate sender prev count mask e = cc
  matched_same Leader sender prev count mask e = cc
  matched_same Preparing sender prev count mask e = (refl, refl)

  refused_same : (role : Role) (sender next : ℕ) → role ≡ Preparing → IsSame n (act_of_refused_as role n sender next)
  refused_same Follower sender next e = cc
  refused_same Candidate sender next e = cc
  refused_same Leader sender next e = cc
  refused_same Preparing sender next e = (refl, refl)

  ask_same : (role : Role) (asker start : ℕ) → role ≡ Preparing → IsSame n (act_of_ask_as role n asker start)
  ask_same Follower asker start e = cc
  ask_same Candidate asker start e = cc
  ask_same Leader asker start e = cc
  ask_same Preparing asker start e = (refl, refl)

  call_same : (role : Role) (place : ℕ) (r : Request) → role ≡ Preparing → IsSame n (act_of_call_as role place r n)
  call_same Follower place r e = cc
  call_same Candidate place r e = cc
  call_same Leader place r e = cc
  call_same Preparing place r e = (refl, refl)

-- ---- an answer

-- who goes on to prepare has what was shown to it
leading_leads : (n : Node) → (act_of_leading n).node.volatile.role ≡ Leader
leading_leads n =
    cond_both (nat_lt (length n.durable.log) last_place) (recording (Add (noop n.durable.term)) (stays n)) (stays n)
    (λ act. (keeping (leading n) act).node.volatile.role ≡ Leader) (λ room. refl) (λ full. refl)

leader_prepares : Leader ≡ Preparing → ⊥
leader_prepares e = cc

follower_prepares : Follower ≡ Preparing → ⊥
follower_prepares e = cc

later_keeps : (before left : Option ℕ) (n : Node) → (act_of_later before left n).node.volatile.role ≡ Preparing → (act_of_later before left n).node.volatile.pages ≡ n.volatile.pages
later_keeps before None n prepares = absurd (leader_prepares (sym (leading_leads n) ∙ prepares))
later_keeps None (Some cursor) n prepares = refl
later_keeps (Some before) (Some cursor) n prepares =
    cond_both (before == cursor) (stays n) (act_of_asking_on cursor n) (λ act. act.node.volatile.pages ≡ n.volatile.pages) (λ same. refl) (λ moved. refl)

joined_shows :
    (page : Page) (pages : List Page) (cursor member : ℕ) → (is_shown member pages cursor || shows_at page cursor member) ≡ true →
    is_shown member (if nat_le page.start cursor then page ∷ pages else pages) cursor ≡ true
joined_shows page pages cursor member shown = one (page.sender == member) (nat_le page.start cursor) (covers_in page cursor) (is_shown member pages cursor) refl refl refl refl shown where
  one : (a b c d : Bool) → (page.sender == member) ≡ a → nat_le page.start cursor ≡ b → covers_in page cursor ≡ c → is_shown member pages cursor ≡ d →
      (d || (a && b && c)) ≡ true → is_shown member (if b then page ∷ pages else pages) cursor ≡ true
  one a true c true of_a of_b of_c of_d e = ap (λ x. (x && covers_in page cursor) || is_shown member pages cursor) of_a ∙ ap (λ x. (a && x) || is_shown member pages cursor) of_c ∙ ap (λ x. (a && c) || x) of_d ∙ or_true (a && c)
  one a false c true of_a of_b of_c of_d e = of_d
  one true true true false of_a of_b of_c of_d e = ap (λ x. (x && covers_in page cursor) || is_shown member pages cursor) of_a ∙ ap (λ x. x || is_shown member pages cursor) of_c
  one true true false false of_a of_b of_c of_d e = cc
  one true false c false of_a of_b of_c of_d e = cc
  one false b c false of_a of_b of_c of_d e = cc

answer_keeps : (n : Node) (cursor : ℕ) (role : Role) (page : Page) → cursor_at n ≡ Some cursor → role ≡ Preparing → Keeps n cursor (shows_at page cursor) (act_of_answer_as role n page)
answer_keeps n cursor Follower page there e = cc
answer_keeps n cursor Candidate page there e = cc
answer_keeps n cursor Leader page there e = cc
answer_keeps n cursor Preparing page there e = λ prepares member shown.
    let seeing : Node = node_seeing page (node_hearing (answer_heard n page.sender) n) in
    let decided : Node = (act_of_deciding seeing).node in
    ap (λ pages. is_shown member pages cursor) (later_keeps (cursor_at seeing) (cursor_at decided) decided prepares)
    ∙ ap (λ at. is_shown member (joined at page n.volatile.pages) cursor) there
    ∙ joined_shows page n.volatile.pages cursor member shown

-- ---- a message

peer_keeps :
    (n : Node) (term cursor sender receiver : ℕ) (body : Peer) → IsAt term cursor n →
    Keeps n cursor (λ member. is_answer_of term cursor member (Frame (messages.Peer sender receiver term body))) (act_of_peer n sender body)
peer_keeps n term cursor sender receiver (peers.Vote last_term last) at = by_same n cursor (act_of_vote_request n sender last_term last) (vote_same n sender last_term last)
peer_keeps n term cursor sender receiver (peers.VoteReply granted) at = by_same n cursor (act_of_vote_reply_as n.volatile.role n sender granted) (vote_reply_same n n.volatile.role sender granted at.0)
peer_keeps n term cursor sender receiver (peers.Append prev prev_term commit es) at = by_same n cursor (act_of_append_as n.volatile.role n sender prev prev_term commit es) (append_same n n.volatile.role sender prev prev_term commit es at.0)
peer_keeps n term cursor sender receiver (peers.Matched prev count mask) at = by_same n cursor (act_of_matched_as n.volatile.role n sender prev count mask) (matched_same n n.volatile.role sender prev count mask at.0)
peer_keeps n term cursor sender receiver (peers.Refused next) at = by_same n cursor (act_of_refused_as n.volatile.role n sender next) (refused_same n n.volatile.role sender next at.0)
peer_keeps n term cursor sender receiver (peers.Ask start) at = by_same n cursor (act_of_ask_as n.volatile.role n sender start) (ask_same n n.volatile.role sender start at.0)
peer_keeps n term cursor sender receiver (peers.Answer start last slots) at = λ prepares member shown.
    let page : Page = record { sender = sender; start = start; last = last; slots = slots } in
    answer_keeps n cursor n.volatile.role page at.2 at.0 prepares member
    (or_with (is_shown member n.volatile.pages cursor) ((term == term) && shows_at page cursor member) (shows_at page cursor member)
    (λ e. (and_parts (term == term) (shows_at page cursor member) e).1) shown)

-- who follows a higher term prepares no longer
higher_follows : (n : Node) (term sender : ℕ) (body : Peer) → (act_of_peer (act_of_higher_term term n).node sender body).node.volatile.role ≡ Follower
higher_follows n term sender (peers.Vote last_term last) =
    cond_both (is_grantor (act_of_higher_term term n).node sender last_term last) (act_of_grant sender (act_of_higher_term term n).node) (act_of_vote_refusal sender (act_of_higher_term term n).node)
    (λ act. act.node.volatile.role ≡ Follower) (λ granted. refl) (λ refused. refl)
higher_follows n term sender (peers.VoteReply granted) = refl
higher_follows n term sender (peers.Append prev prev_term commit es) =
    heard_append_follows (record (act_of_higher_term term n).node { volatile = following sender (act_of_higher_term term n).node }) sender prev prev_term commit es refl
higher_follows n term sender (peers.Matched prev count mask) = refl
higher_follows n term sender (peers.Refused next) = refl
higher_follows n term sender (peers.Ask start) = refl
higher_follows n term sender (peers.Answer start last slots) = refl

of_term : (term cursor member sender receiver at : ℕ) (body : Peer) → is_answer_of term cursor member (Frame (messages.Peer sender receiver at body)) ≡ true → at ≡ term
of_term term cursor member sender receiver at (peers.Answer start last slots) e = eqb-true at term (and_parts (at == term) (shows_at (record { sender = sender; start = start; last = last; slots = slots }) cursor member) e).0
of_term term cursor member sender receiver at (peers.Vote last_term last) e = absurd (true≢false (sym e))
of_term term cursor member sender receiver at (peers.VoteReply granted) e = absurd (true≢false (sym e))
of_term term cursor member sender receiver at (peers.Append prev prev_term commit es) e = absurd (true≢false (sym e))
of_term term cursor member sender receiver at (peers.Matched prev count mask) e = absurd (true≢false (sym e))
of_term term cursor member sender receiver at (peers.Refused next) e = absurd (true≢false (sym e))
of_term term cursor member sender receiver at (peers.Ask start) e = absurd (true≢false (sym e))

message_keeps :
    (n : Node) (term cursor : ℕ) (m : Message) → IsAt term cursor n → Keeps n cursor (λ member. is_answer_of term cursor member (Frame m)) (act_of_message m n)
message_keeps n term cursor (messages.Peer sender receiver at body) here =
    cond_both (nat_lt at n.durable.term) (act_of_lower_term n sender body) (followed_by (act_of_term at n) (λ now. act_of_peer now sender body)) (Keeps n cursor Shows)
    (λ lower prepares member shown.
    let below : at < n.durable.term = ltb-true at n.durable.term lower in
    elim (or_cases (is_shown member n.volatile.pages cursor) (Shows member) shown) [
      | inl was ↦ was
      | inr new ↦ absurd (omega (arith, of_term term cursor member sender receiver at body new, here.1, below))
    ])
    (λ current.
    cond_both (nat_lt n.durable.term at) (act_of_higher_term at n) (stays n) (λ act. Keeps n cursor Shows (followed_by act (λ now. act_of_peer now sender body)))
    (λ higher prepares. absurd (follower_prepares (sym (higher_follows n at sender body) ∙ prepares)))
    (λ same.
    let is : at ≡ term = omega (arith, ltb-false at n.durable.term current, ltb-false n.durable.term at same, here.1) in
    subst (λ t. Keeps n cursor (λ member. is_answer_of term cursor member (Frame (messages.Peer sender receiver t body))) (act_of_peer n sender body)) (sym is)
    (own_term body)))
  where
    Shows : ℕ → Bool
    Shows member = is_answer_of term cursor member (Frame (messages.Peer sender receiver at body))

    own_term : (it : Peer) → Keeps n cursor (λ member. is_answer_of term cursor member (Frame (messages.Peer sender receiver term it))) (act_of_peer n sender it)
    own_term it = peer_keeps n term cursor sender receiver it here
message_keeps n term cursor (messages.Request receiver request) here = by_same n cursor (stays n) (refl, refl)
message_keeps n term cursor (messages.Answered sender client seq reply) here = by_same n cursor (stays n) (refl, refl)

event_keeps : (n : Node) (term cursor : ℕ) (event : Event) → IsAt term cursor n → Keeps n cursor (λ member. is_answer_of term cursor member event) (act_of_event event n)
event_keeps n term cursor (Tick word) at = by_same n cursor (act_of_tick_as n.volatile.role word n) (tick_same n n.volatile.role word at.0)
event_keeps n term cursor (Frame m) at = message_keeps n term cursor m at
event_keeps n term cursor (Call place request) at = by_same n cursor (act_of_call_as n.volatile.role place request n) (call_same n n.volatile.role place request at.0)

-- what a leader wants behind it is nothing to who prepares
leader_no_longer : (n : Node) → n.volatile.role ≡ Leader → (act_of_new_want (want_of n) n).node.volatile.role ≡ Preparing → ⊥
leader_no_longer n e prepares = leader_prepares (sym (new_want_keeps n (λ it. it.volatile.role ≡ Leader) e) ∙ prepares)

turn_keeps : (n : Node) (term cursor : ℕ) (event : Event) → IsAt term cursor n → Keeps n cursor (λ member. is_answer_of term cursor member event) (act_of event n)
turn_keeps n term cursor event at =
    let now : Node = (act_of_event event n).node in
    want_keeps now (Keeps n cursor (λ member. is_answer_of term cursor member event)) (event_keeps n term cursor event at)
    (λ e prepares. absurd (leader_no_longer now e prepares))

-- ---- enough answers move on

-- the node is where the stretch begins
begins_at : (term cursor : ℕ) (n : Node) (events : List Event) → StaysAt term cursor n events → IsAt term cursor n
begins_at term cursor n [] stays' = stays'
begins_at term cursor n (event ∷ events) stays' = stays'.0

waits_there : (term cursor : ℕ) (n : Node) → Waits n.shape n.me n.durable n.volatile → IsAt term cursor n → is_covered n.shape n.me (λ member. is_shown member n.volatile.pages cursor) ≡ false
waits_there term cursor n waits at =
    let there : WaitsAs Preparing n.shape n.me n.durable.commit n.durable.log n.volatile.pages =
    subst (λ r. WaitsAs r n.shape n.me n.durable.commit n.durable.log n.volatile.pages) at.0 waits in
    let same : there.0 ≡ cursor = same_Some there.0 cursor (sym there.1 ∙ at.2) in
    subst (λ c. is_covered n.shape n.me (λ member. is_shown member n.volatile.pages c) ≡ false) same there.2

module _ (shape : Shape) (me term cursor : ℕ) where
  -- by what was shown and what these events show, too few cover
  few : (events : List Event) (n : Node) → n.shape ≡ shape → n.me ≡ me → Waits n.shape n.me n.durable n.volatile → StaysAt term cursor n events →
      is_covered shape me (λ member. is_shown member n.volatile.pages cursor || has_answered term cursor member events) ≡ false
  few [] n of_shape of_me waits at =
      uncovered_less shape me (λ member. is_shown member n.volatile.pages cursor || false) (λ member. is_shown member n.volatile.pages cursor)
      (λ member. without (is_shown member n.volatile.pages cursor))
      (rw (← of_shape, ← of_me) (waits_there term cursor n waits at))
  few (event ∷ events) n of_shape of_me waits at =
      let now : Node = after_event event n in
      let next : IsAt term cursor now = begins_at term cursor now events at.1 in
      uncovered_less shape me (λ member. is_shown member n.volatile.pages cursor || (is_answer_of term cursor member event || has_answered term cursor member events))
      (λ member. is_shown member now.volatile.pages cursor || has_answered term cursor member events)
      (λ member. regroup (is_shown member n.volatile.pages cursor) (is_answer_of term cursor member event) (has_answered term cursor member events) (is_shown member now.volatile.pages cursor)
      (turn_keeps n term cursor event at.0 next.0 member))
      (few events now of_shape of_me (turn_waits event n waits) at.1)
    where
      regroup : (a b c d : Bool) → ((a || b) ≡ true → d ≡ true) → (a || (b || c)) ≡ true → (d || c) ≡ true
      regroup true b c d more e = ap (λ x. x || c) (more refl)
      regroup false true c d more e = ap (λ x. x || c) (more refl)
      regroup false false c d more e = or_last d c e

pub enough_move_on : EnoughMoveOn
enough_move_on term cursor n events waits at =
    uncovered_less n.shape n.me (λ member. has_answered term cursor member events) (λ member. is_shown member n.volatile.pages cursor || has_answered term cursor member events)
    (λ member. or_last (is_shown member n.volatile.pages cursor) (has_answered term cursor member events)) (few n.shape n.me term cursor events n refl refl waits at)

-- ---- what is left open

-- the last of the parts that were open, in order; or the node prepares no longer
abbrev Leaves : Node → Act → Type 0
Leaves n act =
    act.node.volatile.role ≡ Preparing →
    (decided : ℕ) × (open_parts act.node.durable.commit act.node.durable.log ≡ drop decided (open_parts n.durable.commit n.durable.log))

same_leaves : (n : Node) (act : Act) → IsSame n act → Leaves n act
same_leaves n act same prepares = (0, same.1)

later_leaves : (before left : Option ℕ) (n : Node) → (act_of_later before left n).node.volatile.role ≡ Preparing → (act_of_later before left n).node.durable ≡ n.durable
later_leaves before None n prepares = absurd (leader_prepares (sym (leading_leads n) ∙ prepares))
later_leaves None (Some cursor) n prepares = refl
later_leaves (Some before) (Some cursor) n prepares =
    cond_both (before == cursor) (stays n) (act_of_asking_on cursor n) (λ act. act.node.durable ≡ n.durable) (λ same. refl) (λ moved. refl)

answer_leaves : (n : Node) (role : Role) (page : Page) → role ≡ Preparing → Leaves n (act_of_answer_as role n page)
answer_leaves n Follower page e = cc
answer_leaves n Candidate page e = cc
answer_leaves n Leader page e = cc
answer_leaves n Preparing page e = λ prepares.
    let seeing : Node = node_seeing page (node_hearing (answer_heard n page.sender) n) in
    let decided : Node = (act_of_deciding seeing).node in
    let same : (act_of_later (cursor_at seeing) (cursor_at decided) decided).node.durable ≡ decided.durable =
    later_leaves (cursor_at seeing) (cursor_at decided) decided prepares in
    let left = left_open (verdict_at seeing.shape seeing.me seeing.volatile.pages) seeing.durable in
    (left.0, ap (λ (d : Durable). open_parts d.commit d.log) same ∙ left.1)

peer_leaves : (n : Node) (sender : ℕ) (body : Peer) → n.volatile.role ≡ Preparing → Leaves n (act_of_peer n sender body)
peer_leaves n sender (peers.Vote last_term last) e = same_leaves n (act_of_vote_request n sender last_term last) (vote_same n sender last_term last)
peer_leaves n sender (peers.VoteReply granted) e = same_leaves n (act_of_vote_reply_as n.volatile.role n sender granted) (vote_reply_same n n.volatile.role sender granted e)
peer_leaves n sender (peers.Append prev prev_term commit es) e =
    same_leaves n (act_of_append_as n.volatile.role n sender prev prev_term commit es) (append_same n n.volatile.role sender prev prev_term commit es e)
peer_leaves n sender (peers.Matched prev count mask) e =
    same_leaves n (act_of_matched_as n.volatile.role n sender prev count mask) (matched_same n n.volatile.role sender prev count mask e)
peer_leaves n sender (peers.Refused next) e = same_leaves n (act_of_refused_as n.volatile.role n sender next) (refused_same n n.volatile.role sender next e)
peer_leaves n sender (peers.Ask start) e = same_leaves n (act_of_ask_as n.volatile.role n sender start) (ask_same n n.volatile.role sender start e)
peer_leaves n sender (peers.Answer start last slots) e =
    answer_leaves n n.volatile.role (record { sender = sender; start = start; last = last; slots = slots }) e

message_leaves : (n : Node) (m : Message) → n.volatile.role ≡ Preparing → Leaves n (act_of_message m n)
message_leaves n (messages.Peer sender receiver at body) e =
    cond_both (nat_lt at n.durable.term) (act_of_lower_term n sender body) (followed_by (act_of_term at n) (λ now. act_of_peer now sender body)) (Leaves n)
    (λ lower. same_leaves n (act_of_lower_term n sender body) (refl, refl))
    (λ current.
    cond_both (nat_lt n.durable.term at) (act_of_higher_term at n) (stays n) (λ act. Leaves n (followed_by act (λ now. act_of_peer now sender body)))
    (λ higher prepares. absurd (follower_prepares (sym (higher_follows n at sender body) ∙ prepares))) (λ same. peer_leaves n sender body e))
message_leaves n (messages.Request receiver request) e = same_leaves n (stays n) (refl, refl)
message_leaves n (messages.Answered sender client seq reply) e = same_leaves n (stays n) (refl, refl)

event_leaves : (n : Node) (event : Event) → n.volatile.role ≡ Preparing → Leaves n (act_of_event event n)
event_leaves n (Tick word) e = same_leaves n (act_of_tick_as n.volatile.role word n) (tick_same n n.volatile.role word e)
event_leaves n (Frame m) e = message_leaves n m e
event_leaves n (Call place request) e = same_leaves n (act_of_call_as n.volatile.role place request n) (call_same n n.volatile.role place request e)

pub parts_are_left : PartsAreLeft
parts_are_left n event e =
    let now : Node = (act_of_event event n).node in
    want_keeps now (Leaves n) (event_leaves n event e) (λ leads prepares. absurd (leader_no_longer now leads prepares))
