-- Enough answers move the cursor of a preparation, or end it.
use Rattle.std.proofs.Common.{◌≡◌, ℕ, zero, suc, ◌+◌, ◌<◌, ◌≤◌, ◌==◌, ◌&&◌, ◌||◌, ◌⊎◌, inl, inr, nat_le, nat_lt, true, false, Bool, if◌then◌else◌, List, [], ◌∷◌, ◌++◌, length, map, drop, Option, None, Some, refl, sym, ap, subst, ◌∙◌, arith, cond}
use Rattle.std.specs.List.{count_by}
use Rattle.std.specs.Option.{option_to_list}
use Rattle.std.proofs.lemmas.Bool.{cond_both, eqb-true, eqb-false, ltb-true, true≢false}
use Rattle.std.proofs.lemmas.List.Sums.{sum_by-cons}
use Rattle.std.proofs.lemmas.Option.{same_Some}
use Rattle.craft_base.specs.Knowledge.{members}
use Rattle.craft_base.specs.Shape.{Shape, majority_of}
use Rattle.craft_base.specs.declared.command.Entry.{Entry}
use Rattle.entry_frames.specs.Durable.{Durable, after, applied}
use Rattle.entry_frames.specs.Entries.{is_whole}
use Rattle.entry_frames.specs.Limits.{last_place}
use Rattle.entry_frames.specs.Records.{Add, Cut}
use Rattle.entry_frames.specs.declared.message.Message.{Message}
use Rattle.entry_frames.specs.declared.message.Message.TheVariants as messages
use Rattle.entry_frames.specs.declared.peer.Peer.{Peer}
use Rattle.entry_frames.specs.declared.peer.Peer.TheVariants as peers
use Rattle.entry_frames.specs.declared.role.Role.{Role}
use Rattle.entry_frames.specs.declared.role.Role.TheVariants.{Follower, Candidate, Preparing, Leader}
use Rattle.leader_prep.specs.Decisions.{Rebuilt, first_index, parts_from}
use Rattle.leader_prep.specs.Pages.{Page}
use Rattle.leader_prep.specs.Verdicts.{is_covered}
use Rattle.world_model.specs.Nodes.{Node, node_hearing}
use Rattle.world_model.specs.Preparing.{IsAt, StaysAt, Waits, WaitsAs, after_event, has_answered, is_answer_of, shows_at}
use Rattle.world_model.specs.Rules.Acts.{followed_by, keeping, recording, stays}
use Rattle.world_model.specs.Rules.Answer.{act_of_answer_as, answer_heard, node_seeing}
use Rattle.world_model.specs.Rules.Prepare.{act_of_asking_on, act_of_deciding, act_of_later, act_of_leading, cursor_at, decision_at, leading, noop, whole_record}
use Rattle.world_model.specs.Rules.Terms.{act_of_higher_term, act_of_lower_term, act_of_term}
use Rattle.world_model.specs.Turn.{Event, Tick, Frame, Call, act_of_message, act_of_peer}
use Rattle.world_model.proofs.Preparing.Shown.{enough_move_on, parts_are_left}
use Rattle.world_model.proofs.Preparing.Waiting.{turn_waits}
use Rattle.world_model.proofs.Wanting.{new_want_keeps, want_keeps}
use Rattle.world_laws.specs.Preparations.{EnoughAnswersMove, HasMovedOn, after_events}

-- ---- a stretch of a preparation, and one event more

module _ (term cursor : ℕ) where
  last_at : (events : List Event) (n : Node) → StaysAt term cursor n events → IsAt term cursor (after_events n events)
  last_at [] n at = at
  last_at (event ∷ events) n at = last_at events (after_event event n) at.1

  last_waits : (events : List Event) (n : Node) → Waits n.shape n.me n.durable n.volatile → let last = after_events n events in Waits last.shape last.me last.durable last.volatile
  last_waits [] n waits = waits
  last_waits (event ∷ events) n waits = last_waits events (after_event event n) (turn_waits event n waits)

  stays_longer :
      (event : Event) (events : List Event) (n : Node) → StaysAt term cursor n events → IsAt term cursor (after_event event (after_events n events)) →
      StaysAt term cursor n (events ++ event ∷ [])
  stays_longer event [] n at now = (at, now)
  stays_longer event (first ∷ events) n at now = (at.0, stays_longer event events (after_event first n) at.1 now)

  -- who answers by no event more had answered before
  answered_before :
      (event : Event) (member : ℕ) → is_answer_of term cursor member event ≡ false → (events : List Event) →
      has_answered term cursor member (events ++ event ∷ []) ≡ has_answered term cursor member events
  answered_before event member none [] = ap (λ b. b || false) none
  answered_before event member none (first ∷ events) = ap (λ b. is_answer_of term cursor member first || b) (answered_before event member none events)

-- the same members are counted
same_count : (p q : ℕ → Bool) → ((m : ℕ) → p m ≡ q m) → (xs : List ℕ) → count_by p xs ≡ count_by q xs
same_count p q same [] = refl
same_count p q same (x ∷ xs) =
    sum_by-cons (λ k. cond (p k) 1 0) x xs ∙ ap (λ b. cond b 1 0 + count_by p xs) (same x) ∙ ap (λ c. cond (q x) 1 0 + c) (same_count p q same xs)
    ∙ sym (sum_by-cons (λ k. cond (q k) 1 0) x xs)

same_covered : (shape : Shape) (me : ℕ) (one other : ℕ → Bool) → ((m : ℕ) → one m ≡ other m) → is_covered shape me one ≡ is_covered shape me other
same_covered shape me one other same =
    ap (nat_le (majority_of shape))
    (same_count (λ m. (m == me) || one m) (λ m. (m == me) || other m) (λ m. ap (λ b. (m == me) || b) (same m)) (members shape))

-- ---- where its cursor is then

-- what is left of the parts begins at or behind the first of them
from_index : (entries : List Entry) (index many next : ℕ) → first_index (drop many (parts_from index entries)) ≡ Some next → index ≤ next
from_index [] index zero next e = cc
from_index [] index (suc many) next e = cc
from_index (entry ∷ entries) index many next e = one (is_whole entry.form) many (λ k there. from_index entries (index + 1) k next there) e where
  one : (whole : Bool) (k : ℕ) → ((j : ℕ) → first_index (drop j (parts_from (index + 1) entries)) ≡ Some next → index + 1 ≤ next) →
      first_index (drop k (if whole then parts_from (index + 1) entries else record { index = index; entry = entry } ∷ parts_from (index + 1) entries)) ≡ Some next →
      index ≤ next
  one true k rest there = omega (arith, rest k there)
  one false zero rest there = omega (arith, same_Some index next there)
  one false (suc k) rest there = omega (arith, rest k there)

ascends :
    (entries : List Entry) (index many cursor next : ℕ) → first_index (parts_from index entries) ≡ Some cursor →
    first_index (drop many (parts_from index entries)) ≡ Some next → cursor ≤ next
ascends [] index many cursor next e there = cc
ascends (entry ∷ entries) index many cursor next e there =
    one (is_whole entry.form) many (λ k first second. ascends entries (index + 1) k cursor next first second) e there
  where
    one : (whole : Bool) (k : ℕ) →
        ((j : ℕ) → first_index (parts_from (index + 1) entries) ≡ Some cursor → first_index (drop j (parts_from (index + 1) entries)) ≡ Some next → cursor ≤ next) →
        first_index (if whole then parts_from (index + 1) entries else record { index = index; entry = entry } ∷ parts_from (index + 1) entries) ≡ Some cursor →
        first_index (drop k (if whole then parts_from (index + 1) entries else record { index = index; entry = entry } ∷ parts_from (index + 1) entries)) ≡ Some next →
        cursor ≤ next
    one true k rest first second = rest k first second
    one false zero rest first second = omega (arith, same_Some index cursor first, same_Some index next second)
    one false (suc k) rest first second = omega (arith, same_Some index cursor first, from_index entries (index + 1) k next second)

-- ---- an answer

same_term : (d : Durable) (rebuilt : List Rebuilt) (cut : Option ℕ) → (after d (map whole_record rebuilt ++ map Cut (option_to_list cut))).term ≡ d.term
same_term d [] None = refl
same_term d [] (Some index) = refl
same_term d (one ∷ rebuilt) cut = same_term (applied d (whole_record one)) rebuilt cut

-- in that term, and it prepares or leads
abbrev GoesOn : (term : ℕ) → Node → Type 0
GoesOn term n = (n.durable.term ≡ term) × ((n.volatile.role ≡ Preparing) ⊎ (n.volatile.role ≡ Leader))

leads : (n : Node) → GoesOn n.durable.term (act_of_leading n).node
leads n =
    cond_both (nat_lt (length n.durable.log) last_place) (recording (Add (noop n.durable.term)) (stays n)) (stays n)
    (λ act. GoesOn n.durable.term (keeping (leading n) act).node) (λ room. (refl, inr refl)) (λ full. (refl, inr refl))

later_goes_on : (before left : Option ℕ) (n : Node) → n.volatile.role ≡ Preparing → GoesOn n.durable.term (act_of_later before left n).node
later_goes_on before None n prepares = leads n
later_goes_on None (Some cursor) n prepares = (refl, inl prepares)
later_goes_on (Some before) (Some cursor) n prepares =
    cond_both (before == cursor) (stays n) (act_of_asking_on cursor n) (λ act. GoesOn n.durable.term act.node) (λ same. (refl, inl prepares)) (λ moved. (refl, inl prepares))

answer_goes_on : (n : Node) (role : Role) (page : Page) → role ≡ Preparing → n.volatile.role ≡ Preparing → GoesOn n.durable.term (act_of_answer_as role n page).node
answer_goes_on n Follower page e prepares = cc
answer_goes_on n Candidate page e prepares = cc
answer_goes_on n Leader page e prepares = cc
answer_goes_on n Preparing page e prepares =
    let seeing : Node = node_seeing page (node_hearing (answer_heard n page.sender) n) in
    let decided : Node = (act_of_deciding seeing).node in
    subst (λ t. GoesOn t (act_of_later (cursor_at seeing) (cursor_at decided) decided).node) (same_term n.durable (decision_at seeing).rebuilt (decision_at seeing).cut)
    (later_goes_on (cursor_at seeing) (cursor_at decided) decided prepares)

-- ---- enough answers

-- the page that answers makes it go on, and where it still prepares its cursor is greater, since the old one is covered
moved_on :
    (term cursor : ℕ) (event : Event) (n : Node) (events : List Event) → Waits n.shape n.me n.durable n.volatile → StaysAt term cursor n events →
    is_covered n.shape n.me (λ member. has_answered term cursor member (events ++ event ∷ [])) ≡ true →
    GoesOn term (after_event event (after_events n events)) → HasMovedOn term cursor (after_event event (after_events n events))
moved_on term cursor event n events waits stays' covered (in_term, inr leads') = (in_term, inr leads')
moved_on term cursor event n events waits stays' covered (in_term, inl prepares) =
    let last : Node = after_events n events in
    let now : Node = after_event event last in
    let at : IsAt term cursor last = last_at term cursor events n stays' in
    let waits_now : WaitsAs Preparing now.shape now.me now.durable.commit now.durable.log now.volatile.pages =
    subst (λ r. WaitsAs r now.shape now.me now.durable.commit now.durable.log now.volatile.pages) prepares (turn_waits event last (last_waits term cursor events n waits)) in
    let left = parts_are_left last event at.0 prepares in
    let next : ℕ = waits_now.0 in
    let below : cursor ≤ next =
    ascends (drop last.durable.commit last.durable.log) (last.durable.commit + 1) left.0 cursor next at.2 (sym (ap first_index left.1) ∙ waits_now.1) in
    (in_term, inl (prepares, next, waits_now.1, further next waits_now.1 below in_term prepares))
  where
    further : (next : ℕ) → cursor_at (after_event event (after_events n events)) ≡ Some next → cursor ≤ next →
        (after_event event (after_events n events)).durable.term ≡ term → (after_event event (after_events n events)).volatile.role ≡ Preparing → cursor < next
    further next there below in_term prepares = one (next == cursor) refl where
      one : (same : Bool) → (next == cursor) ≡ same → cursor < next
      one false e = omega (arith, below, eqb-false next cursor e)
      one true e =
          let is : next ≡ cursor = eqb-true next cursor e in
          let longer = stays_longer term cursor event events n stays' (prepares, in_term, there ∙ ap Some is) in
          absurd (true≢false (sym covered ∙ enough_move_on term cursor n (events ++ event ∷ []) waits longer))

-- an event by which nobody answers covers nothing new
not_covered :
    (term cursor : ℕ) (n : Node) (events : List Event) (event : Event) → Waits n.shape n.me n.durable n.volatile → StaysAt term cursor n events →
    ((member : ℕ) → is_answer_of term cursor member event ≡ false) →
    is_covered n.shape n.me (λ member. has_answered term cursor member (events ++ event ∷ [])) ≡ true → ⊥
not_covered term cursor n events event waits stays' none covered =
    true≢false (sym covered
    ∙ same_covered n.shape n.me (λ member. has_answered term cursor member (events ++ event ∷ [])) (λ member. has_answered term cursor member events)
    (λ member. answered_before term cursor event member (none member) events)
    ∙ enough_move_on term cursor n events waits stays')

-- an answer in its term makes it go on
answer_of_term :
    (n : Node) (term sender receiver start last : ℕ) (slots : List Entry) → n.volatile.role ≡ Preparing → n.durable.term ≡ term →
    GoesOn term (after_event (Frame (messages.Peer sender receiver term (peers.Answer start last slots))) n)
answer_of_term n term sender receiver start last slots prepares in_term =
    want_keeps told (λ act. GoesOn term act.node) goes_on (λ leads. new_want_keeps told (GoesOn term) goes_on)
  where
    body : Peer
    body = peers.Answer start last slots

    told : Node
    told = (act_of_message (messages.Peer sender receiver term body) n).node

    goes_on : GoesOn term told
    goes_on =
        cond_both (nat_lt term n.durable.term) (act_of_lower_term n sender body) (followed_by (act_of_term term n) (λ now. act_of_peer now sender body))
        (λ act. GoesOn term act.node) (λ lower. absurd (omega (arith, ltb-true term n.durable.term lower, in_term)))
        (λ current.
        cond_both (nat_lt n.durable.term term) (act_of_higher_term term n) (stays n) (λ act. GoesOn term (followed_by act (λ now. act_of_peer now sender body)).node)
        (λ higher. absurd (omega (arith, ltb-true n.durable.term term higher, in_term)))
        (λ same.
        subst (λ t. GoesOn t (act_of_peer n sender body).node) in_term
        (answer_goes_on n n.volatile.role (record { sender = sender; start = start; last = last; slots = slots }) prepares prepares)))

pub enough_answers_move : EnoughAnswersMove
enough_answers_move term cursor n events (Tick word) waits stays' covered = absurd (not_covered term cursor n events (Tick word) waits stays' (λ member. refl) covered)
enough_answers_move term cursor n events (Call place request) waits stays' covered =
    absurd (not_covered term cursor n events (Call place request) waits stays' (λ member. refl) covered)
enough_answers_move term cursor n events (Frame m) waits stays' covered = of_message m covered where
  Covered : Message → Type 0
  Covered it = is_covered n.shape n.me (λ member. has_answered term cursor member (events ++ Frame it ∷ [])) ≡ true

  none_by : (it : Message) → ((member : ℕ) → is_answer_of term cursor member (Frame it) ≡ false) → Covered it → ⊥
  none_by it none is = not_covered term cursor n events (Frame it) waits stays' none is

  of_answer : (sender receiver at start last : ℕ) (slots : List Entry) → Covered (messages.Peer sender receiver at (peers.Answer start last slots)) →
      HasMovedOn term cursor (after_event (Frame (messages.Peer sender receiver at (peers.Answer start last slots))) (after_events n events))
  of_answer sender receiver at start last slots is = one (at == term) refl where
    it : Message
    it = messages.Peer sender receiver at (peers.Answer start last slots)

    one : (same : Bool) → (at == term) ≡ same → HasMovedOn term cursor (after_event (Frame it) (after_events n events))
    one false e = absurd (none_by it (λ member. ap (λ b. b && shows_at (record { sender = sender; start = start; last = last; slots = slots }) cursor member) e) is)
    one true e =
        let here : IsAt term cursor (after_events n events) = last_at term cursor events n stays' in
        let in_term : (after_events n events).durable.term ≡ at = here.1 ∙ sym (eqb-true at term e) in
        moved_on term cursor (Frame it) n events waits stays' is
        (subst (λ t. GoesOn t (after_event (Frame it) (after_events n events))) (eqb-true at term e)
        (answer_of_term (after_events n events) at sender receiver start last slots here.0 in_term))

  of_message : (it : Message) → Covered it → HasMovedOn term cursor (after_event (Frame it) (after_events n events))
  of_message (messages.Peer sender receiver at (peers.Answer start last slots)) is = of_answer sender receiver at start last slots is
  of_message (messages.Peer sender receiver at (peers.Vote last_term last)) is = absurd (none_by _ (λ member. refl) is)
  of_message (messages.Peer sender receiver at (peers.VoteReply granted)) is = absurd (none_by _ (λ member. refl) is)
  of_message (messages.Peer sender receiver at (peers.Append prev prev_term commit es)) is = absurd (none_by _ (λ member. refl) is)
  of_message (messages.Peer sender receiver at (peers.Matched prev count mask)) is = absurd (none_by _ (λ member. refl) is)
  of_message (messages.Peer sender receiver at (peers.Refused next)) is = absurd (none_by _ (λ member. refl) is)
  of_message (messages.Peer sender receiver at (peers.Ask start)) is = absurd (none_by _ (λ member. refl) is)
  of_message (messages.Request receiver request) is = absurd (none_by _ (λ member. refl) is)
  of_message (messages.Answered sender client seq reply) is = absurd (none_by _ (λ member. refl) is)
