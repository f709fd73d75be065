-- A leader sends to each member from an index at most behind its log: so it was when it began, and all that it takes from what it
-- heard lies within its log.
use Rattle.std.proofs.Common.{◌≡◌, ℕ, ◌+◌, ◌≤◌, ◌&&◌, ◌==◌, List, [], ◌∷◌, length, Option, None, Some, subst, arith, le_trans, refl, sym}
use Rattle.std.specs.Prelude.{unwrap_or}
use Rattle.std.specs.List.{All}
use Rattle.std.proofs.lemmas.Bool.{cond_both, and_parts, leb-true}
use Rattle.std.proofs.lemmas.List.Elements.{All-cons, All-head, All-tail, All-weaker}
use Rattle.craft_base.specs.Knowledge.{Heard, Told, Beat, From, Voted, Matched, Refused, Answered, has_matched, is_admitted, least_of, least_refused, match_index, matched_to, next_index, refused_next, told_by}
use Rattle.entry_frames.specs.declared.role.Role.{Role}
use Rattle.entry_frames.specs.declared.role.Role.TheVariants.{Follower, Candidate, Preparing, Leader}
use Rattle.coded_append.proofs.First.{start_is}
use Rattle.world_model.specs.Nodes.{Node}
use Rattle.coded_append.specs.Starts.{start_for}
use Rattle.coded_append.specs.declared.modes.Mode.{Mode}
use Rattle.coded_append.specs.declared.modes.Mode.TheVariants.{Coded, Complete}
use Rattle.world_model.specs.Ranges.{IsOfNoLog}
use Rattle.world_model.specs.Rules.Say.{mode_of_leader, start_of}
use Rattle.leader_prep.specs.Pages.{Page}
use Rattle.protocol.specs.History.{History}
use Rattle.bridge.specs.Agreement.{ItemWithin, KnowsWithin, PagesAgree}

-- ---- what a node knows

item_within_more : (last more : ℕ) → last ≤ more → (item : Heard) → ItemWithin last item → ItemWithin more item
item_within_more last more le Beat within = tt
item_within_more last more le (From sender at (Voted granted)) within = tt
item_within_more last more le (From sender at (Matched prev count mask)) within = le_trans within le
item_within_more last more le (From sender at (Refused next)) within = le_trans within le
item_within_more last more le (From sender at Answered) within = tt

-- what says nothing of a log was heard with any
no_log_within : (last : ℕ) (item : Heard) → IsOfNoLog item → ItemWithin last item
no_log_within last Beat none = tt
no_log_within last (From sender at (Voted granted)) none = tt
no_log_within last (From sender at (Matched prev count mask)) none = absurd none
no_log_within last (From sender at (Refused next)) none = absurd none
no_log_within last (From sender at Answered) none = tt

pub no_logs_within : (last : ℕ) (heard : List Heard) → All IsOfNoLog heard → All (ItemWithin last) heard
no_logs_within last heard all = All-weaker IsOfNoLog (ItemWithin last) (no_log_within last) heard all

pub items_within_more : (last more : ℕ) → last ≤ more → (heard : List Heard) → All (ItemWithin last) heard → All (ItemWithin more) heard
items_within_more last more le heard all = All-weaker (ItemWithin last) (ItemWithin more) (item_within_more last more le) heard all

-- a follower may have heard anything
pub knows_follower : {role : Role} (last first : ℕ) (heard : List Heard) → role ≡ Follower → KnowsWithin role last first heard
knows_follower last first heard follows =
    let any : KnowsWithin Follower last first heard = tt in
    subst (λ role. KnowsWithin role last first heard) (sym follows) any

-- what a node of that role may hear
abbrev pub IsHearable : Role → (last : ℕ) → Heard → Type 0
IsHearable Follower last item = Unit {0}
IsHearable Candidate last item = IsOfNoLog item
IsHearable Preparing last item = IsOfNoLog item
IsHearable Leader last item = ItemWithin last item

pub no_log_hearable : (role : Role) (last : ℕ) (item : Heard) → IsOfNoLog item → IsHearable role last item
no_log_hearable Follower last item none = tt
no_log_hearable Candidate last item none = none
no_log_hearable Preparing last item none = none
no_log_hearable Leader last item none = no_log_within last item none

pub leader_hearable : {role : Role} (last : ℕ) (item : Heard) → role ≡ Leader → ItemWithin last item → IsHearable role last item
leader_hearable last item leads within = subst (λ role. IsHearable role last item) (sym leads) within

pub knows_hearing :
    (role : Role) (last first : ℕ) (item : Heard) (heard : List Heard) → IsHearable role last item → KnowsWithin role last first heard →
    KnowsWithin role last first (item ∷ heard)
knows_hearing Follower last first item heard within knows = tt
knows_hearing Candidate last first item heard none knows = All-cons IsOfNoLog item heard none knows
knows_hearing Preparing last first item heard none knows = All-cons IsOfNoLog item heard none knows
knows_hearing Leader last first item heard within knows = (knows.0, All-cons (ItemWithin last) item heard within knows.1)

-- who follows or leads sees no pages
pub pages_follower : {role : Role} (h : History) (term : ℕ) (cursor : Option ℕ) (pages : List Page) → role ≡ Follower → PagesAgree role h term cursor pages
pages_follower h term cursor pages follows =
    let none : PagesAgree Follower h term cursor pages = tt in
    subst (λ role. PagesAgree role h term cursor pages) (sym follows) none

pub pages_leader : {role : Role} (h : History) (term : ℕ) (cursor : Option ℕ) (pages : List Page) → role ≡ Leader → PagesAgree role h term cursor pages
pages_leader h term cursor pages leads =
    let none : PagesAgree Leader h term cursor pages = tt in
    subst (λ role. PagesAgree role h term cursor pages) (sym leads) none

-- ---- what was heard lies within the log

module _ (member last : ℕ) where
  no_match_within : (sender at : ℕ) (told : Told) → matched_to (Some told) ≡ 0 → matched_to (told_by member (From sender at told)) ≤ last
  no_match_within sender at told none =
      cond_both ((sender == member) && is_admitted at told) (Some told) None (λ it. matched_to it ≤ last) (λ of. omega (arith, none)) (λ other. omega arith)

  item_match_within : (item : Heard) → ItemWithin last item → matched_to (told_by member item) ≤ last
  item_match_within Beat within = omega arith
  item_match_within (From sender at (Voted granted)) within = no_match_within sender at (Voted granted) refl
  item_match_within (From sender at (Matched prev count mask)) within =
      cond_both ((sender == member) && is_admitted at (Matched prev count mask)) (Some (Matched prev count mask)) None (λ it. matched_to it ≤ last)
      (λ of. le_trans (leb-true _ _ (and_parts (sender == member) _ of).1) within) (λ other. omega arith)
  item_match_within (From sender at (Refused next)) within = no_match_within sender at (Refused next) refl
  item_match_within (From sender at Answered) within = no_match_within sender at Answered refl

  match_within : (heard : List Heard) → All (ItemWithin last) heard → match_index member heard ≤ last
  match_within [] all = omega arith
  match_within (item ∷ heard) all =
      let here = item_match_within item (All-head (ItemWithin last) item heard all) in
      let there = match_within heard (All-tail (ItemWithin last) item heard all) in
      omega (arith, here, there)

  -- at most behind the log, if there is one
  abbrev IsNext : Option ℕ → Type 0
  IsNext None = Unit {0}
  IsNext (Some next) = next ≤ last + 1

  least_next : (one other : Option ℕ) → IsNext one → IsNext other → IsNext (least_of one other)
  least_next None other a b = b
  least_next (Some n) None a b = a
  least_next (Some n) (Some m) a b = omega (arith, a, b)

  no_next_within : (sender at : ℕ) (told : Told) → refused_next (Some told) ≡ None → IsNext (refused_next (told_by member (From sender at told)))
  no_next_within sender at told none =
      cond_both ((sender == member) && is_admitted at told) (Some told) None (λ it. IsNext (refused_next it)) (λ of. subst IsNext (sym none) tt) (λ other. tt)

  item_next_within : (item : Heard) → ItemWithin last item → IsNext (refused_next (told_by member item))
  item_next_within Beat within = tt
  item_next_within (From sender at (Voted granted)) within = no_next_within sender at (Voted granted) refl
  item_next_within (From sender at (Matched prev count mask)) within = no_next_within sender at (Matched prev count mask) refl
  item_next_within (From sender at (Refused next)) within =
      cond_both ((sender == member) && is_admitted at (Refused next)) (Some (Refused next)) None (λ it. IsNext (refused_next it))
      (λ of. let admitted : next ≤ at + 1 = leb-true _ _ (and_parts (sender == member) _ of).1 in omega (arith, admitted, within)) (λ other. tt)
  item_next_within (From sender at Answered) within = no_next_within sender at Answered refl

  refused_within : (heard : List Heard) → All (ItemWithin last) heard → IsNext (least_refused member heard)
  refused_within [] all = tt
  refused_within (item ∷ heard) all =
      least_next (refused_next (told_by member item)) (least_refused member heard) (item_next_within item (All-head (ItemWithin last) item heard all))
      (refused_within heard (All-tail (ItemWithin last) item heard all))

  or_first : (found : Option ℕ) (first : ℕ) → IsNext found → first ≤ last + 1 → unwrap_or found first ≤ last + 1
  or_first None first next le = le
  or_first (Some next) first is le = is

  next_within : (heard : List Heard) (first : ℕ) → first ≤ last + 1 → All (ItemWithin last) heard → next_index member heard first ≤ last + 1
  next_within heard first le all =
      cond_both (has_matched member heard) (match_index member heard + 1) (unwrap_or (least_refused member heard) first) (λ next. next ≤ last + 1)
      (λ matched. let within = match_within heard all in omega (arith, within))
      (λ none. or_first (least_refused member heard) first (refused_within heard all) le)

pub starts_within :
    (n : Node) → n.volatile.role ≡ Leader → KnowsWithin n.volatile.role (length n.durable.log) n.volatile.first n.volatile.heard →
    (member : ℕ) → start_of n member ≤ length n.durable.log + 1
starts_within n leads knows member =
    let leader : KnowsWithin Leader (length n.durable.log) n.volatile.first n.volatile.heard =
    subst (λ role. KnowsWithin role (length n.durable.log) n.volatile.first n.volatile.heard) leads knows in
    in_mode (mode_of_leader n) (next_within member (length n.durable.log) n.volatile.heard n.volatile.first leader.0 leader.1)
  where
    in_mode :
        (mode : Mode) → next_index member n.volatile.heard n.volatile.first ≤ length n.durable.log + 1 →
        start_for mode member n.durable.commit n.durable.log n.volatile.heard n.volatile.first ≤ length n.durable.log + 1
    in_mode Coded next = next
    in_mode Complete next = le_trans (start_is member n.durable.commit n.durable.log n.volatile.heard n.volatile.first).no_later next
