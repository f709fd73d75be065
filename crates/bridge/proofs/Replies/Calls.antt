-- The requests that a leader hasn't answered yet: each stands in its log. Where it applies one, what it tells is told of the commands
-- up to there.
use Rattle.std.proofs.Common.{◌≡◌, ℕ, zero, suc, ◌+◌, ◌-◌, ◌<◌, ◌≤◌, ◌==◌, Bool, true, List, [], ◌∷◌, ◌++◌, length, map, filter, take, Option, None, Some, slice_get, refl, sym, ap, subst, ◌∙◌, inl, inr, arith, length-append}
use Rattle.std.specs.List.{All}
use Rattle.std.specs.Option.{option_to_list}
use Rattle.std.proofs.lemmas.Bool.{cases_Bool, eqb-true}
use Rattle.std.proofs.lemmas.List.{length-map, length-reverse}
use Rattle.std.proofs.lemmas.List.Elements.{All-append, All-cons, All-filter, All-head, All-nil, All-same, All-tail, All-weaker}
use Rattle.std.proofs.lemmas.Option.{slice_get_within}
use Rattle.craft_base.specs.declared.command.Entry.{Entry}
use Rattle.craft_base.specs.declared.command.Head.{Head}
use Rattle.craft_base.specs.declared.command.Reply.{Reply}
use Rattle.entry_frames.specs.Logs.{entry_at}
use Rattle.entry_frames.specs.declared.role.Role.{Role}
use Rattle.entry_frames.specs.declared.role.Role.TheVariants.{Follower, Candidate, Preparing, Leader}
use Rattle.kv_apply.specs.Commands.{answer, greatest_number, heads_of, is_asked, map_outcome, told}
use Rattle.kv_apply.specs.Laws.{IsAnswer, TellsIndexes, is_outrun}
use Rattle.kv_apply.specs.declared.outcome.Outcome.{Outcome}
use Rattle.kv_apply.proofs.Logs.{heads_with}
use Rattle.kv_apply.proofs.Once.{answered_by_one_map}
use Rattle.kv_apply.proofs.Within.{answer_within}
use Rattle.world_model.specs.Rules.Applying.{call_at, newly_committed, replies_among, replies_at, replies_for, reply_of, reply_to}
use Rattle.world_model.specs.Safety.{heads_in, value_in}
use Rattle.world_model.specs.Traces.{Command}
use Rattle.world_model.specs.declared.call.Called.{Called}
use Rattle.world_model.specs.declared.call.ClientReply.{ClientReply}
use Rattle.bridge.proofs.Replies.Lists.{found_is, in_range, still_there, taken_more}
use Rattle.bridge.proofs.Replies.Outcomes.{IsTold, greater_in}
use Rattle.bridge.proofs.Replies.Standing.{StandForEach, same_heads, same_long, told_by_commands}

-- ---- what is waited for

-- the entry is that client's request of that number
abbrev pub IsAskedBy : Called → Option Entry → Type 0
IsAskedBy c None = ⊥
IsAskedBy c (Some entry) = (is_asked entry.head ≡ true) × (entry.head.client ≡ c.client) × (entry.head.seq ≡ c.seq)

-- the request has its entry in the log
abbrev pub CallStands : List Entry → Called → Type 0
CallStands log c = IsAskedBy c (entry_at log c.index)

-- so has each that a leader hasn't answered; nobody else waits to answer any
abbrev pub CallsStand : Role → List Entry → List Called → Type 0
CallsStand Leader log calls = All (CallStands log) calls
CallsStand _ log calls = calls ≡ []

pub each_stands : (role : Role) (log : List Entry) (calls : List Called) → CallsStand role log calls → All (CallStands log) calls
each_stands Leader log calls stand = stand
each_stands Follower log calls none = All-same (CallStands log) calls [] none (All-nil (CallStands log))
each_stands Candidate log calls none = All-same (CallStands log) calls [] none (All-nil (CallStands log))
each_stands Preparing log calls none = All-same (CallStands log) calls [] none (All-nil (CallStands log))

pub some_stand : (test : Called → Bool) (role : Role) (log : List Entry) (calls : List Called) → CallsStand role log calls → CallsStand role log (filter test calls)
some_stand test Leader log calls stand = All-filter test (CallStands log) calls stand
some_stand test Follower log calls none = ap (filter test) none
some_stand test Candidate log calls none = ap (filter test) none
some_stand test Preparing log calls none = ap (filter test) none

-- ---- in a log that grew

asked_there :
    (c : Called) (found : Option Entry) (log more : List Entry) (place : ℕ) → slice_get log place ≡ found → IsAskedBy c found →
    IsAskedBy c (slice_get (log ++ more) place)
asked_there c None log more place here asked = absurd asked
asked_there c (Some entry) log more place here asked =
    subst (IsAskedBy c) (sym (still_there log more place (slice_get_within log place entry here) ∙ here)) asked

asked_more : (c : Called) (index : ℕ) (log more : List Entry) → IsAskedBy c (entry_at log index) → IsAskedBy c (entry_at (log ++ more) index)
asked_more c zero log more asked = asked
asked_more c (suc place) log more asked = asked_there c (slice_get log place) log more place refl asked

pub calls_more : (log more : List Entry) (calls : List Called) → All (CallStands log) calls → All (CallStands (log ++ more)) calls
calls_more log more calls stand =
    All-weaker (CallStands log) (CallStands (log ++ more)) (λ c asked. asked_more c c.index log more asked) calls stand

last_there : (log : List Entry) (entry : Entry) → slice_get (log ++ entry ∷ []) (length log) ≡ Some entry
last_there [] entry = refl
last_there (first ∷ log) entry = last_there log entry

-- a request that is added stands at the end
pub added_stands :
    (log : List Entry) (entry : Entry) (place client seq : ℕ) → is_asked entry.head ≡ true → entry.head.client ≡ client → entry.head.seq ≡ seq →
    CallStands (log ++ entry ∷ []) (record { index = length (log ++ entry ∷ []); place = place; client = client; seq = seq })
added_stands log entry place client seq asked of number =
    let c : Called = record { index = length (log ++ entry ∷ []); place = place; client = client; seq = seq } in
    let long : length (log ++ entry ∷ []) ≡ length log + 1 = length-append log (entry ∷ []) in
    let next : suc (length log) ≡ length (log ++ entry ∷ []) = omega (arith, long) in
    let is : IsAskedBy c (Some entry) = (asked, of, number) in
    subst (λ (index : ℕ). IsAskedBy c (entry_at (log ++ entry ∷ []) index)) next (subst (IsAskedBy c) (sym (last_there log entry)) is)

-- ---- what is told

-- it is told of the commands for which so much of the log stands
abbrev pub IsToldUpTo : List Entry → ℕ → ClientReply → Type 0
IsToldUpTo log n r = (commands : List Command) → StandForEach (take n log) commands → IsTold commands r.client r.seq r.reply

-- so it is for some front of what is committed
abbrev pub IsToldBy : (log : List Entry) (commit : ℕ) → ClientReply → Type 0
IsToldBy log commit r = (n : ℕ) × (n ≤ commit) × IsToldUpTo log n r

pub if_any_told :
    (P : ClientReply → Type 0) (f : Reply → ClientReply) (found : Option Reply) → ((reply : Reply) → found ≡ Some reply → P (f reply)) →
    All P (map f (option_to_list found))
if_any_told P f None each = All-nil P
if_any_told P f (Some reply) each = All-cons P (f reply) [] (each reply refl) (All-nil P)

-- ---- one entry

module _ (log : List Entry) (place : ℕ) (entry : Entry) (here : slice_get log place ≡ Some entry) where
  -- the commands before it
  abbrev earlier : List Head
  earlier = heads_of (take place log)

  pub heads_here : heads_of (take (suc place) log) ≡ entry.head ∷ earlier
  heads_here = ap (λ it. heads_of it) (taken_more log place entry here) ∙ heads_with (take place log) entry

  module _ (asked : is_asked entry.head ≡ true) (commands : List Command) (stand : StandForEach (take (suc place) log) commands) where
    heads_are : heads_in commands ≡ entry.head ∷ earlier
    heads_are = sym (same_heads (take (suc place) log) commands stand) ∙ heads_here

    indexes_here : TellsIndexes (length commands) (answer entry.head earlier)
    indexes_here =
        let long : length (take (suc place) log) ≡ length commands = same_long (take (suc place) log) commands stand in
        let one_more : length (take (suc place) log) ≡ length (take place log) + 1 =
        ap length (taken_more log place entry here) ∙ length-append (take place log) (entry ∷ []) in
        let before : length earlier ≡ length (take place log) =
        length-reverse (map (λ (e : Entry). e.head) (take place log)) ∙ length-map (take place log) (λ (e : Entry). e.head) in
        let same : length earlier + 1 ≡ length commands = omega (arith, long, one_more, before) in
        subst (λ (n : ℕ). TellsIndexes n (answer entry.head earlier)) same (answer_within entry.head earlier)

    told_here :
        (reply : Reply) → reply_of log (answer entry.head earlier) ≡ Some reply → IsTold commands entry.head.client entry.head.seq reply
    told_here reply is =
        let o : Outcome = answer entry.head earlier in
        let by : IsAnswer entry.head (entry.head ∷ earlier) o = answered_by_one_map entry.head earlier in
        let same : reply ≡ told (value_in commands) o =
        told_by_commands log (suc place) commands stand o indexes_here reply is in
        elim (cases_Bool (is_outrun entry.head.seq (greatest_number entry.head.client (entry.head ∷ earlier)))) [
          | inl outrun ↦ inr (inl (
            greater_in entry.head.client entry.head.seq commands
                (ap (λ (heads : List Head). is_outrun entry.head.seq (greatest_number entry.head.client heads)) heads_are ∙ outrun),
            same ∙ ap (told (value_in commands)) (by.old asked outrun),
          ))
          | inr highest ↦ inr (inr (record {
            came_to = o;
            is = ap (map_outcome entry.head.client entry.head.seq) heads_are ∙ by.told asked highest;
            indexes = indexes_here;
            tells = same;
          }))
        ]

-- ---- those at some indexes

module _ (log : List Entry) (calls : List Called) (stand : All (CallStands log) calls) where
  found_told :
      (place : ℕ) (call : Option Called) (found : Option Entry) → call_at (suc place) calls ≡ call → slice_get log place ≡ found →
      All (IsToldBy log (suc place)) (replies_for log call found (heads_of (take place log)))
  found_told place None found is here = All-nil (IsToldBy log (suc place))
  found_told place (Some c) None is here = All-nil (IsToldBy log (suc place))
  found_told place (Some c) (Some entry) is here =
      let of = found_is (CallStands log) (λ (c : Called). c.index == suc place) calls c is stand in
      let at : c.index ≡ suc place = eqb-true c.index (suc place) of.0 in
      let asked : IsAskedBy c (Some entry) = subst (IsAskedBy c) here (subst (λ (index : ℕ). IsAskedBy c (entry_at log index)) at of.1) in
      if_any_told (IsToldBy log (suc place)) (reply_to c) (reply_of log (answer entry.head (heads_of (take place log))))
      (λ reply told_so. (
        suc place,
        omega arith,
        λ commands each.
            subst (λ (client : ℕ). IsTold commands client c.seq reply) asked.1
            (subst (λ (seq : ℕ). IsTold commands entry.head.client seq reply) asked.2 (told_here log place entry here asked.0 commands each reply told_so)),
      ))

  index_told : (index : ℕ) → 1 ≤ index → All (IsToldBy log index) (replies_at log calls index)
  index_told zero from = absurd (omega (arith, from))
  index_told (suc place) from =
      let at : place ≡ suc place - 1 = omega arith in
      subst (λ before. All (IsToldBy log (suc place)) (replies_for log (call_at (suc place) calls) (slice_get log place) (heads_of (take before log)))) at
      (found_told place (call_at (suc place) calls) (slice_get log place) refl refl)

  -- one index at most as far as is committed
  no_further : (commit index : ℕ) → index ≤ commit → (replies : List ClientReply) → All (IsToldBy log index) replies → All (IsToldBy log commit) replies
  no_further commit index le replies all =
      All-weaker (IsToldBy log index) (IsToldBy log commit) (λ r by. (by.0, omega (arith, by.1, le), by.2)) replies all

  among_told : (commit : ℕ) (indexes : List ℕ) → All (λ i. (1 ≤ i) × (i ≤ commit)) indexes → All (IsToldBy log commit) (replies_among log calls indexes)
  among_told commit [] all = All-nil (IsToldBy log commit)
  among_told commit (index ∷ indexes) all =
      let first = All-head (λ i. (1 ≤ i) × (i ≤ commit)) index indexes all in
      All-append (IsToldBy log commit) (replies_at log calls index) (replies_among log calls indexes)
      (no_further commit index first.1 (replies_at log calls index) (index_told index first.0))
      (among_told commit indexes (All-tail (λ i. (1 ≤ i) × (i ≤ commit)) index indexes all))

  -- what is told as the commit index grows
  pub applying_told : (before now : ℕ) → before < now → All (IsToldBy log now) (replies_among log calls (newly_committed before now))
  applying_told before now grows =
      among_told now (newly_committed before now)
      (All-weaker (λ i. (before + 1 ≤ i) × (i < before + 1 + (now - before))) (λ i. (1 ≤ i) × (i ≤ now))
      (λ i within. (omega (arith, within.0), omega (arith, within.1, grows))) (newly_committed before now) (in_range (before + 1) (now - before)))
