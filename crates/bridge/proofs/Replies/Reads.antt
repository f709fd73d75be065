-- The requests that were applied and wait for a value: each found the version that it waits for, in a front of what is committed. What it
-- is told once the log holds that value whole is told of the commands of that front.
use Rattle.std.proofs.Common.{◌≡◌, ℕ, zero, suc, ◌≤◌, ◌==◌, nat_lt, min, true, List, [], ◌∷◌, ◌++◌, length, map, filter, reverse, take, Option, None, Some, get_or, refl, sym, ap, subst, ◌∙◌, inr, arith, le_trans, length-append, length-take, length-take-le}
use Rattle.std.specs.List.{All}
use Rattle.std.proofs.lemmas.Bool.{eqb-true}
use Rattle.std.proofs.lemmas.List.{length-map, length-reverse, take-append-le}
use Rattle.std.proofs.lemmas.List.Elements.{All-append, All-cons, All-filter, All-map, All-weaker, filter_passes}
use Rattle.std.proofs.lemmas.Option.{same_Some}
use Rattle.craft_base.specs.declared.command.Entry.{Entry}
use Rattle.craft_base.specs.declared.command.Head.{Head}
use Rattle.craft_base.specs.declared.command.Reply.TheVariants as replies
use Rattle.entry_frames.specs.Durable.{complete_at}
use Rattle.entry_frames.specs.Logs.{entry_at}
use Rattle.entry_frames.specs.declared.role.Role.{Role}
use Rattle.entry_frames.specs.declared.role.Role.TheVariants.{Leader}
use Rattle.entry_frames.proofs.Stored.{complete_length}
use Rattle.kv_apply.specs.Commands.{heads_of, kept_of, map_outcome}
use Rattle.kv_apply.specs.Laws.{IsKept, TellsIndexes}
use Rattle.kv_apply.specs.declared.outcome.Kept.TheVariants as keeps
use Rattle.kv_apply.specs.declared.outcome.Outcome.{Outcome}
use Rattle.kv_apply.specs.declared.outcome.Outcome.TheVariants as outcomes
use Rattle.kv_apply.proofs.Once.{kept_is_kept}
use Rattle.kv_apply.proofs.Within.{same_within}
use Rattle.world_model.specs.Rules.Applying.{awaited, reads_with, reply_to, value_of, value_reply, version_awaited}
use Rattle.world_model.specs.Rules.Answer.{readers, values_told}
use Rattle.world_model.specs.declared.call.Called.{Called}
use Rattle.bridge.proofs.Replies.Calls.{IsToldBy}
use Rattle.bridge.proofs.Replies.Standing.{same_heads, same_long, told_by_commands}

-- ---- what is waited for

-- the request found that version in a front of the log that is committed
pub record ReadStands (log : List Entry) (commit : ℕ) (r : Called) : Type 0 where
  pub front : ℕ
  pub by_commit : front ≤ commit
  pub within : front ≤ length log
  pub found : map_outcome r.client r.seq (heads_of (take front log)) ≡ Some (outcomes.Found r.index)
  pub indexes : TellsIndexes front (outcomes.Found r.index)

-- so has each that a leader hasn't answered; nobody else waits for a value
abbrev pub ReadsStand : Role → List Entry → (commit : ℕ) → List Called → Type 0
ReadsStand Leader log commit reads = All (ReadStands log commit) reads
ReadsStand _ log commit reads = reads ≡ []

-- ---- as the log grows, and is committed further

pub reads_more : (log more : List Entry) (commit : ℕ) (reads : List Called) → All (ReadStands log commit) reads → All (ReadStands (log ++ more) commit) reads
reads_more log more commit reads all = All-weaker (ReadStands log commit) (ReadStands (log ++ more) commit) one reads all where
  one : (r : Called) → ReadStands log commit r → ReadStands (log ++ more) commit r
  one r stands =
      let same : take stands.front (log ++ more) ≡ take stands.front log = take-append-le stands.front log more stands.within in
      record {
        front = stands.front;
        by_commit = stands.by_commit;
        within = omega (arith, stands.within, length-append log more);
        found = ap (λ (es : List Entry). map_outcome r.client r.seq (heads_of es)) same ∙ stands.found;
        indexes = stands.indexes;
      }

pub read_later : (log : List Entry) (commit now : ℕ) → commit ≤ now → (r : Called) → ReadStands log commit r → ReadStands log now r
read_later log commit now le r stands = record {
  front = stands.front;
  by_commit = le_trans stands.by_commit le;
  within = stands.within;
  found = stands.found;
  indexes = stands.indexes;
}

pub reads_later : (log : List Entry) (commit now : ℕ) (reads : List Called) → commit ≤ now → All (ReadStands log commit) reads → All (ReadStands log now) reads
reads_later log commit now reads le all = All-weaker (ReadStands log commit) (ReadStands log now) (read_later log commit now le) reads all

-- a value changes no head
same_heads_taken :
    (n : ℕ) (log : List Entry) (position : ℕ) (bytes : List ℕ) →
    map (λ (e : Entry). e.head) (take n (complete_at log position bytes)) ≡ map (λ (e : Entry). e.head) (take n log)
same_heads_taken zero log position bytes = refl
same_heads_taken (suc n) [] position bytes = refl
same_heads_taken (suc n) (e ∷ log) zero bytes = refl
same_heads_taken (suc n) (e ∷ log) (suc position) bytes = ap (λ (heads : List Head). e.head ∷ heads) (same_heads_taken n log position bytes)

pub reads_completed :
    (log : List Entry) (position : ℕ) (bytes : List ℕ) (commit : ℕ) (reads : List Called) → All (ReadStands log commit) reads →
    All (ReadStands (complete_at log position bytes) commit) reads
reads_completed log position bytes commit reads all = All-weaker (ReadStands log commit) (ReadStands (complete_at log position bytes) commit) one reads all where
  one : (r : Called) → ReadStands log commit r → ReadStands (complete_at log position bytes) commit r
  one r stands = record {
    front = stands.front;
    by_commit = stands.by_commit;
    within = omega (arith, stands.within, complete_length log position bytes);
    found =
        ap (λ (heads : List Head). map_outcome r.client r.seq (reverse heads)) (same_heads_taken stands.front log position bytes) ∙ stands.found;
    indexes = stands.indexes;
  }

-- ---- who begins to wait

awaited_is : (version : ℕ) (value : Option (List ℕ)) (v : ℕ) → awaited version value ≡ Some v → version ≡ v
awaited_is version None v is = same_Some version v is
awaited_is version (Some value) v is = cc

pub found_awaited : (log : List Entry) (o : Outcome) (version : ℕ) → version_awaited log o ≡ Some version → o ≡ outcomes.Found version
found_awaited log (outcomes.Found at) version is = ap outcomes.Found (awaited_is at (value_of (entry_at log at)) version is)
found_awaited log (outcomes.Done at) version is = cc
found_awaited log (outcomes.Differs at) version is = cc
found_awaited log (outcomes.Gone was_there) version is = cc
found_awaited log outcomes.Nothing version is = cc
found_awaited log outcomes.Old version is = cc

-- a request more that stands
pub reads_with_stand :
    (log : List Entry) (commit : ℕ) (c : Called) (want : Option ℕ) (reads : List Called) →
    ((version : ℕ) → want ≡ Some version → ReadStands log commit (record c { index = version })) → All (ReadStands log commit) reads →
    All (ReadStands log commit) (reads_with c want reads)
reads_with_stand log commit c None reads new all = all
reads_with_stand log commit c (Some version) reads new all =
    let it : Called = record c { index = version } in
    All-append (ReadStands log commit) (filter (λ r. nat_lt r.client it.client) reads) (it ∷ filter (λ r. nat_lt it.client r.client) reads)
    (All-filter (λ r. nat_lt r.client it.client) (ReadStands log commit) reads all)
    (All-cons (ReadStands log commit) it (filter (λ r. nat_lt it.client r.client) reads) (new version refl)
    (All-filter (λ r. nat_lt it.client r.client) (ReadStands log commit) reads all))

pub heads_many : (log : List Entry) → length (heads_of log) ≡ length log
heads_many log = length-reverse (map (λ (e : Entry). e.head) log) ∙ length-map log (λ (e : Entry). e.head)

-- ---- as a request comes again

front_again : (n : ℕ) (log : List Entry) → take (length (take n log)) log ≡ take n log
front_again zero log = refl
front_again (suc n) [] = refl
front_again (suc n) (e ∷ log) = ap (λ (rest : List Entry). e ∷ rest) (front_again n log)

pub kept_stands :
    (log : List Entry) (commit : ℕ) (c : Called) (o : Outcome) → kept_of c.client c.seq (heads_of (take commit log)) ≡ keeps.Same o → (version : ℕ) →
    version_awaited log o ≡ Some version → ReadStands log commit (record c { index = version })
kept_stands log commit c o same version is =
    let heads : List Head = heads_of (take commit log) in
    let kept : IsKept c.client c.seq heads (keeps.Same o) = subst (IsKept c.client c.seq heads) same (kept_is_kept c.client c.seq heads) in
    let found : o ≡ outcomes.Found version = found_awaited log o version is in
    let many : length heads ≡ length (take commit log) = heads_many (take commit log) in
    let short : length (take commit log) ≡ min commit (length log) = length-take commit log in
    record {
      front = length (take commit log);
      by_commit = omega (arith, short);
      within = omega (arith, short);
      found = ap (λ (es : List Entry). map_outcome c.client c.seq (heads_of es)) (front_again commit log) ∙ kept.1 ∙ ap (λ (it : Outcome). Some it) found;
      indexes = subst (λ (n : ℕ). TellsIndexes n (outcomes.Found version)) many (subst (TellsIndexes (length heads)) found (same_within c.client c.seq heads o same));
    }

-- ---- what is told

read_told :
    (log : List Entry) (commit : ℕ) (r : Called) (value : List ℕ) → ReadStands log commit r → value_of (entry_at log r.index) ≡ Some value →
    IsToldBy log commit (reply_to r (replies.Value r.index value))
read_told log commit r value stands whole = (
  stands.front,
  stands.by_commit,
  λ commands each.
      let long : length (take stands.front log) ≡ length commands = same_long (take stands.front log) commands each in
      let taken : length (take stands.front log) ≡ stands.front = length-take-le stands.front log stands.within in
      let indexes : TellsIndexes (length commands) (outcomes.Found r.index) = (stands.indexes.0, omega (arith, stands.indexes.1, long, taken)) in
      inr (inr (record {
        came_to = outcomes.Found r.index;
        is = ap (map_outcome r.client r.seq) (sym (same_heads (take stands.front log) commands each)) ∙ stands.found;
        indexes = indexes;
        tells =
            told_by_commands log stands.front commands each (outcomes.Found r.index) indexes (replies.Value r.index value) (ap (value_reply r.index) whole);
      })),
)

-- those who wait for a version are told its value, once the log has it whole
pub values_are_told :
    (log : List Entry) (commit index : ℕ) (value : List ℕ) (reads : List Called) → value_of (entry_at log index) ≡ Some value → All (ReadStands log commit) reads →
    All (IsToldBy log commit) (values_told index value reads)
values_are_told log commit index value reads whole all =
    All-map (IsToldBy log commit) (λ r. reply_to r (replies.Value index value)) (readers index reads)
    (λ k d lt.
    let r : Called = get_or (readers index reads) k d in
    let passes : (r.index == index) ≡ true = filter_passes (λ r. r.index == index) reads k d lt in
    let stands : ReadStands log commit r = All-filter (λ r. r.index == index) (ReadStands log commit) reads all k d lt in
    let same : r.index ≡ index = eqb-true r.index index passes in
    subst (λ (i : ℕ). IsToldBy log commit (reply_to r (replies.Value i value))) same
    (read_told log commit r value stands (subst (λ (i : ℕ). value_of (entry_at log i) ≡ Some value) (sym same) whole)))
