-- As a leader applies entries, a request whose entry found a version that the log holds in part waits for it: it found it in the front
-- up to there.
use Rattle.std.proofs.Common.{◌≡◌, ℕ, zero, suc, ◌+◌, ◌-◌, ◌<◌, ◌≤◌, ◌==◌, List, [], ◌∷◌, length, take, Option, None, Some, slice_get, refl, sym, ap, subst, ◌∙◌, inl, inr, arith, le_refl, length-take-le}
use Rattle.std.specs.List.{All}
use Rattle.std.proofs.lemmas.Bool.{cases_Bool, eqb-true}
use Rattle.std.proofs.lemmas.List.Elements.{All-head, All-tail, All-weaker}
use Rattle.std.proofs.lemmas.Option.{slice_get_within}
use Rattle.craft_base.specs.declared.command.Entry.{Entry}
use Rattle.craft_base.specs.declared.command.Head.{Head}
use Rattle.entry_frames.specs.Logs.{entry_at}
use Rattle.entry_frames.specs.declared.role.Role.{Role}
use Rattle.entry_frames.specs.declared.role.Role.TheVariants.{Follower, Candidate, Preparing, Leader}
use Rattle.kv_apply.specs.Commands.{answer, greatest_number, heads_of, map_outcome}
use Rattle.kv_apply.specs.Laws.{IsAnswer, TellsIndexes, is_outrun}
use Rattle.kv_apply.specs.declared.outcome.Outcome.{Outcome}
use Rattle.kv_apply.specs.declared.outcome.Outcome.TheVariants as outcomes
use Rattle.kv_apply.proofs.Once.{answered_by_one_map}
use Rattle.kv_apply.proofs.Within.{answer_within}
use Rattle.world_model.specs.Rules.Applying.{call_at, newly_committed, reads_among, reads_at, reads_for, version_awaited}
use Rattle.world_model.specs.declared.call.Called.{Called}
use Rattle.bridge.proofs.Replies.Calls.{CallStands, CallsStand, IsAskedBy, heads_here}
use Rattle.bridge.proofs.Replies.Lists.{found_is, in_range}
use Rattle.bridge.proofs.Replies.Reads.{ReadStands, ReadsStand, found_awaited, heads_many, read_later, reads_later, reads_with_stand}

module _ (log : List Entry) (place : ℕ) (entry : Entry) (here : slice_get log place ≡ Some entry) where
  abbrev before : List Head
  before = heads_of (take place log)

  -- a request whose entry found a version found it in the front up to there
  applied_stands :
      (c : Called) → IsAskedBy c (Some entry) → (version : ℕ) → answer entry.head before ≡ outcomes.Found version →
      ReadStands log (suc place) (record c { index = version })
  applied_stands c asked version is =
      let by : IsAnswer entry.head (entry.head ∷ before) (answer entry.head before) = answered_by_one_map entry.head before in
      let lt : place < length log = slice_get_within log place entry here in
      let many : length before ≡ length (take place log) = heads_many (take place log) in
      let taken : length (take place log) ≡ place = length-take-le place log (omega (arith, lt)) in
      let long : length before + 1 ≡ suc place = omega (arith, many, taken) in
      let outcome : map_outcome entry.head.client entry.head.seq (entry.head ∷ before) ≡ Some (outcomes.Found version) =
      elim (cases_Bool (is_outrun entry.head.seq (greatest_number entry.head.client (entry.head ∷ before)))) [
        | inl outrun ↦ absurd (cc (by.old asked.0 outrun, is))
        | inr highest ↦ by.told asked.0 highest ∙ ap (λ (o : Outcome). Some o) is
      ] in
      record {
        front = suc place;
        by_commit = le_refl _;
        within = omega (arith, lt);
        found =
            ap (λ (heads : List Head). map_outcome c.client c.seq heads) (heads_here log place entry here)
            ∙ ap (λ (client : ℕ). map_outcome client c.seq (entry.head ∷ before)) (sym asked.1)
            ∙ ap (λ (seq : ℕ). map_outcome entry.head.client seq (entry.head ∷ before)) (sym asked.2) ∙ outcome;
        indexes =
            subst (λ (n : ℕ). TellsIndexes n (outcomes.Found version)) long
            (subst (TellsIndexes (length before + 1)) is (answer_within entry.head before));
      }

module _ (log : List Entry) (calls : List Called) (stand : All (CallStands log) calls) (commit : ℕ) where
  found_reads :
      (place : ℕ) (call : Option Called) (found : Option Entry) (reads : List Called) → suc place ≤ commit → call_at (suc place) calls ≡ call → slice_get log place ≡ found →
      All (ReadStands log commit) reads → All (ReadStands log commit) (reads_for log call found (heads_of (take place log)) reads)
  found_reads place None found reads le is here all = all
  found_reads place (Some c) None reads le is here all = all
  found_reads place (Some c) (Some entry) reads le is here all =
      let of = found_is (CallStands log) (λ (c : Called). c.index == suc place) calls c is stand in
      let at : c.index ≡ suc place = eqb-true c.index (suc place) of.0 in
      let asked : IsAskedBy c (Some entry) = subst (IsAskedBy c) here (subst (λ (index : ℕ). IsAskedBy c (entry_at log index)) at of.1) in
      let o : Outcome = answer entry.head (heads_of (take place log)) in
      reads_with_stand log commit c (version_awaited log o) reads
      (λ version is_awaited.
      read_later log (suc place) commit le (record c { index = version }) (applied_stands log place entry here c asked version (found_awaited log o version is_awaited)))
      all

  index_reads : (index : ℕ) (reads : List Called) → 1 ≤ index → index ≤ commit → All (ReadStands log commit) reads → All (ReadStands log commit) (reads_at log calls index reads)
  index_reads zero reads from le all = absurd (omega (arith, from))
  index_reads (suc place) reads from le all =
      let at : place ≡ suc place - 1 = omega arith in
      subst
      (λ before. All (ReadStands log commit) (reads_for log (call_at (suc place) calls) (slice_get log place) (heads_of (take before log)) reads)) at
      (found_reads place (call_at (suc place) calls) (slice_get log place) reads le refl refl all)

  among_reads :
      (indexes : List ℕ) (reads : List Called) → All (λ i. (1 ≤ i) × (i ≤ commit)) indexes → All (ReadStands log commit) reads →
      All (ReadStands log commit) (reads_among log calls indexes reads)
  among_reads [] reads within all = all
  among_reads (index ∷ indexes) reads within all =
      let first = All-head (λ i. (1 ≤ i) × (i ≤ commit)) index indexes within in
      among_reads indexes (reads_at log calls index reads) (All-tail (λ i. (1 ≤ i) × (i ≤ commit)) index indexes within)
      (index_reads index reads first.0 first.1 all)

applying_reads :
    (log : List Entry) (calls : List Called) (before now : ℕ) (reads : List Called) → All (CallStands log) calls → before < now → All (ReadStands log before) reads →
    All (ReadStands log now) (reads_among log calls (newly_committed before now) reads)
applying_reads log calls before now reads stand grows all =
    among_reads log calls stand now (newly_committed before now) reads
    (All-weaker (λ i. (before + 1 ≤ i) × (i < before + 1 + (now - before))) (λ i. (1 ≤ i) × (i ≤ now))
    (λ i within. (omega (arith, within.0), omega (arith, within.1, grows))) (newly_committed before now) (in_range (before + 1) (now - before)))
    (reads_later log before now reads (omega (arith, grows)) all)

none_among : (log : List Entry) (indexes : List ℕ) (reads : List Called) → reads_among log [] indexes reads ≡ reads
none_among log [] reads = refl
none_among log (index ∷ indexes) reads = none_among log indexes reads

still_none : (log : List Entry) (calls : List Called) (indexes : List ℕ) (reads : List Called) → calls ≡ [] → reads ≡ [] → reads_among log calls indexes reads ≡ []
still_none log calls indexes reads no_calls no_reads =
    ap (λ (cs : List Called). reads_among log cs indexes reads) no_calls ∙ none_among log indexes reads ∙ no_reads

pub waiting_reads :
    (role : Role) (log : List Entry) (calls : List Called) (before now : ℕ) (reads : List Called) → before < now → CallsStand role log calls →
    ReadsStand role log before reads → ReadsStand role log now (reads_among log calls (newly_committed before now) reads)
waiting_reads Leader log calls before now reads grows stand all = applying_reads log calls before now reads stand grows all
waiting_reads Follower log calls before now reads grows none all = still_none log calls (newly_committed before now) reads none all
waiting_reads Candidate log calls before now reads grows none all = still_none log calls (newly_committed before now) reads none all
waiting_reads Preparing log calls before now reads grows none all = still_none log calls (newly_committed before now) reads none all
