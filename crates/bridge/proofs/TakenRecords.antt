-- What the records of an append make of what a member keeps: its log is the leader's, as far as the message goes.
use Rattle.std.proofs.Common.{◌≡◌, ℕ, suc, ◌+◌, ◌-◌, ◌<◌, ◌≤◌, List, [], ◌∷◌, ◌++◌, length, take, drop, map, refl, sym, ap, subst, ◌∙◌, arith, length-drop}
use Rattle.std.specs.Option.{option_to_list}
use Rattle.std.proofs.lemmas.List.{append-nil, append_assoc}
use Rattle.craft_base.specs.declared.command.Entry.{Entry}
use Rattle.entry_frames.specs.Durable.{Durable, after, applied}
use Rattle.entry_frames.specs.Records.{Add, Cut}
use Rattle.world_model.specs.Rules.Append.{common, completions, difference_at, taken_records}
use Rattle.world_model.proofs.Recorded.{after-append}
use Rattle.protocol.specs.Logs.{Slot, Agree, term_at}
use Rattle.bridge.specs.Views.{log_seen}
use Rattle.bridge.proofs.Completed.{IsCompleted, all_complete}
use Rattle.bridge.proofs.Taking.{IsCommon, IsTaken, common_is, kept_taken, longer_taken, replaced_taken}
use Rattle.bridge.proofs.Views.{append_seen, take_seen}

-- the log changes as an append allows, and nothing else does
pub record IsTakenBy (d e : Durable) (led : List Slot) (reach : ℕ) : Type 0 where
  pub term : e.term ≡ d.term
  pub vote : e.vote ≡ d.vote
  pub commit : e.commit ≡ d.commit
  pub log : IsTaken (log_seen d.log) (log_seen e.log) led reach

-- entries that are added stand behind the log, in order
abbrev pub with_log : Durable → List Entry → Durable
with_log d log = record { term = d.term; vote = d.vote; log = log; commit = d.commit }

pub all_added : (d : Durable) (entries : List Entry) → after d (map Add entries) ≡ with_log d (d.log ++ entries)
all_added d [] = ap (with_log d) (sym (append-nil d.log))
all_added d (entry ∷ entries) =
    all_added (applied d (Add entry)) entries ∙ ap (with_log d) (append_assoc d.log (entry ∷ []) entries)

module _
    (d : Durable) (entries : List Entry) (led : List Slot) (prev : ℕ) (before : Agree (log_seen d.log) led prev)
    (within : prev + length entries ≤ length led)
    (terms : (place : ℕ) → 0 < place → place ≤ length entries → term_at (log_seen entries) place ≡ term_at led (prev + place)) where
  abbrev same : ℕ
  same = common (drop prev d.log) entries

  -- once parts have become whole
  abbrev now : Durable
  now = after d (completions (prev + 1) (take same (drop prev d.log)) (take same entries))

  now_completed : IsCompleted d now
  now_completed = all_complete d (prev + 1) (take same (drop prev d.log)) (take same entries)

  both : IsCommon (drop prev d.log) entries same
  both = common_is (drop prev d.log) entries

  with_log_taken :
      (log : List Entry) (slots : List Slot) → log_seen log ≡ slots → IsTaken (log_seen d.log) slots led (prev + length entries) →
      IsTakenBy d (with_log now log) led (prev + length entries)
  with_log_taken log slots is taken = record {
    term = now_completed.term;
    vote = now_completed.vote;
    commit = now_completed.commit;
    log = subst (λ it. IsTaken (log_seen d.log) it led (prev + length entries)) (sym is) taken;
  }

  nothing_added : drop same entries ≡ [] → IsTakenBy d now led (prev + length entries)
  nothing_added none =
      let short : length entries - same ≡ 0 = sym (length-drop same entries) ∙ ap length none in
      with_log_taken now.log (log_seen now.log) refl
      (kept_taken d.log entries led prev same before within terms both (log_seen now.log) now_completed.same now_completed.whole (omega (arith, short)))

  -- the records behind those by which parts become whole
  abbrev Rest : List Entry → List Entry → Type 0
  Rest own more =
      IsTakenBy d (after now (map Cut (option_to_list (difference_at (prev + 1 + same) own more)) ++ map Add more)) led (prev + length entries)

  added_behind : (more : List Entry) → drop (prev + same) d.log ≡ [] → drop same entries ≡ more → Rest [] more
  added_behind more ends is =
      let short : length d.log - (prev + same) ≡ 0 = sym (length-drop (prev + same) d.log) ∙ ap length ends in
      subst (λ e. IsTakenBy d e led (prev + length entries)) (sym (all_added now more))
      (with_log_taken (now.log ++ more) (log_seen now.log ++ log_seen (drop same entries))
      (append_seen now.log more ∙ ap (λ rest. log_seen now.log ++ log_seen rest) (sym is))
      (longer_taken d.log entries led prev same before within terms both (log_seen now.log) now_completed.same now_completed.whole (omega (arith, short))))

  -- the log up to what both have, and the entries behind it
  replaced_by :
      (own : Entry) (owns : List Entry) (entry : Entry) (more : List Entry) → drop (prev + same) d.log ≡ own ∷ owns → drop same entries ≡ entry ∷ more →
      Rest (own ∷ owns) (entry ∷ more)
  replaced_by own owns entry more rest is =
      let cut = applied now (Cut (prev + 1 + same)) in
      let at : prev + 1 + same - 1 ≡ prev + same = omega arith in
      let more_own : length d.log - (prev + same) ≡ suc (length owns) = sym (length-drop (prev + same) d.log) ∙ ap length rest in
      let more_sent : length entries - same ≡ suc (length more) = sym (length-drop same entries) ∙ ap length is in
      let front : log_seen cut.log ≡ take (prev + same) (log_seen now.log) =
      take_seen (prev + 1 + same - 1) now.log ∙ ap (λ n. take n (log_seen now.log)) at in
      subst (λ e. IsTakenBy d e led (prev + length entries)) (sym (all_added cut (entry ∷ more)))
      (with_log_taken (cut.log ++ entry ∷ more) (take (prev + same) (log_seen now.log) ++ log_seen (drop same entries))
      (append_seen cut.log (entry ∷ more) ∙ ap (λ it. it ++ log_seen (entry ∷ more)) front
      ∙ ap (λ it. take (prev + same) (log_seen now.log) ++ log_seen it) (sym is))
      (replaced_taken d.log entries led prev same before within terms both (log_seen now.log) now_completed.same now_completed.whole
      (omega (arith, more_own)) (omega (arith, more_sent))))

  rest_taken : (own more : List Entry) → drop (prev + same) d.log ≡ own → drop same entries ≡ more → Rest own more
  rest_taken [] more ends is = added_behind more ends is
  rest_taken (own ∷ owns) [] rest is = nothing_added is
  rest_taken (own ∷ owns) (entry ∷ more) rest is = replaced_by own owns entry more rest is

  pub records_taken : IsTakenBy d (after d (taken_records prev d.log entries)) led (prev + length entries)
  records_taken =
      subst (λ e. IsTakenBy d e led (prev + length entries)) (sym (after-append d (completions (prev + 1) (take same (drop prev d.log)) (take same entries)) _))
      (rest_taken (drop (prev + same) d.log) (drop same entries) refl refl)
