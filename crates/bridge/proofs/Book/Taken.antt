-- What the records of an append make of a log whose entries stand in the book, as do those of the message: they add entries that
-- stand, and what they remove differs from what the log then has.
use Rattle.std.proofs.Common.{◌≡◌, ◌≢◌, ℕ, suc, ◌+◌, ◌-◌, ◌<◌, ◌≤◌, List, [], ◌∷◌, ◌++◌, length, take, drop, map, Some, slice_get, refl, sym, ap, subst, ◌∙◌, arith, length-append, length-drop, length-take-le}
use Rattle.std.specs.List.{All}
use Rattle.std.specs.Option.{option_to_list}
use Rattle.std.proofs.lemmas.List.Elements.{All-cons, All-nil, All-same}
use Rattle.std.proofs.lemmas.Option.{slice_get_within}
use Rattle.craft_base.specs.declared.command.Entry.{Entry}
use Rattle.entry_frames.specs.Durable.{Durable, after, applied}
use Rattle.entry_frames.specs.Logs as node
use Rattle.entry_frames.specs.Records.{Record, Add, Cut}
use Rattle.world_model.specs.Rules.Append.{common, completions, difference_at, taken_records}
use Rattle.world_model.specs.Traces.{Proposal, Removal, removals_in}
use Rattle.world_model.proofs.Recorded.{after-append}
use Rattle.protocol.specs.Logs.{Has, term_at}
use Rattle.protocol.proofs.Slots.{term_at-take}
use Rattle.bridge.specs.Traced.{AllStand, Holder}
use Rattle.bridge.specs.Views.{log_seen}
use Rattle.bridge.proofs.Book.Completing.{all_completed_stand, none_by_completing, removals_in-append}
use Rattle.bridge.proofs.Book.Standing.{stand_append, stand_at_index, stand_drop, stand_take}
use Rattle.bridge.proofs.Completed.{IsCompleted, all_complete}
use Rattle.bridge.proofs.Stretches.{term_at-behind, term_at-drop}
use Rattle.bridge.proofs.TakenRecords.{all_added, with_log}
use Rattle.bridge.proofs.Taking.{IsCommon, common_is}
use Rattle.bridge.proofs.Views.{append_seen, drop_seen, length_seen, take_seen, term_at_seen}

-- entries of a log that went: at their first index the log now has another, and it is no longer than the message goes
pub record IsRemoved (d e : Durable) (reach : ℕ) (c : Removal) : Type 0 where
  pub term : c.term ≡ d.term
  pub from : 0 < c.index
  pub places : (place : ℕ) (entry : Entry) → slice_get c.entries place ≡ Some entry → Has (log_seen d.log) (c.index + place) entry.term
  pub differs : term_at (log_seen d.log) c.index ≢ term_at (log_seen e.log) c.index
  pub long : length e.log ≤ reach

-- what the records do
pub record IsTold (at : Holder) (book : List Proposal) (event member : ℕ) (d : Durable) (reach : ℕ) (records : List Record) : Type 0 where
  pub log : AllStand at book 1 (after d records).log
  pub removals : All (IsRemoved d (after d records) reach) (removals_in event member d records)

-- an entry of a stretch of a log stands in the log, so much further on
pub stretch_has :
    (log : List Entry) (n place : ℕ) (entry : Entry) → slice_get (drop n log) place ≡ Some entry → Has (log_seen log) (n + 1 + place) entry.term
stretch_has log n place entry e =
    let within : place < length (drop n log) = slice_get_within (drop n log) place entry e in
    let behind : length (drop n log) ≡ length log - n = length-drop n log in
    let long : length (log_seen log) ≡ length log = length_seen log in
    record {
      from = omega arith;
      within = omega (arith, within, behind, long);
      here =
          sym (term_at-drop n (log_seen log) (suc place) (n + 1 + place) (omega arith) (omega arith))
          ∙ sym (ap (λ slots. term_at slots (suc place)) (drop_seen n log))
          ∙ term_at_seen (drop n log) (suc place) ∙ ap node.term_of_entry e;
    }

-- nothing goes where entries are added
none_by_adding : (event member : ℕ) (d : Durable) (entries : List Entry) → removals_in event member d (map Add entries) ≡ []
none_by_adding event member d [] = refl
none_by_adding event member d (entry ∷ entries) = none_by_adding event member (applied d (Add entry)) entries

module _
    (at : Holder) (book : List Proposal) (event member : ℕ) (d : Durable) (entries : List Entry) (prev : ℕ) (within : prev ≤ length d.log)
    (stand : AllStand at book 1 d.log) (sent : AllStand at book (prev + 1) entries) where
  abbrev same : ℕ
  same = common (drop prev d.log) entries

  -- once parts have become whole
  abbrev now : Durable
  now = after d (completions (prev + 1) (take same (drop prev d.log)) (take same entries))

  now_completed : IsCompleted d now
  now_completed = all_complete d (prev + 1) (take same (drop prev d.log)) (take same entries)

  both : IsCommon (drop prev d.log) entries same
  both = common_is (drop prev d.log) entries

  now_long : length now.log ≡ length d.log
  now_long = sym (length_seen now.log) ∙ sym (now_completed.same).long ∙ length_seen d.log

  now_term : (i : ℕ) → i ≤ length d.log → term_at (log_seen now.log) i ≡ term_at (log_seen d.log) i
  now_term i le = sym (((now_completed.same).agree).same i (omega (arith, le, length_seen d.log)))

  -- what both have lies within the log
  in_log : prev + same ≤ length d.log
  in_log =
      let own : same ≤ length (drop prev d.log) = both.in_own in
      let behind : length (drop prev d.log) ≡ length d.log - prev = length-drop prev d.log in
      omega (arith, own, behind, within)

  now_stands : AllStand at book 1 now.log
  now_stands =
      all_completed_stand at book d (prev + 1) (take same (drop prev d.log)) (take same entries) (omega arith) stand (stand_take at book (prev + 1) same entries sent)
      (λ place entry lt found.
      let in_own : same ≤ length (drop prev d.log) = both.in_own in
      let few : length (take same (drop prev d.log)) ≡ same = length-take-le same (drop prev d.log) in_own in
      let sent_term : term_at (log_seen (take same entries)) (suc place) ≡ entry.term = term_at_seen (take same entries) (suc place) ∙ ap node.term_of_entry found in
      let cut : term_at (log_seen (take same entries)) (suc place) ≡ term_at (log_seen entries) (suc place) =
      ap (λ slots. term_at slots (suc place)) (take_seen same entries) ∙ term_at-take same (log_seen entries) (suc place) (omega (arith, lt, few)) in
      let shared : term_at (log_seen (drop prev d.log)) (suc place) ≡ term_at (log_seen entries) (suc place) = both.terms (suc place) (omega arith) (omega (arith, lt, few)) in
      let own : term_at (log_seen (drop prev d.log)) (suc place) ≡ term_at (log_seen d.log) (prev + 1 + place) =
      ap (λ slots. term_at slots (suc place)) (drop_seen prev d.log) ∙ term_at-drop prev (log_seen d.log) (suc place) (prev + 1 + place) (omega arith) (omega arith) in
      sym own ∙ shared ∙ sym cut ∙ sent_term)

  more_stand : AllStand at book (1 + (prev + same)) (drop same entries)
  more_stand =
      stand_at_index at book (prev + 1 + same) (1 + (prev + same)) (drop same entries) (omega arith) (stand_drop at book (prev + 1) same entries sent)

  -- what the records behind those by which parts become whole do
  pub record IsRest (records : List Record) : Type 0 where
    pub log : AllStand at book 1 (after now records).log
    pub removals : All (IsRemoved d (after now records) (prev + length entries)) (removals_in event member now records)

  abbrev Rest : List Entry → List Entry → Type 0
  Rest own more = IsRest (map Cut (option_to_list (difference_at (prev + 1 + same) own more)) ++ map Add more)

  nothing_added : Rest [] [] × ((own : Entry) (owns : List Entry) → Rest (own ∷ owns) [])
  nothing_added =
      let told : IsRest [] = record { log = now_stands; removals = All-nil (IsRemoved d now (prev + length entries)) } in
      (told, λ own owns. told)

  added_behind : (more : List Entry) → drop (prev + same) d.log ≡ [] → drop same entries ≡ more → Rest [] more
  added_behind more ends is =
      let short : length d.log - (prev + same) ≡ 0 = sym (length-drop (prev + same) d.log) ∙ ap length ends in
      let at_end : 1 + (prev + same) ≡ 1 + length now.log = omega (arith, short, in_log, now_long) in
      let behind : AllStand at book (1 + length now.log) more =
      stand_at_index at book (1 + (prev + same)) (1 + length now.log) more at_end (subst (AllStand at book (1 + (prev + same))) is more_stand) in
      record {
        log = subst (λ e. AllStand at book 1 e.log) (sym (all_added now more)) (stand_append at book 1 now.log more now_stands behind);
        removals = All-same (IsRemoved d (after now (map Add more)) (prev + length entries)) _ [] (none_by_adding event member now more)
            (All-nil (IsRemoved d (after now (map Add more)) (prev + length entries)));
      }

  replaced_by :
      (own : Entry) (owns : List Entry) (entry : Entry) (more : List Entry) → drop (prev + same) d.log ≡ own ∷ owns → drop same entries ≡ entry ∷ more →
      Rest (own ∷ owns) (entry ∷ more)
  replaced_by own owns entry more rest is =
      let front = take (prev + 1 + same - 1) now.log in
      let new : List Entry = front ++ entry ∷ more in
      let cut = applied now (Cut (prev + 1 + same)) in
      let at_cut : prev + 1 + same - 1 ≡ prev + same = omega arith in
      let more_own : length d.log - (prev + same) ≡ suc (length owns) = sym (length-drop (prev + same) d.log) ∙ ap length rest in
      let more_sent : length entries - same ≡ suc (length more) = sym (length-drop same entries) ∙ ap length is in
      let front_long : length front ≡ prev + same = length-take-le (prev + 1 + same - 1) now.log (omega (arith, in_log, now_long)) ∙ at_cut in
      let front_seen : length (log_seen front) ≡ prev + same = length_seen front ∙ front_long in
      let long : length new ≡ length front + suc (length more) = length-append front (entry ∷ more) in
      let behind : length (drop prev d.log) ≡ length d.log - prev = length-drop prev d.log in
      let old_term : term_at (log_seen (drop prev d.log)) (suc same) ≡ term_at (log_seen d.log) (prev + 1 + same) =
      ap (λ slots. term_at slots (suc same)) (drop_seen prev d.log) ∙ term_at-drop prev (log_seen d.log) (suc same) (prev + 1 + same) (omega arith) (omega arith) in
      let sent_term : term_at (log_seen (entry ∷ more)) 1 ≡ term_at (log_seen entries) (suc same) =
      ap (λ it. term_at (log_seen it) 1) (sym is) ∙ ap (λ slots. term_at slots 1) (drop_seen same entries)
      ∙ term_at-drop same (log_seen entries) 1 (suc same) (omega arith) (omega arith) in
      let new_term : term_at (log_seen new) (prev + 1 + same) ≡ term_at (log_seen entries) (suc same) =
      ap (λ slots. term_at slots (prev + 1 + same)) (append_seen front (entry ∷ more))
      ∙ term_at-behind (log_seen front) (log_seen (entry ∷ more)) 1 (prev + 1 + same) (omega arith) (omega (arith, front_seen)) ∙ sent_term in
      let apart : term_at (log_seen d.log) (prev + 1 + same) ≢ term_at (log_seen new) (prev + 1 + same) =
      λ e. both.differ (omega (arith, behind, more_own)) (omega (arith, more_sent)) (old_term ∙ e ∙ new_term) in
      let left : after cut (map Add (entry ∷ more)) ≡ with_log cut new = all_added cut (entry ∷ more) in
      let removal : Removal =
      record { event = event; member = member; term = now.term; index = prev + 1 + same; entries = drop (prev + 1 + same - 1) now.log } in
      let removed : IsRemoved d (with_log cut new) (prev + length entries) removal = record {
        term = now_completed.term;
        from = omega arith;
        places = λ place it e.
            let here = stretch_has now.log (prev + 1 + same - 1) place it e in
            let there : prev + 1 + same - 1 + 1 + place ≡ prev + 1 + same + place = omega arith in
            had (prev + 1 + same + place) it.term (subst (λ i. Has (log_seen now.log) i it.term) there here);
        differs = apart;
        long = omega (arith, long, front_long, more_sent);
      } in
      let stands : AllStand at book 1 new =
      stand_append at book 1 front (entry ∷ more) (stand_take at book 1 (prev + 1 + same - 1) now.log now_stands)
      (stand_at_index at book (1 + (prev + same)) (1 + length front) (entry ∷ more) (omega (arith, front_long))
      (subst (AllStand at book (1 + (prev + same))) is more_stand)) in
      let all : All (IsRemoved d (after cut (map Add (entry ∷ more))) (prev + length entries)) (removal ∷ []) =
      All-cons (IsRemoved d (after cut (map Add (entry ∷ more))) (prev + length entries)) removal []
      (subst (λ e. IsRemoved d e (prev + length entries) removal) (sym left) removed)
      (All-nil (IsRemoved d (after cut (map Add (entry ∷ more))) (prev + length entries))) in
      record {
        log = subst (λ e. AllStand at book 1 e.log) (sym left) stands;
        removals = All-same (IsRemoved d (after cut (map Add (entry ∷ more))) (prev + length entries)) _ (removal ∷ [])
            (ap (λ none. removal ∷ none) (none_by_adding event member cut (entry ∷ more))) all;
      } where
        -- what the log has once parts have become whole, it had before
        had : (i term : ℕ) → Has (log_seen now.log) i term → Has (log_seen d.log) i term
        had i term h =
            let within_now : i ≤ length (log_seen now.log) = h.within in
            let now_seen : length (log_seen now.log) ≡ length now.log = length_seen now.log in
            let seen : length (log_seen d.log) ≡ length d.log = length_seen d.log in
            record {
              from = h.from;
              within = omega (arith, within_now, now_seen, now_long, seen);
              here = sym (now_term i (omega (arith, within_now, now_seen, now_long))) ∙ h.here;
            }

  rest_told : (own more : List Entry) → drop (prev + same) d.log ≡ own → drop same entries ≡ more → Rest own more
  rest_told [] more ends is = added_behind more ends is
  rest_told (own ∷ owns) [] rest is = nothing_added.1 own owns
  rest_told (own ∷ owns) (entry ∷ more) rest is = replaced_by own owns entry more rest is

  pub records_told : IsTold at book event member d (prev + length entries) (taken_records prev d.log entries)
  records_told =
      let first = completions (prev + 1) (take same (drop prev d.log)) (take same entries) in
      let rest = map Cut (option_to_list (difference_at (prev + 1 + same) (drop (prev + same) d.log) (drop same entries))) ++ map Add (drop same entries) in
      let told : IsRest rest = rest_told (drop (prev + same) d.log) (drop same entries) refl refl in
      let left : after d (first ++ rest) ≡ after now rest = after-append d first rest in
      let gone : removals_in event member d (first ++ rest) ≡ removals_in event member now rest =
      removals_in-append event member d first rest
      ∙ ap (λ none. none ++ removals_in event member now rest) (none_by_completing event member d (prev + 1) (take same (drop prev d.log)) (take same entries)) in
      record {
        log = subst (λ e. AllStand at book 1 e.log) (sym left) told.log;
        removals = subst (λ e. All (IsRemoved d e (prev + length entries)) (removals_in event member d (first ++ rest))) (sym left)
            (All-same (IsRemoved d (after now rest) (prev + length entries)) _ (removals_in event member now rest) gone told.removals);
      }
