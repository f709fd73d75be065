-- The log after a message is taken.
use Rattle.std.proofs.Common.{◌≡◌, ℕ, suc, ◌+◌, ◌-◌, ◌≤◌, List, [], ◌∷◌, ◌++◌, length, map, take, drop, Bool, true, false, Option, None, Some, refl, ap, sym, ◌∙◌, append_assoc, length-append, length-drop, arith}
use Rattle.std.specs.Prelude.{◌==◌, ◌&&◌, nat_le}
use Rattle.std.specs.Option.{option_to_list}
use Rattle.std.proofs.lemmas.Bool.{false≢true, leb-true}
use Rattle.std.proofs.lemmas.List.{append-nil, drop-drop, drop_at, length-take-le, take-append-drop, take_all, take_at}
use Rattle.craft_base.specs.declared.command.Entry.{Entry}
use Rattle.entry_frames.specs.Durable.{Durable, after, applied, born}
use Rattle.entry_frames.specs.Logs.{term_at}
use Rattle.entry_frames.specs.Records.{Record, Add, Cut}
use Rattle.full_append.specs.Comparisons.{entry_after, entries_after}
use Rattle.full_append.specs.Plans.{log_after}
use Rattle.full_append.proofs.Comparing.{after_same, after_other, common_same, common_other}
use Rattle.full_append.proofs.Completing.{after-append, all_completed, completions_of, kept, kept_same, kept_other}
use Rattle.full_append.proofs.Masks.{as_many}
use Rattle.full_append.proofs.Noting.{common_in}
use Rattle.world_model.specs.Rules.Append.{common, difference, difference_at, has_before, taken_records, mask_of}

-- ---- what is kept, and what is new

kept_as_long : (log es : List Entry) → length (kept log es) ≡ length log
kept_as_long [] es = refl
kept_as_long (own ∷ log) [] = refl
kept_as_long (own ∷ log) (e ∷ es) = one (own.term == e.term) refl (kept_as_long log es) where
  one : (b : Bool) → (own.term == e.term) ≡ b → length (kept log es) ≡ length log → length (kept (own ∷ log) (e ∷ es)) ≡ suc (length log)
  one true t rest = ap length (kept_same own e log es t) ∙ ap suc rest
  one false t rest = ap length (kept_other own e log es t)

-- the entries that are the same as they are kept, and then the message's
kept_then_new : (log es : List Entry) → entries_after log es ≡ take (common log es) (kept log es) ++ drop (common log es) es
kept_then_new [] es = refl
kept_then_new (own ∷ log) [] = refl
kept_then_new (own ∷ log) (e ∷ es) = one (own.term == e.term) refl (kept_then_new log es) where
  joined : ℕ → List Entry → List Entry
  joined c log' = take c log' ++ drop c (e ∷ es)

  one : (b : Bool) → (own.term == e.term) ≡ b → entries_after log es ≡ take (common log es) (kept log es) ++ drop (common log es) es
      → entries_after (own ∷ log) (e ∷ es) ≡ take (common (own ∷ log) (e ∷ es)) (kept (own ∷ log) (e ∷ es)) ++ drop (common (own ∷ log) (e ∷ es)) (e ∷ es)
  one true t rest =
      after_same own e log es t ∙ ap (λ (xs : List Entry). entry_after own e ∷ xs) rest
      ∙ ap (joined (suc (common log es))) (sym (kept_same own e log es t))
      ∙ ap (λ (c : ℕ). joined c (kept (own ∷ log) (e ∷ es))) (sym (common_same own e log es t))
  one false t rest =
      after_other own e log es t ∙ ap (joined 0) (sym (kept_other own e log es t))
      ∙ ap (λ (c : ℕ). joined c (kept (own ∷ log) (e ∷ es))) (sym (common_other own e log es t))

-- ---- the cut and the new entries

pub all_added : (d : Durable) (es : List Entry) → after d (map Add es) ≡ record d { log = d.log ++ es }
all_added d [] = ap (λ (xs : List Entry). record d { log = xs }) (sym (append-nil d.log))
all_added d (e ∷ es) =
    all_added (record d { log = d.log ++ e ∷ [] }) es ∙ ap (λ (xs : List Entry). record d { log = xs }) (append_assoc d.log (e ∷ []) es)

abbrev pub rest_of : Option ℕ → List Entry → List Record
rest_of cut es = map Cut (option_to_list cut) ++ map Add es

uncut : (d : Durable) (es : List Entry) → (after d (rest_of None es)).log ≡ d.log ++ es
uncut d es = ap (λ (x : Durable). x.log) (all_added d es)

cut_first : (d : Durable) (index : ℕ) (es : List Entry) → (after d (rest_of (Some index) es)).log ≡ take (index - 1) d.log ++ es
cut_first d index es = ap (λ (x : Durable). x.log) (all_added (applied d (Cut index)) es)

-- behind the front, as far as the message tells
behind : (front log es : List Entry) (prev : ℕ) → length front ≡ prev → take (length es) (drop prev (front ++ log)) ≡ take (length es) log
behind front log es prev long = ap (take (length es)) (drop_at front log prev long)

told_of : (log es rest : List Entry) → take (length es) (entries_after log es ++ rest) ≡ entries_after log es
told_of log es rest = take_at (entries_after log es) rest (length es) (as_many log es)

-- as far as it is told, what is left of the log is the message's
settled : (d : Durable) (front log es : List Entry) (prev : ℕ) → length front ≡ prev → d.log ≡ front ++ kept log es
    → take (length es) (drop prev (after d (rest_of (difference_at (prev + 1 + common log es) (drop (common log es) log) (drop (common log es) es)) (drop (common log es) es))).log)
    ≡ entries_after log es
settled d front log es prev long is = cases (drop c log) (drop c es) refl refl where
  c : ℕ
  c = common log es

  all : List Entry
  all = kept log es

  shown : List Entry → List Entry
  shown xs = take (length es) (drop prev xs)

  -- where nothing of the log is left behind the entries that are the same
  short : (new : List Entry) → drop c log ≡ [] → drop c es ≡ new → shown (d.log ++ new) ≡ entries_after log es
  short new none now =
      let less : length all ≤ c = omega (arith, kept_as_long log es, length-drop c log, ap length none) in
      let whole : all ++ new ≡ entries_after log es =
      ap (λ (xs : List Entry). xs ++ new) (sym (take_all c all less)) ∙ ap (λ (xs : List Entry). take c all ++ xs) (sym now) ∙ sym (kept_then_new log es) in
      ap (λ (xs : List Entry). shown (xs ++ new)) is ∙ ap shown (append_assoc front all new) ∙ behind front (all ++ new) es prev long
      ∙ ap (take (length es)) (whole ∙ sym (append-nil (entries_after log es))) ∙ told_of log es []

  -- where nothing of the message is
  old : drop c es ≡ [] → shown (d.log ++ []) ≡ entries_after log es
  old none =
      let same : entries_after log es ≡ take c all = kept_then_new log es ∙ ap (λ (xs : List Entry). take c all ++ xs) none ∙ append-nil (take c all) in
      let split : all ≡ entries_after log es ++ drop c all = sym (take-append-drop c all) ∙ ap (λ (xs : List Entry). xs ++ drop c all) (sym same) in
      ap shown (append-nil d.log ∙ is) ∙ behind front all es prev long ∙ ap (take (length es)) split ∙ told_of log es (drop c all)

  -- where both have more
  both : (new : List Entry) → drop c es ≡ new → shown (take (prev + 1 + c - 1) d.log ++ new) ≡ entries_after log es
  both new now =
      let enough : c ≤ length all = omega (arith, kept_as_long log es, common_in log es) in
      let split : d.log ≡ (front ++ take c all) ++ drop c all = is ∙ ap (λ (xs : List Entry). front ++ xs) (sym (take-append-drop c all)) ∙ sym (append_assoc front (take c all) (drop c all)) in
      let size : length (front ++ take c all) ≡ prev + 1 + c - 1 = omega (arith, length-append front (take c all), long, length-take-le c all enough) in
      let left : take (prev + 1 + c - 1) d.log ≡ front ++ take c all = ap (take (prev + 1 + c - 1)) split ∙ take_at (front ++ take c all) (drop c all) (prev + 1 + c - 1) size in
      let whole : take c all ++ new ≡ entries_after log es = ap (λ (xs : List Entry). take c all ++ xs) (sym now) ∙ sym (kept_then_new log es) in
      ap (λ (xs : List Entry). shown (xs ++ new)) left ∙ ap shown (append_assoc front (take c all) new) ∙ behind front (take c all ++ new) es prev long
      ∙ ap (take (length es)) (whole ∙ sym (append-nil (entries_after log es))) ∙ told_of log es []

  cases : (own new : List Entry) → drop c log ≡ own → drop c es ≡ new
      → shown (after d (rest_of (difference_at (prev + 1 + c) (drop c log) (drop c es)) (drop c es))).log ≡ entries_after log es
  cases own new po pn =
      ap (λ (xs : List Entry). shown (after d (rest_of (difference_at (prev + 1 + c) xs (drop c es)) (drop c es))).log) po
      ∙ ap (λ (xs : List Entry). shown (after d (rest_of (difference_at (prev + 1 + c) own xs) xs)).log) pn ∙ three own new po pn where
        three : (own new : List Entry) → drop c log ≡ own → drop c es ≡ new
            → shown (after d (rest_of (difference_at (prev + 1 + c) own new) new)).log ≡ entries_after log es
        three [] new po pn = ap shown (uncut d new) ∙ short new po pn
        three (o ∷ own) [] po pn = ap shown (uncut d []) ∙ old pn
        three (o ∷ own) (e ∷ new) po pn = ap shown (cut_first d (prev + 1 + c) (e ∷ new)) ∙ both (e ∷ new) pn

-- ---- the whole message

-- After its records a log holds, from behind `prev` on and as far as the message tells, what was found by comparing.
pub told_after : (d : Durable) (prev : ℕ) (es : List Entry) → prev ≤ length d.log
    → take (length es) (drop prev (after d (taken_records prev d.log es)).log) ≡ entries_after (drop prev d.log) es
told_after d prev es within =
    let log = drop prev d.log in
    let c = common log es in
    let front = take prev d.log in
    let long : length front ≡ prev = length-take-le prev d.log within in
    let start : prev + 1 ≡ length front + 1 = omega (arith, long) in
    let split : d.log ≡ front ++ log = sym (take-append-drop prev d.log) in
    let middle : Durable = record d { log = front ++ kept log es } in
    let rest = rest_of (difference prev d.log es) (drop c es) in
    ap (λ (x : Durable). take (length es) (drop prev x.log)) (
    after-append d (completions_of (prev + 1) log es) rest
    ∙ ap (λ (x : Durable). after x rest) (all_completed d front log es (prev + 1) start split)
    ∙ ap (λ (xs : List Entry). after middle (rest_of (difference_at (prev + 1 + c) xs (drop c es)) (drop c es))) (sym (drop-drop c prev d.log)))
    ∙ settled middle front log es prev long refl

-- So the mask is of what was found.
pub mask_is : (log es : List Entry) (prev mask : ℕ) → prev ≤ length log → mask ≡ mask_of (entries_after (drop prev log) es)
    → mask ≡ mask_of (take (length es) (drop prev (log_after prev log es)))
mask_is log es prev mask within is = is ∙ ap mask_of (sym (told_after (record born { log = log }) prev es within))

both_true : (a b : Bool) → (a && b) ≡ true → a ≡ true
both_true true b is = refl
both_true false b is = absurd (false≢true is)

pub within_log : (log : List Entry) (prev prev_term : ℕ) → has_before log prev prev_term ≡ true → prev ≤ length log
within_log log prev prev_term is = leb-true prev (length log) (both_true (nat_le prev (length log)) (term_at log prev == prev_term) is)
