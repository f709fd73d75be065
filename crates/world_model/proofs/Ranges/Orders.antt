-- Stretches of entries whose terms don't fall.
use Rattle.std.proofs.Common.{◌≡◌, ℕ, zero, suc, ◌+◌, ◌<◌, ◌≤◌, ◌==◌, List, [], ◌∷◌, ◌++◌, length, take, drop, slice_get, Some, refl, sym, ap, subst, ◌∙◌, arith, take-add}
use Rattle.std.proofs.lemmas.Bool.{cond_both, eqb-true}
use Rattle.craft_base.specs.declared.command.Entry.{Entry}
use Rattle.entry_frames.specs.Logs.{term_at}
use Rattle.entry_frames.specs.Stored.{AreEntries}
use Rattle.entry_frames.proofs.Stored.{last_after, term_least}
use Rattle.world_model.specs.Rules.Append.{common}

behind_one : (k low high n : ℕ) (log : List Entry) → AreEntries k low high log → n < length log → AreEntries k (term_at log (suc n)) high (drop (suc n) log)
behind_one k low high n [] are within = absurd (omega (arith, within))
behind_one k low high zero (e ∷ log) are within = are.3
behind_one k low high (suc n) (e ∷ log) are within = behind_one k e.term high n log are.3 (omega (arith, within))

-- what stands behind an index of a log begins with its term
pub behind : (k high n : ℕ) (log : List Entry) → AreEntries k 0 high log → n ≤ length log → AreEntries k (term_at log n) high (drop n log)
behind k high zero log are within = are
behind k high (suc n) log are within = behind_one k 0 high n log are within

-- there is a term where there is an entry
pub term_above : (k low high n : ℕ) (log : List Entry) → AreEntries k low high log → n < length log → 1 ≤ term_at log (suc n)
term_above k low high n [] are within = absurd (omega (arith, within))
term_above k low high zero (e ∷ log) are within = term_least k e are.0
term_above k low high (suc n) (e ∷ log) are within = term_above k e.term high n log are.3 (omega (arith, within))

-- ---- the last term of a front

last_after_one : (low n : ℕ) (log : List Entry) → n < length log → last_after low (take (suc n) log) ≡ term_at log (suc n)
last_after_one low n [] within = absurd (omega (arith, within))
last_after_one low zero (e ∷ log) within = refl
last_after_one low (suc n) (e ∷ log) within = last_after_one e.term n log (omega (arith, within))

pub last_of_front : (n : ℕ) (log : List Entry) → n ≤ length log → last_after 0 (take n log) ≡ term_at log n
last_of_front zero log within = refl
last_of_front (suc n) log within = last_after_one 0 n log within

pub last_after-append : (low : ℕ) (log more : List Entry) → last_after low (log ++ more) ≡ last_after (last_after low log) more
last_after-append low [] more = refl
last_after-append low (e ∷ log) more = last_after-append e.term log more

-- ---- what a message has behind what a log has of it

pub behind_common :
    (k low high : ℕ) (own es : List Entry) → AreEntries k low high es →
    AreEntries k (last_after low (take (common own es) own)) high (drop (common own es) es)
behind_common k low high [] es are = are
behind_common k low high (o ∷ own) [] are = are
behind_common k low high (o ∷ own) (e ∷ es) are =
    cond_both (o.term == e.term) (suc (common own es)) 0 (λ c. AreEntries k (last_after low (take c (o ∷ own))) high (drop c (e ∷ es)))
    (λ same.
    subst (λ (t : ℕ). AreEntries k (last_after t (take (common own es) own)) high (drop (common own es) es)) (sym (eqb-true o.term e.term same))
    (behind_common k e.term high own es are.3))
    (λ other. are)

pub common_own : (own es : List Entry) → common own es ≤ length own
common_own [] es = omega arith
common_own (o ∷ own) [] = omega arith
common_own (o ∷ own) (e ∷ es) =
    let rest : common own es ≤ length own = common_own own es in
    cond_both (o.term == e.term) (suc (common own es)) 0 (λ c. c ≤ suc (length own)) (λ same. omega (arith, rest)) (λ other. omega arith)

pub common_sent : (own es : List Entry) → common own es ≤ length es
common_sent [] es = omega arith
common_sent (o ∷ own) [] = omega arith
common_sent (o ∷ own) (e ∷ es) =
    let rest : common own es ≤ length es = common_sent own es in
    cond_both (o.term == e.term) (suc (common own es)) 0 (λ c. c ≤ suc (length es)) (λ same. omega (arith, rest)) (λ other. omega arith)

-- ---- a stretch of a log

-- the term up to which a log goes along with a message
pub common_term :
    (log : List Entry) (prev same : ℕ) → prev ≤ length log → prev + same ≤ length log → last_after (term_at log prev) (take same (drop prev log)) ≡ term_at log (prev + same)
common_term log prev same within inside =
    ap (λ (low : ℕ). last_after low (take same (drop prev log))) (sym (last_of_front prev log within))
    ∙ sym (last_after-append 0 (take prev log) (take same (drop prev log))) ∙ ap (last_after 0) (sym (take-add prev same log))
    ∙ last_of_front (prev + same) log inside

taken_at : (log : List Entry) (n i : ℕ) (own : Entry) → slice_get (take n log) i ≡ Some own → slice_get log i ≡ Some own
taken_at [] zero i own e = cc
taken_at [] (suc n) i own e = e
taken_at (x ∷ log) zero i own e = absurd cc
taken_at (x ∷ log) (suc n) zero own e = e
taken_at (x ∷ log) (suc n) (suc i) own e = taken_at log n i own e

pub dropped_at : (log : List Entry) (n i at : ℕ) (own : Entry) → at ≡ n + i → slice_get (drop n log) i ≡ Some own → slice_get log at ≡ Some own
dropped_at log zero i at own is e = subst (λ (k : ℕ). slice_get log k ≡ Some own) (omega (arith, is)) e
dropped_at [] (suc n) i at own is e = absurd cc
dropped_at (x ∷ log) (suc n) i zero own is e = absurd (omega (arith, is))
dropped_at (x ∷ log) (suc n) i (suc at) own is e = dropped_at log n i at own (omega (arith, is)) e

pub taken_stands : (log : List Entry) (prev same i at : ℕ) (own : Entry) → at ≡ prev + i → slice_get (take same (drop prev log)) i ≡ Some own → slice_get log at ≡ Some own
taken_stands log prev same i at own is e = dropped_at log prev i at own is (taken_at (drop prev log) same i own e)
