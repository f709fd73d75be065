-- The parts that a log holds above its commit index, in order, and what is decided of them: the cursor is the least of them.
use Rattle.std.proofs.Common.{◌≡◌, ℕ, zero, suc, ◌+◌, ◌-◌, ◌<◌, ◌≤◌, true, false, List, [], ◌∷◌, drop, Option, None, Some, slice_get, refl, sym, ap, ◌∙◌, inl, inr, subst, arith}
use Rattle.std.specs.List.{All}
use Rattle.std.proofs.lemmas.Bool.{cases_lt, cond_both, true≢false}
use Rattle.std.proofs.lemmas.List.Elements.{All-cons, All-head, All-nil, All-tail, All-weaker}
use Rattle.std.proofs.lemmas.Option.{same_Some}
use Rattle.coded_append.proofs.Places.{entry_behind}
use Rattle.craft_base.specs.declared.command.Entry.{Entry}
use Rattle.entry_frames.specs.Entries.{is_whole}
use Rattle.entry_frames.specs.Logs.{entry_at}
use Rattle.leader_prep.specs.Decisions.{Decision, OpenPart, cursor_of, decided, decision_at, first_index, open_parts, parts_from}
use Rattle.leader_prep.specs.Verdicts.{Verdict, Wait, Rebuild, Cut}

-- ---- parts among entries

-- one of the entries, the first of which has that index, and a part
record IsPartFrom (index : ℕ) (entries : List Entry) (it : OpenPart) : Type 0 where
  pub from : index ≤ it.index
  pub here : slice_get entries (it.index - index) ≡ Some it.entry
  pub part : is_whole it.entry.form ≡ false

one_further : (index : ℕ) (entry : Entry) (entries : List Entry) (part : OpenPart) → IsPartFrom (index + 1) entries part → IsPartFrom index (entry ∷ entries) part
one_further index entry entries part is =
    let from : index + 1 ≤ part.index = is.from in
    let place : part.index - index ≡ suc (part.index - (index + 1)) = omega (arith, from) in
    record { from = omega (arith, from); here = ap (slice_get (entry ∷ entries)) place ∙ is.here; part = is.part }

parts_are : (index : ℕ) (entries : List Entry) → All (IsPartFrom index entries) (parts_from index entries)
parts_are index [] = All-nil (IsPartFrom index [])
parts_are index (entry ∷ entries) =
    let later : All (IsPartFrom index (entry ∷ entries)) (parts_from (index + 1) entries) =
    All-weaker (IsPartFrom (index + 1) entries) (IsPartFrom index (entry ∷ entries)) (one_further index entry entries) (parts_from (index + 1) entries)
    (parts_are (index + 1) entries) in
    let place : index - index ≡ 0 = omega arith in
    cond_both (is_whole entry.form) (parts_from (index + 1) entries) (record { index = index; entry = entry } ∷ parts_from (index + 1) entries)
    (All (IsPartFrom index (entry ∷ entries))) (λ whole. later)
    (λ part.
    All-cons (IsPartFrom index (entry ∷ entries)) (record { index = index; entry = entry }) (parts_from (index + 1) entries)
    (record { from = omega arith; here = ap (slice_get (entry ∷ entries)) place; part = part }) later)

-- what stands before the first of them is whole
abbrev IsWholeBefore : (index : ℕ) → List Entry → Option ℕ → Type 0
IsWholeBefore index entries None = (place : ℕ) (entry : Entry) → slice_get entries place ≡ Some entry → is_whole entry.form ≡ true
IsWholeBefore index entries (Some cursor) =
    (place : ℕ) (entry : Entry) → index + place < cursor → slice_get entries place ≡ Some entry → is_whole entry.form ≡ true

whole_next :
    (first : Entry) (entries : List Entry) (Q : ℕ → Type 0) → is_whole first.form ≡ true →
    ((place : ℕ) (entry : Entry) → Q (suc place) → slice_get entries place ≡ Some entry → is_whole entry.form ≡ true) →
    (place : ℕ) (entry : Entry) → Q place → slice_get (first ∷ entries) place ≡ Some entry → is_whole entry.form ≡ true
whole_next first entries Q whole later zero entry q e = ap (λ (it : Entry). is_whole it.form) (sym (same_Some first entry e)) ∙ whole
whole_next first entries Q whole later (suc place) entry q e = later place entry q e

whole_first :
    (index : ℕ) (first : Entry) (entries : List Entry) (found : Option ℕ) → is_whole first.form ≡ true → IsWholeBefore (index + 1) entries found →
    IsWholeBefore index (first ∷ entries) found
whole_first index first entries None whole later =
    λ place entry e. whole_next first entries (λ at. Unit {0}) whole (λ at it q. later at it) place entry tt e
whole_first index first entries (Some cursor) whole later =
    whole_next first entries (λ place. index + place < cursor) whole (λ place entry before. later place entry (omega (arith, before)))

before_first : (index : ℕ) (entries : List Entry) → IsWholeBefore index entries (first_index (parts_from index entries))
before_first index [] = λ place entry e. cc
before_first index (entry ∷ entries) =
    cond_both (is_whole entry.form) (parts_from (index + 1) entries) (record { index = index; entry = entry } ∷ parts_from (index + 1) entries)
    (λ parts. IsWholeBefore index (entry ∷ entries) (first_index parts))
    (λ whole. whole_first index entry entries (first_index (parts_from (index + 1) entries)) whole (before_first (index + 1) entries))
    (λ part place other before e. absurd (omega (arith, before)))

-- ---- in a log

-- a part that a log holds above a commit index
pub record IsOpenPart (commit : ℕ) (log : List Entry) (it : OpenPart) : Type 0 where
  pub above : commit < it.index
  pub here : entry_at log it.index ≡ Some it.entry
  pub part : is_whole it.entry.form ≡ false

pub open_parts_are : (commit : ℕ) (log : List Entry) → All (IsOpenPart commit log) (open_parts commit log)
open_parts_are commit log =
    All-weaker (IsPartFrom (commit + 1) (drop commit log)) (IsOpenPart commit log)
    (λ part is.
    let from : commit + 1 ≤ part.index = is.from in
    record {
      above = omega (arith, from);
      here = entry_behind log commit (part.index - (commit + 1)) part.index (omega (arith, from)) ∙ is.here;
      part = is.part;
    })
    (open_parts commit log) (parts_are (commit + 1) (drop commit log))

-- the least index above the commit index that the log holds as a part
pub record IsCursor (commit : ℕ) (log : List Entry) (cursor : ℕ) : Type 0 where
  pub entry : Entry
  pub above : commit < cursor
  pub here : entry_at log cursor ≡ Some entry
  pub part : is_whole entry.form ≡ false
  pub least : (index : ℕ) (other : Entry) → commit < index → index < cursor → entry_at log index ≡ Some other → is_whole other.form ≡ true

-- no index above the commit index is held as a part
abbrev pub IsDone : (commit : ℕ) → List Entry → Type 0
IsDone commit log = (index : ℕ) (entry : Entry) → commit < index → entry_at log index ≡ Some entry → is_whole entry.form ≡ true

place_above : (commit : ℕ) (log : List Entry) (index : ℕ) (entry : Entry) → commit < index → entry_at log index ≡ Some entry →
    slice_get (drop commit log) (index - (commit + 1)) ≡ Some entry
place_above commit log index entry above e = sym (entry_behind log commit (index - (commit + 1)) index (omega (arith, above))) ∙ e

first_is : (P : OpenPart → Type 0) (parts : List OpenPart) (cursor : ℕ) → All P parts → first_index parts ≡ Some cursor → (part : OpenPart) × P part × (part.index ≡ cursor)
first_is P [] cursor all e = cc
first_is P (part ∷ parts) cursor all e = (part, All-head P part parts all, same_Some part.index cursor e)

-- the cursor is that index, and where there is none, no part is left
pub cursor_is : (commit : ℕ) (log : List Entry) (cursor : ℕ) → cursor_of commit log ≡ Some cursor → IsCursor commit log cursor
cursor_is commit log cursor e =
    let found : (part : OpenPart) × IsOpenPart commit log part × (part.index ≡ cursor) =
    first_is (IsOpenPart commit log) (open_parts commit log) cursor (open_parts_are commit log) e in
    let before : IsWholeBefore (commit + 1) (drop commit log) (Some cursor) =
    subst (IsWholeBefore (commit + 1) (drop commit log)) e (before_first (commit + 1) (drop commit log)) in
    let above : commit < (found.0).index = (found.1).above in
    let at : (found.0).index ≡ cursor = found.2 in
    record {
      entry = (found.0).entry;
      above = omega (arith, above, at);
      here = ap (entry_at log) (sym at) ∙ (found.1).here;
      part = (found.1).part;
      least = λ index other high low e.
          before (index - (commit + 1)) other (omega (arith, high, low)) (place_above commit log index other high e);
    }

pub cursor_none : (commit : ℕ) (log : List Entry) → cursor_of commit log ≡ None → IsDone commit log
cursor_none commit log e index entry above here =
    let all : IsWholeBefore (commit + 1) (drop commit log) None =
    subst (IsWholeBefore (commit + 1) (drop commit log)) e (before_first (commit + 1) (drop commit log)) in
    all (index - (commit + 1)) entry (place_above commit log index entry above here)

-- a part is at or above the cursor
pub part_behind : {commit : ℕ} {log : List Entry} {cursor : ℕ} {part : OpenPart} → IsCursor commit log cursor → IsOpenPart commit log part → cursor ≤ part.index
part_behind {cursor = cursor} {part = part} c is = elim (cases_lt part.index cursor) [
  | inl before ↦ absurd (true≢false (sym (c.least part.index part.entry is.above before is.here) ∙ is.part))
  | inr behind ↦ behind
]

-- where what was whole is still whole, the cursor hasn't fallen
pub cursor_rises :
    {commit : ℕ} {log later : List Entry} {cursor next : ℕ} → IsCursor commit log cursor → IsCursor commit later next →
    ((index : ℕ) (entry other : Entry) → entry_at log index ≡ Some entry → entry_at later index ≡ Some other → is_whole entry.form ≡ true → is_whole other.form ≡ true) →
    ((index : ℕ) (other : Entry) → entry_at later index ≡ Some other → (entry : Entry) × (entry_at log index ≡ Some entry)) → cursor ≤ next
cursor_rises {cursor = cursor} {next = next} c d keeps had = elim (cases_lt next cursor) [
  | inl before ↦
      let was : (entry : Entry) × (entry_at _ next ≡ Some entry) = had next d.entry d.here in
      absurd (true≢false (sym (keeps next was.0 d.entry was.1 d.here (c.least next was.0 d.above before was.1)) ∙ d.part))
  | inr behind ↦ behind
]

-- ---- what is decided of parts

cut_with :
    (P : ℕ → Type 0) (index : ℕ) (verdict : Verdict) (rest : Decision) → (verdict ≡ Cut → P index) → ((at : ℕ) → rest.cut ≡ Some at → P at) →
    (at : ℕ) → (decision_at index verdict rest).cut ≡ Some at → P at
cut_with P index Wait rest here later at e = cc
cut_with P index Cut rest here later at e = subst P (same_Some index at e) (here refl)
cut_with P index (Rebuild source) rest here later at e = later at e

module _ (verdict : OpenPart → Verdict) where
  -- the cut is at one of the parts, of which this is the verdict
  abbrev pub Decides : Verdict → (ℕ → Type 0) → OpenPart → Type 0
  Decides it P part = verdict part ≡ it → P part.index

  pub cut_is : (P : ℕ → Type 0) (parts : List OpenPart) → All (Decides Cut P) parts → (index : ℕ) → (decided verdict parts).cut ≡ Some index → P index
  cut_is P [] all = λ index e. cc
  cut_is P (part ∷ parts) all =
      cut_with P part.index (verdict part) (decided verdict parts) (All-head (Decides Cut P) part parts all) (cut_is P parts (All-tail (Decides Cut P) part parts all))
