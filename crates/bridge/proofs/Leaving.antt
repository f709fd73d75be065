-- Where a preparation cuts the log, no part is left above the commit index: all before the cut became whole.
use Rattle.std.proofs.Common.{◌≡◌, ℕ, zero, suc, ◌+◌, ◌-◌, ◌<◌, ◌≤◌, true, List, [], ◌∷◌, map, drop, take, Option, None, Some, slice_get, refl, sym, ap, subst, ◌∙◌, inl, inr, arith}
use Rattle.std.proofs.lemmas.Bool.{cases_eq, cond_both, true≢false}
use Rattle.std.proofs.lemmas.Option.{same_Some}
use Rattle.craft_base.specs.declared.command.Entry.{Entry}
use Rattle.entry_frames.specs.Durable.{Durable, after, applied, complete_at, completed}
use Rattle.entry_frames.specs.Entries.{is_whole}
use Rattle.leader_prep.specs.Decisions.{Decision, OpenPart, cursor_of, decided, decision_at, open_parts, parts_from}
use Rattle.leader_prep.specs.Solutions.{value_of}
use Rattle.leader_prep.specs.Verdicts.{Verdict, Wait, Rebuild, Cut}
use Rattle.world_model.proofs.Ranges.Completions.{complete_there}
use Rattle.world_model.proofs.Ranges.Orders.{dropped_at}
use Rattle.world_model.specs.Rules.Prepare.{whole_record}
use Rattle.bridge.proofs.OpenParts.{IsDone, cursor_is}

complete_here : (log : List Entry) (position : ℕ) (bytes : List ℕ) (own : Entry) → slice_get log position ≡ Some own → slice_get (complete_at log position bytes) position ≡ Some (completed own bytes)
complete_here [] position bytes own e = cc
complete_here (entry ∷ log) zero bytes own e = ap (λ it. Some (completed it bytes)) (same_Some entry own e)
complete_here (entry ∷ log) (suc position) bytes own e = complete_here log position bytes own e

got_taken : (n : ℕ) (log : List Entry) (place : ℕ) (entry : Entry) → slice_get (take n log) place ≡ Some entry → (place < n) × (slice_get log place ≡ Some entry)
got_taken zero log place entry e = cc
got_taken (suc n) [] place entry e = cc
got_taken (suc n) (first ∷ log) zero entry e = (omega arith, e)
got_taken (suc n) (first ∷ log) (suc place) entry e = let rest = got_taken n log place entry e in let lt : place < n = rest.0 in (omega (arith, lt), rest.1)

-- the entries stand in the log from that place on
abbrev StandFrom : List Entry → (place : ℕ) → List Entry → Type 0
StandFrom log place entries = (i at : ℕ) (own : Entry) → at ≡ place + i → slice_get entries i ≡ Some own → slice_get log at ≡ Some own

module _ (commit : ℕ) (verdict : OpenPart → Verdict) where
  -- what stands from the commit index on, up to a place, is whole
  abbrev WholeUpTo : (bound : ℕ) → List Entry → Type 0
  WholeUpTo bound log = (place : ℕ) (entry : Entry) → commit ≤ place → place < bound → slice_get log place ≡ Some entry → is_whole entry.form ≡ true

  one_more : (place : ℕ) (log : List Entry) (own : Entry) → slice_get log place ≡ Some own → is_whole own.form ≡ true → WholeUpTo place log → WholeUpTo (place + 1) log
  one_more place log own here whole up at entry from below found = elim (cases_eq at place) [
    | inl same ↦
        let is : own ≡ entry = same_Some own entry (sym here ∙ ap (slice_get log) (sym same) ∙ found) in
        ap (λ (it : Entry). is_whole it.form) (sym is) ∙ whole
    | inr apart ↦ up at entry from (omega (arith, below, apart)) found
  ]

  abbrev Leaves : Durable → Decision → Type 0
  Leaves d decision = (index : ℕ) → decision.cut ≡ Some index → WholeUpTo (index - 1) (after d (map whole_record decision.rebuilt)).log

  abbrev AllLeave : (index place : ℕ) → List Entry → Type 0
  AllLeave index place entries =
      (d : Durable) → index ≡ suc place → StandFrom d.log place entries → WholeUpTo place d.log → Leaves d (decided verdict (parts_from index entries))

  first_leaves :
      (index place : ℕ) (own : Entry) (entries : List Entry) → AllLeave (index + 1) (place + 1) entries → (d : Durable) → index ≡ suc place →
      StandFrom d.log place (own ∷ entries) → WholeUpTo place d.log → (v : Verdict) → Leaves d (decision_at index v (decided verdict (parts_from (index + 1) entries)))
  first_leaves index place own entries later d is stands up Wait = λ at e. cc
  first_leaves index place own entries later d is stands up Cut =
      λ at e.
      let same : index ≡ at = same_Some index at e in
      let before : place ≡ at - 1 = omega (arith, is, same) in
      subst (λ bound. WholeUpTo bound d.log) before up
  first_leaves index place own entries later d is stands up (Rebuild source) =
      let value : List ℕ = value_of source in
      let next : Durable = applied d (whole_record (record { index = index; source = source })) in
      let before : index - 1 ≡ place = omega (arith, is) in
      let here : slice_get d.log place ≡ Some own = stands 0 place own (omega arith) refl in
      let now : slice_get next.log place ≡ Some (completed own value) =
      subst (λ position. slice_get (complete_at d.log position value) place ≡ Some (completed own value)) (sym before) (complete_here d.log place value own here) in
      let still : WholeUpTo place next.log =
      λ at entry from below found. up at entry from below (sym (complete_there d.log (index - 1) value at (λ e. omega (arith, e, before, below))) ∙ found) in
      later next (omega (arith, is))
      (λ i at it at_is found. complete_there d.log (index - 1) value at (λ e. omega (arith, e, before, at_is)) ∙ stands (suc i) at it (omega (arith, at_is)) found)
      (one_more place next.log (completed own value) now refl still)

  all_leave : (entries : List Entry) (index place : ℕ) → AllLeave index place entries
  all_leave [] index place d is stands up = λ at e. cc
  all_leave (own ∷ entries) index place d is stands up =
      let later : AllLeave (index + 1) (place + 1) entries = all_leave entries (index + 1) (place + 1) in
      cond_both (is_whole own.form) (parts_from (index + 1) entries) (record { index = index; entry = own } ∷ parts_from (index + 1) entries)
      (λ parts. Leaves d (decided verdict parts))
      (λ whole.
      let here : slice_get d.log place ≡ Some own = stands 0 place own (omega arith) refl in
      later d (omega (arith, is)) (λ i at it at_is found. stands (suc i) at it (omega (arith, at_is)) found) (one_more place d.log own here whole up))
      (λ part. first_leaves index place own entries later d is stands up (verdict (record { index = index; entry = own })))

-- so there is no cursor
pub cut_leaves :
    (verdict : OpenPart → Verdict) (d : Durable) (index : ℕ) → (decided verdict (open_parts d.commit d.log)).cut ≡ Some index →
    cursor_of d.commit (take (index - 1) (after d (map whole_record (decided verdict (open_parts d.commit d.log)).rebuilt)).log) ≡ None
cut_leaves verdict d index e = none_found (cursor_of d.commit left) refl where
  left : List Entry
  left = take (index - 1) (after d (map whole_record (decided verdict (open_parts d.commit d.log)).rebuilt)).log

  done : IsDone d.commit left
  done zero entry above here = absurd (omega (arith, above))
  done (suc place) entry above here =
      let it = got_taken (index - 1) (after d (map whole_record (decided verdict (open_parts d.commit d.log)).rebuilt)).log place entry here in
      all_leave d.commit verdict (drop d.commit d.log) (d.commit + 1) d.commit d (omega arith) (dropped_at d.log d.commit)
      (λ at other from below found. absurd (omega (arith, from, below))) index e place entry (omega (arith, above)) it.0 it.1

  none_found : (found : Option ℕ) → cursor_of d.commit left ≡ found → cursor_of d.commit left ≡ None
  none_found None is = is
  none_found (Some cursor) is =
      let c = cursor_is d.commit left cursor is in
      absurd (true≢false (sym (done cursor c.entry c.above c.here) ∙ c.part))
