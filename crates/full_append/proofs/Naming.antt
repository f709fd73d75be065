-- The records that a plan names.
use Rattle.std.proofs.Common.{◌≡◌, inl, inr, ℕ, suc, ◌+◌, ◌-◌, List, [], ◌∷◌, ◌++◌, map, drop, Bool, true, false, Option, Some, refl, ap, sym, ◌∙◌, arith}
use Rattle.std.specs.Prelude.{◌==◌, slice_get}
use Rattle.std.specs.Option.{option_to_list}
use Rattle.std.proofs.lemmas.List.{map-append}
use Rattle.craft_base.specs.declared.command.Entry.{Entry}
use Rattle.entry_frames.specs.Entries.{form_bytes}
use Rattle.entry_frames.specs.Records.{Record, Add, Cut, Whole, first_number}
use Rattle.full_append.specs.Comparisons.{whole_indexes}
use Rattle.full_append.specs.Plans.{planned_records, value_at, value_of_entry}
use Rattle.full_append.proofs.Comparing.{wholes_same, wholes_other}
use Rattle.full_append.proofs.Completing.{completions_of, completions_same, completions_other, what_becomes}
use Rattle.world_model.specs.Rules.Append.{common, completion, difference, taken_records}

-- the record of a value
abbrev record_at : (prev : ℕ) → List Entry → ℕ → Record
record_at prev entries index = Whole index (value_at prev entries index)

one_named : (prev index j : ℕ) (entries : List Entry) (own e : Entry) → index ≡ prev + 1 + j → slice_get entries j ≡ Some e
    → map (record_at prev entries) (map first_number (completion index own e)) ≡ completion index own e
one_named prev index j entries own e at there = elim (what_becomes index own e) [
  | inl w ↦ ap (λ (rs : List Record). map (record_at prev entries) (map first_number rs)) w.recorded
      ∙ ap (λ (bytes : List ℕ). Whole index bytes ∷ []) (value ∙ w.told) ∙ sym w.recorded
  | inr s ↦ ap (λ (rs : List Record). map (record_at prev entries) (map first_number rs)) s.recorded ∙ sym s.recorded
] where
  place : index - (prev + 1) ≡ j
  place = omega (arith, at)

  value : value_at prev entries index ≡ form_bytes e.form
  value = ap (λ (n : ℕ). value_of_entry (slice_get entries n)) place ∙ ap value_of_entry there

-- the entries from a place of the message on
all_named : (prev index j : ℕ) (entries log es : List Entry) → index ≡ prev + 1 + j → ((i : ℕ) → slice_get entries (j + i) ≡ slice_get es i)
    → map (record_at prev entries) (whole_indexes index log es) ≡ completions_of index log es
all_named prev index j entries [] es at there = refl
all_named prev index j entries (own ∷ log) [] at there = refl
all_named prev index j entries (own ∷ log) (e ∷ es) at there =
    one (own.term == e.term) refl (all_named prev (index + 1) (j + 1) entries log es (omega (arith, at)) (λ i. ap (slice_get entries) (next j i) ∙ there (suc i))) where
      next : (j i : ℕ) → j + 1 + i ≡ j + suc i
      next j i = omega arith

      first : slice_get entries j ≡ Some e
      first = ap (slice_get entries) (here j) ∙ there 0 where
        here : (j : ℕ) → j ≡ j + 0
        here j = omega arith

      one : (b : Bool) → (own.term == e.term) ≡ b → map (record_at prev entries) (whole_indexes (index + 1) log es) ≡ completions_of (index + 1) log es
          → map (record_at prev entries) (whole_indexes index (own ∷ log) (e ∷ es)) ≡ completions_of index (own ∷ log) (e ∷ es)
      one true t rest =
          ap (map (record_at prev entries)) (wholes_same index own e log es t)
          ∙ map-append (record_at prev entries) (map first_number (completion index own e)) (whole_indexes (index + 1) log es)
          ∙ ap (λ (rs : List Record). rs ++ map (record_at prev entries) (whole_indexes (index + 1) log es)) (one_named prev index j entries own e at first)
          ∙ ap (λ (rs : List Record). completion index own e ++ rs) rest ∙ sym (completions_same index own e log es t)
      one false t rest = ap (map (record_at prev entries)) (wholes_other index own e log es t) ∙ sym (completions_other index own e log es t)

-- a plan with what was found names the records of the rule
pub named : (prev : ℕ) (log entries : List Entry) (cut : Option ℕ) (wholes : List ℕ) (first_new : ℕ) → cut ≡ difference prev log entries
    → wholes ≡ whole_indexes (prev + 1) (drop prev log) entries → first_new ≡ common (drop prev log) entries
    → planned_records prev entries cut wholes first_new ≡ taken_records prev log entries
named prev log entries cut wholes first_new cut_is wholes_are new_is =
    let rest : Option ℕ → ℕ → List Record = λ c n. map Cut (option_to_list c) ++ map Add (drop n entries) in
    ap (λ (ws : List ℕ). map (record_at prev entries) ws ++ rest cut first_new) wholes_are
    ∙ ap (λ (rs : List Record). rs ++ rest cut first_new) (all_named prev (prev + 1) 0 entries (drop prev log) entries (add_zero (prev + 1)) (λ i. ap (slice_get entries) (zero_add i)))
    ∙ ap (λ (c : Option ℕ). completions_of (prev + 1) (drop prev log) entries ++ rest c first_new) cut_is
    ∙ ap (λ (n : ℕ). completions_of (prev + 1) (drop prev log) entries ++ rest (difference prev log entries) n) new_is where
      add_zero : (n : ℕ) → n ≡ n + 0
      add_zero n = omega arith

      zero_add : (n : ℕ) → 0 + n ≡ n
      zero_add n = omega arith
