-- What was found of some entries, and of one more.
use Rattle.std.proofs.Common.{◌≡◌, ℕ, suc, ◌+◌, ◌*◌, ◌^◌, ◌<◌, ◌≤◌, List, [], ◌∷◌, ◌++◌, length, map, take, drop, Bool, true, false, Option, None, Some, refl, ap, sym, ◌∙◌, subst, arith}
use Rattle.std.specs.Prelude.{◌==◌, if◌then◌else◌, slice_get}
use Rattle.std.specs.Option.{option_map}
use Rattle.std.proofs.lemmas.Bool.{eqb-true, eq-eqb}
use Rattle.std.proofs.lemmas.List.{length-take-le}
use Rattle.std.proofs.lemmas.Option.{none-some, slice_get_within}
use Rattle.craft_base.specs.declared.command.Entry.{Entry}
use Rattle.entry_frames.specs.Entries.{is_whole}
use Rattle.entry_frames.specs.Logs.{entry_at, viewed_with}
use Rattle.entry_frames.specs.Records.{first_number}
use Rattle.entry_frames.specs.Views.{Viewed}
use Rattle.full_append.specs.Comparisons.{Compares, Notes, shared, entry_after, entries_after, whole_indexes}
use Rattle.full_append.specs.declared.compared.Comparison.{Comparison}
use Rattle.full_append.proofs.Comparing.{Shares, Lacks, shares, lacks}
use Rattle.full_append.proofs.Lists.{same_item, take_one_more, entry_there, entry_behind}
use Rattle.full_append.proofs.Masks.{bit_of, same_bit, mask_more, mask_small, as_many}
use Rattle.world_model.specs.Rules.Append.{common, completion, mask_of}

mask_with : (log es : List Entry) (n old new : ℕ) (kept : Entry) → length es ≡ n → old ≡ mask_of (entries_after log es)
    → new ≡ old + (if is_whole kept.form then 1 else 0) * 2 ^ n → new ≡ mask_of (entries_after log es ++ kept ∷ [])
mask_with log es n old new kept long was is =
    is ∙ ap (λ (m : ℕ). m + (if is_whole kept.form then 1 else 0) * 2 ^ n) was
    ∙ ap (λ (b : ℕ). mask_of (entries_after log es) + b * 2 ^ n) (same_bit kept)
    ∙ ap (λ (m : ℕ). mask_of (entries_after log es) + bit_of kept * 2 ^ m) (sym (as_many log es ∙ long))
    ∙ sym (mask_more (entries_after log es) kept)

noted_shared : (log es : List Entry) (first n : ℕ) (own e : Entry) (old new : Comparison) → length es ≡ n → Compares log es first old
    → Shares log es first own e → Notes n (first + n) (Some own) e old new → Compares log (es ++ e ∷ []) first new
noted_shared log es first n own e old new long was s noted = record {
  same = noted.0 ∙ ap (λ c. c + 1) was.same ∙ sym s.count;
  wholes =
      noted.1 ∙ ap (λ ws. ws ++ map first_number (completion (first + n) own e)) was.wholes
      ∙ ap (λ m. whole_indexes first log es ++ map first_number (completion (first + m) own e)) (sym long) ∙ sym s.wholes;
  mask = mask_with log es n old.mask new.mask (entry_after own e) long was.mask noted.2 ∙ ap mask_of (sym s.entries);
}

noted_lacked : (log es : List Entry) (first n : ℕ) (e : Entry) (old new : Comparison) → length es ≡ n → Compares log es first old
    → Lacks log es first e → Notes n (first + n) None e old new → Compares log (es ++ e ∷ []) first new
noted_lacked log es first n e old new long was s noted = record {
  same = noted.0 ∙ was.same ∙ sym s.count;
  wholes = noted.1 ∙ was.wholes ∙ sym s.wholes;
  mask = mask_with log es n old.mask new.mask e long was.mask noted.2 ∙ ap mask_of (sym s.entries);
}

-- what is shared
shared_is : (together : Bool) (o : Option Entry) (own e : Entry) → shared together o e ≡ Some own → (together ≡ true) × (o ≡ Some own) × ((own.term == e.term) ≡ true)
shared_is true (Some x) own e is = one (x.term == e.term) refl where
  one : (b : Bool) → (x.term == e.term) ≡ b → (true ≡ true) × (Some x ≡ Some own) × ((own.term == e.term) ≡ true)
  one true t =
      let same : x ≡ own = same_item x own (sym (ap (λ (b : Bool). if b then Some x else None) t) ∙ is) in
      (refl, ap Some same, subst (λ (p : Entry). (p.term == e.term) ≡ true) same t)
  one false t = absurd (none-some own (sym (ap (λ (b : Bool). if b then Some x else None) t) ∙ is))
shared_is true None own e is = absurd (none-some own is)
shared_is false None own e is = absurd (none-some own is)
shared_is false (Some x) own e is = absurd (none-some own is)

-- what isn't
not_shared : (together : Bool) (o : Option Entry) (e : Entry) → shared together o e ≡ None → (own : Entry) → together ≡ true → o ≡ Some own → (own.term == e.term) ≡ true → ⊥
not_shared together o e is own all there same =
    none-some own (sym is ∙ ap (λ (b : Bool). shared b o e) all ∙ ap (λ (p : Option Entry). shared true p e) there ∙ ap (λ (b : Bool). if b then Some own else None) same)

pub noted : (log es : List Entry) (first n : ℕ) (e : Entry) (old new : Comparison) → length es ≡ n → Compares log es first old
    → Notes n (first + n) (shared (old.same == n) (slice_get log n) e) e old new → Compares log (es ++ e ∷ []) first new
noted log es first n e old new long was notes = one (shared (old.same == n) (slice_get log n) e) refl notes where
  one : (o : Option Entry) → shared (old.same == n) (slice_get log n) e ≡ o → Notes n (first + n) o e old new → Compares log (es ++ e ∷ []) first new
  one (Some own) is note =
      let s = shared_is (old.same == n) (slice_get log n) own e is in
      let all : common log es ≡ length es = sym was.same ∙ eqb-true old.same n s.0 ∙ sym long in
      noted_shared log es first n own e old new long was (shares log es first own e all (ap (slice_get log) long ∙ s.1) s.2) note
  one None is note =
      noted_lacked log es first n e old new long was (lacks log es first e (λ own s.
      not_shared (old.same == n) (slice_get log n) e is own (eq-eqb old.same n (was.same ∙ s.0 ∙ long)) (ap (slice_get log) (sym long) ∙ s.1) s.2)) note

-- in the log from behind `prev` on
pub one_more : (log entries : List Entry) (k prev n index : ℕ) (e : Entry) (view : Option Viewed) (old new : Comparison) → index ≡ prev + 1 + n
    → slice_get entries n ≡ Some e → view ≡ viewed_with k (entry_at log index) → Compares (drop prev log) (take n entries) (prev + 1) old
    → Notes n index (shared (old.same == n) (option_map (λ v. v.entry) view) e) e old new → Compares (drop prev log) (take (n + 1) entries) (prev + 1) new
one_more log entries k prev n index e view old new at there seen was notes =
    let found : option_map (λ v. v.entry) view ≡ slice_get (drop prev log) n =
    ap (option_map (λ (v : Viewed). v.entry)) seen ∙ entry_there k (entry_at log index) ∙ entry_behind log prev n index at in
    let within : n < length entries = slice_get_within entries n e there in
    let long : length (take n entries) ≡ n = length-take-le n entries (omega (arith, within)) in
    let here : Notes n (prev + 1 + n) (shared (old.same == n) (slice_get (drop prev log) n) e) e old new =
    subst (λ (i : ℕ). Notes n i (shared (old.same == n) (slice_get (drop prev log) n) e) e old new) at
    (subst (λ (o : Option Entry). Notes n index (shared (old.same == n) o e) e old new) found notes) in
    subst (λ (es : List Entry). Compares (drop prev log) es (prev + 1) new) (sym (take_one_more entries n e there))
    (noted (drop prev log) (take n entries) (prev + 1) n e old new long was here)

-- how great what was found is
pub common_short : (log es : List Entry) → common log es ≤ length es
common_short [] es = omega arith
common_short (own ∷ log) [] = omega arith
common_short (own ∷ log) (e ∷ es) = one (own.term == e.term) (common_short log es) where
  one : (b : Bool) → common log es ≤ length es → (if b then suc (common log es) else 0) ≤ suc (length es)
  one true less = omega (arith, less)
  one false less = omega arith

pub common_in : (log es : List Entry) → common log es ≤ length log
common_in [] es = omega arith
common_in (own ∷ log) [] = omega arith
common_in (own ∷ log) (e ∷ es) = one (own.term == e.term) (common_in log es) where
  one : (b : Bool) → common log es ≤ length log → (if b then suc (common log es) else 0) ≤ suc (length log)
  one true less = omega (arith, less)
  one false less = omega arith

pub bounds : (log es : List Entry) (first n : ℕ) (found : Comparison) → length es ≡ n → Compares log es first found → (found.same ≤ n) × (found.mask < 2 ^ n)
bounds log es first n found long is =
    let few = common_short log es in
    let small : mask_of (entries_after log es) < 2 ^ n = subst (λ (m : ℕ). mask_of (entries_after log es) < 2 ^ m) (as_many log es ∙ long) (mask_small (entries_after log es)) in
    (omega (arith, is.same, few, long), subst (λ (m : ℕ). m < 2 ^ n) (sym is.mask) small)
