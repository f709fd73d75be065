-- One entry more of a message beside the log.
use Rattle.std.proofs.Common.{◌≡◌, ℕ, suc, ◌+◌, List, [], ◌∷◌, ◌++◌, length, map, Bool, true, false, Some, refl, ap, sym, ◌∙◌, subst, append_assoc, arith}
use Rattle.std.specs.Prelude.{◌==◌, if◌then◌else◌, slice_get}
use Rattle.std.proofs.lemmas.List.{append-nil}
use Rattle.std.proofs.lemmas.Option.{none-some}
use Rattle.craft_base.specs.declared.command.Entry.{Entry}
use Rattle.entry_frames.specs.Records.{first_number}
use Rattle.full_append.specs.Comparisons.{Compares, entry_after, entries_after, whole_indexes}
use Rattle.full_append.specs.declared.compared.Comparison.{Comparison}
use Rattle.full_append.proofs.Lists.{same_item}
use Rattle.world_model.specs.Rules.Append.{common, completion, mask_of}

-- ---- no entries

common_none : (log : List Entry) → common log [] ≡ 0
common_none [] = refl
common_none (own ∷ log) = refl

wholes_none : (index : ℕ) (log : List Entry) → whole_indexes index log [] ≡ []
wholes_none index [] = refl
wholes_none index (own ∷ log) = refl

after_none : (log : List Entry) → entries_after log [] ≡ []
after_none [] = refl
after_none (own ∷ log) = refl

-- ---- two entries side by side

pub common_same : (own e : Entry) (log es : List Entry) → (own.term == e.term) ≡ true → common (own ∷ log) (e ∷ es) ≡ suc (common log es)
common_same own e log es is = ap (λ (b : Bool). if b then suc (common log es) else 0) is

pub common_other : (own e : Entry) (log es : List Entry) → (own.term == e.term) ≡ false → common (own ∷ log) (e ∷ es) ≡ 0
common_other own e log es is = ap (λ (b : Bool). if b then suc (common log es) else 0) is

pub wholes_same : (index : ℕ) (own e : Entry) (log es : List Entry) → (own.term == e.term) ≡ true
    → whole_indexes index (own ∷ log) (e ∷ es) ≡ map first_number (completion index own e) ++ whole_indexes (index + 1) log es
wholes_same index own e log es is =
    ap (λ (b : Bool). if b then map first_number (completion index own e) ++ whole_indexes (index + 1) log es else []) is

pub wholes_other : (index : ℕ) (own e : Entry) (log es : List Entry) → (own.term == e.term) ≡ false → whole_indexes index (own ∷ log) (e ∷ es) ≡ []
wholes_other index own e log es is =
    ap (λ (b : Bool). if b then map first_number (completion index own e) ++ whole_indexes (index + 1) log es else []) is

pub after_same : (own e : Entry) (log es : List Entry) → (own.term == e.term) ≡ true
    → entries_after (own ∷ log) (e ∷ es) ≡ entry_after own e ∷ entries_after log es
after_same own e log es is = ap (λ (b : Bool). if b then entry_after own e ∷ entries_after log es else e ∷ es) is

pub after_other : (own e : Entry) (log es : List Entry) → (own.term == e.term) ≡ false → entries_after (own ∷ log) (e ∷ es) ≡ e ∷ es
after_other own e log es is = ap (λ (b : Bool). if b then entry_after own e ∷ entries_after log es else e ∷ es) is

-- ---- all before it are the same, and it is too

pub record Shares (log es : List Entry) (first : ℕ) (own e : Entry) : Type 0 where
  pub count : common log (es ++ e ∷ []) ≡ common log es + 1
  pub wholes : whole_indexes first log (es ++ e ∷ []) ≡ whole_indexes first log es ++ map first_number (completion (first + length es) own e)
  pub entries : entries_after log (es ++ e ∷ []) ≡ entries_after log es ++ entry_after own e ∷ []

add_zero : (n : ℕ) → n ≡ n + 0
add_zero n = omega arith

first_shared : (log : List Entry) (first : ℕ) (own e : Entry) → (own.term == e.term) ≡ true → Shares (own ∷ log) [] first own e
first_shared log first own e is = record {
  count = common_same own e log [] is ∙ ap suc (common_none log);
  wholes =
      wholes_same first own e log [] is ∙ ap (λ ws. map first_number (completion first own e) ++ ws) (wholes_none (first + 1) log)
      ∙ append-nil (map first_number (completion first own e)) ∙ ap (λ (n : ℕ). map first_number (completion n own e)) (add_zero first);
  entries = after_same own e log [] is ∙ ap (λ es. entry_after own e ∷ es) (after_none log);
}

next_shared : (log es : List Entry) (first : ℕ) (o x own e : Entry) → (o.term == x.term) ≡ true → Shares log es (first + 1) own e → Shares (o ∷ log) (x ∷ es) first own e
next_shared log es first o x own e is s = record {
  count =
      let whole : common (o ∷ log) (x ∷ es ++ e ∷ []) ≡ suc (common log (es ++ e ∷ [])) = common_same o x log (es ++ e ∷ []) is in
      let part : common (o ∷ log) (x ∷ es) ≡ suc (common log es) = common_same o x log es is in
      omega (arith, whole, part, s.count);
  wholes =
      let before = map first_number (completion first o x) in
      let at : first + 1 + length es ≡ first + length (x ∷ es) = omega arith in
      wholes_same first o x log (es ++ e ∷ []) is ∙ ap (λ ws. before ++ ws) s.wholes
      ∙ sym (append_assoc before (whole_indexes (first + 1) log es) (map first_number (completion (first + 1 + length es) own e)))
      ∙ ap (λ n. before ++ whole_indexes (first + 1) log es ++ map first_number (completion n own e)) at
      ∙ ap (λ ws. ws ++ map first_number (completion (first + length (x ∷ es)) own e)) (sym (wholes_same first o x log es is));
  entries =
      after_same o x log (es ++ e ∷ []) is ∙ ap (λ ys. entry_after o x ∷ ys) s.entries
      ∙ ap (λ ys. ys ++ entry_after own e ∷ []) (sym (after_same o x log es is));
}

pub shares : (log es : List Entry) (first : ℕ) (own e : Entry) → common log es ≡ length es → slice_get log (length es) ≡ Some own → (own.term == e.term) ≡ true
    → Shares log es first own e
shares [] es first own e all there is = absurd (none-some own there)
shares (o ∷ log) [] first own e all there is =
    let same : o ≡ own = same_item o own there in
    subst (λ (p : Entry). Shares (p ∷ log) [] first own e) (sym same) (first_shared log first own e is)
shares (o ∷ log) (x ∷ es) first own e all there is = one (o.term == x.term) refl (λ fewer. shares log es (first + 1) own e fewer there is) where
  one : (b : Bool) → (o.term == x.term) ≡ b → (common log es ≡ length es → Shares log es (first + 1) own e) → Shares (o ∷ log) (x ∷ es) first own e
  one true t rest =
      let fewer : suc (common log es) ≡ suc (length es) = sym (common_same o x log es t) ∙ all in
      next_shared log es first o x own e t (rest (omega (arith, fewer)))
  one false t rest =
      let none : 0 ≡ suc (length es) = sym (common_other o x log es t) ∙ all in
      absurd (omega (arith, none))

-- ---- one before it isn't the same, or it isn't

pub record Lacks (log es : List Entry) (first : ℕ) (e : Entry) : Type 0 where
  pub count : common log (es ++ e ∷ []) ≡ common log es
  pub wholes : whole_indexes first log (es ++ e ∷ []) ≡ whole_indexes first log es
  pub entries : entries_after log (es ++ e ∷ []) ≡ entries_after log es ++ e ∷ []

-- what would make it the same
abbrev pub IsShared : List Entry → List Entry → Entry → Entry → Type 0
IsShared log es e own = (common log es ≡ length es) × (slice_get log (length es) ≡ Some own) × ((own.term == e.term) ≡ true)

first_lacked : (o : Entry) (log : List Entry) (first : ℕ) (e : Entry) → (o.term == e.term) ≡ false → Lacks (o ∷ log) [] first e
first_lacked o log first e is = record {
  count = common_other o e log [] is;
  wholes = wholes_other first o e log [] is;
  entries = after_other o e log [] is;
}

next_lacked : (log es : List Entry) (first : ℕ) (o x e : Entry) → (o.term == x.term) ≡ true → Lacks log es (first + 1) e → Lacks (o ∷ log) (x ∷ es) first e
next_lacked log es first o x e is s = record {
  count = common_same o x log (es ++ e ∷ []) is ∙ ap suc s.count ∙ sym (common_same o x log es is);
  wholes = wholes_same first o x log (es ++ e ∷ []) is ∙ ap (λ ws. map first_number (completion first o x) ++ ws) s.wholes ∙ sym (wholes_same first o x log es is);
  entries = after_same o x log (es ++ e ∷ []) is ∙ ap (λ ys. entry_after o x ∷ ys) s.entries ∙ ap (λ ys. ys ++ e ∷ []) (sym (after_same o x log es is));
}

differed : (log es : List Entry) (first : ℕ) (o x e : Entry) → (o.term == x.term) ≡ false → Lacks (o ∷ log) (x ∷ es) first e
differed log es first o x e is = record {
  count = common_other o x log (es ++ e ∷ []) is ∙ sym (common_other o x log es is);
  wholes = wholes_other first o x log (es ++ e ∷ []) is ∙ sym (wholes_other first o x log es is);
  entries = after_other o x log (es ++ e ∷ []) is ∙ ap (λ ys. ys ++ e ∷ []) (sym (after_other o x log es is));
}

pub lacks : (log es : List Entry) (first : ℕ) (e : Entry) → ((own : Entry) → IsShared log es e own → ⊥) → Lacks log es first e
lacks [] es first e never = record { count = refl; wholes = refl; entries = refl }
lacks (o ∷ log) [] first e never = one (o.term == e.term) refl where
  one : (b : Bool) → (o.term == e.term) ≡ b → Lacks (o ∷ log) [] first e
  one true t = absurd (never o (refl, refl, t))
  one false t = first_lacked o log first e t
lacks (o ∷ log) (x ∷ es) first e never = one (o.term == x.term) refl (lacks log es (first + 1) e) where
  one : (b : Bool) → (o.term == x.term) ≡ b → (((own : Entry) → IsShared log es e own → ⊥) → Lacks log es (first + 1) e) → Lacks (o ∷ log) (x ∷ es) first e
  one true t rest = next_lacked log es first o x e t (rest (λ own s. never own (common_same o x log es t ∙ ap suc s.0, s.1, s.2)))
  one false t rest = differed log es first o x e t

pub started : (log : List Entry) (first : ℕ) (found : Comparison) → found.same ≡ 0 → found.wholes.items ≡ [] → found.mask ≡ 0 → Compares log [] first found
started log first found same wholes mask = record {
  same = same ∙ sym (common_none log);
  wholes = wholes ∙ sym (wholes_none first log);
  mask = mask ∙ sym (ap mask_of (after_none log));
}
