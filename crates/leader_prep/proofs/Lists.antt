-- Places of lists.
use Rattle.std.proofs.Common.{◌≡◌, ℕ, zero, suc, ◌+◌, List, [], ◌∷◌, ◌++◌, take, drop, get_or, Option, None, Some, refl, ap, add-one, sym, ◌∙◌}
use Rattle.std.specs.Prelude.{slice_get}
use Rattle.std.proofs.lemmas.Option.{none-some}
use Rattle.craft_base.specs.declared.command.Entry.{Entry}
use Rattle.entry_frames.specs.Logs.{viewed_with}
use Rattle.entry_frames.specs.Views.{Viewed}

pub same_item : {A : Type 0} (x y : A) → ◌≡◌ {A = Option A} (Some x) (Some y) → x ≡ y
same_item x y e = ap (λ (o : Option _). elim o [ None ↦ x | Some z ↦ z ]) e

-- one place more
take_next : {A : Type 0} (xs : List A) (n : ℕ) (x : A) → slice_get xs n ≡ Some x → take (suc n) xs ≡ take n xs ++ x ∷ []
take_next [] n x e = absurd (none-some x e)
take_next (y ∷ xs) zero x e = ap (λ z. z ∷ []) (same_item y x e)
take_next (y ∷ xs) (suc n) x e = ap (λ zs. y ∷ zs) (take_next xs n x e)

pub take_one_more : {A : Type 0} (xs : List A) (n : ℕ) (x : A) → slice_get xs n ≡ Some x → take (n + 1) xs ≡ take n xs ++ x ∷ []
take_one_more xs n x e = ap (λ (m : ℕ). take m xs) (add-one n) ∙ take_next xs n x e

drop_next : {A : Type 0} (xs : List A) (n : ℕ) (x : A) → slice_get xs n ≡ Some x → drop n xs ≡ x ∷ drop (suc n) xs
drop_next [] n x e = absurd (none-some x e)
drop_next (y ∷ xs) zero x e = ap (λ z. z ∷ xs) (same_item y x e)
drop_next (y ∷ xs) (suc n) x e = drop_next xs n x e

pub drop_at_place : {A : Type 0} (xs : List A) (n : ℕ) (x : A) → slice_get xs n ≡ Some x → drop n xs ≡ x ∷ drop (n + 1) xs
drop_at_place xs n x e = drop_next xs n x e ∙ ap (λ (m : ℕ). x ∷ drop m xs) (sym (add-one n))

pub drop_past : {A : Type 0} (xs : List A) (n : ℕ) → slice_get xs n ≡ None → drop n xs ≡ []
drop_past [] zero e = refl
drop_past [] (suc n) e = refl
drop_past (y ∷ xs) zero e = absurd (none-some y (sym e))
drop_past (y ∷ xs) (suc n) e = drop_past xs n e

past_next : {A : Type 0} (xs : List A) (n : ℕ) → slice_get xs n ≡ None → slice_get xs (suc n) ≡ None
past_next [] n e = refl
past_next (y ∷ xs) zero e = absurd (none-some y (sym e))
past_next (y ∷ xs) (suc n) e = past_next xs n e

pub drop_past_next : {A : Type 0} (xs : List A) (n : ℕ) → slice_get xs n ≡ None → drop (n + 1) xs ≡ []
drop_past_next xs n e = ap (λ (m : ℕ). drop m xs) (add-one n) ∙ drop_past xs (suc n) (past_next xs n e)

pub viewed_some : (k : ℕ) (o : Option Entry) (v : Viewed) → Some v ≡ viewed_with k o → o ≡ Some v.entry
viewed_some k None v is = absurd (none-some v (sym is))
viewed_some k (Some e) v is = ap (λ (x : Viewed). Some x.entry) (same_item (record { k = k; entry = e }) v (sym is))

pub viewed_none : (k : ℕ) (o : Option Entry) → None ≡ viewed_with k o → o ≡ None
viewed_none k None is = refl
viewed_none k (Some e) is = absurd (none-some (record { k = k; entry = e }) is)

pub viewed_k : (k : ℕ) (o : Option Entry) (v : Viewed) → Some v ≡ viewed_with k o → v.k ≡ k
viewed_k k None v is = absurd (none-some v (sym is))
viewed_k k (Some e) v is = ap (λ (x : Viewed). x.k) (sym (same_item (record { k = k; entry = e }) v (sym is)))

-- a list of nothing, and one nothing more
pub none_more : {A : Type 0} (xs : List (Option A)) → ((i : ℕ) → get_or xs i None ≡ None) → (i : ℕ) → get_or (xs ++ None ∷ []) i None ≡ None
none_more [] none zero = refl
none_more [] none (suc i) = refl
none_more (x ∷ xs) none zero = none zero
none_more (x ∷ xs) none (suc i) = none_more xs (λ j. none (suc j)) i
