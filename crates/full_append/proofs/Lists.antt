-- Places of lists.
use Rattle.std.proofs.Common.{◌≡◌, ℕ, zero, suc, ◌+◌, List, [], ◌∷◌, ◌++◌, take, drop, Option, None, Some, refl, ap, add-one, sym, ◌∙◌, arith}
use Rattle.std.specs.Prelude.{slice_get}
use Rattle.std.specs.Option.{option_map}
use Rattle.std.proofs.lemmas.Option.{none-some}
use Rattle.craft_base.specs.declared.command.Entry.{Entry}
use Rattle.entry_frames.specs.Logs.{entry_at, viewed_with}
use Rattle.entry_frames.specs.Views.{Viewed}

pub same_item : {A : Type 0} (x y : A) → ◌≡◌ {A = Option A} (Some x) (Some y) → x ≡ y
same_item x y e = ap (λ (o : Option _). elim o [ None ↦ x | Some z ↦ z ]) e

-- one place more
take_next : {A : Type 0} (xs : List A) (n : ℕ) (x : A) → slice_get xs n ≡ Some x → take (suc n) xs ≡ take n xs ++ x ∷ []
take_next [] n x e = absurd (none-some x e)
take_next (y ∷ xs) zero x e = ap (λ z. z ∷ []) (same_item y x e)
take_next (y ∷ xs) (suc n) x e = ap (λ zs. y ∷ zs) (take_next xs n x e)

pub take_one_more : {A : Type 0} (xs : List A) (n : ℕ) (x : A) → slice_get xs n ≡ Some x → take (n + 1) xs ≡ take n xs ++ x ∷ []
take_one_more xs n x e = ap (λ (m : ℕ). take m xs) (add-one n) ∙ take_next xs n x e

drop_next : {A : Type 0} (xs : List A) (n : ℕ) (x : A) → slice_get xs n ≡ Some x → drop n xs ≡ x ∷ drop (suc n) xs
drop_next [] n x e = absurd (none-some x e)
drop_next (y ∷ xs) zero x e = ap (λ z. z ∷ xs) (same_item y x e)
drop_next (y ∷ xs) (suc n) x e = drop_next xs n x e

pub drop_at_place : {A : Type 0} (xs : List A) (n : ℕ) (x : A) → slice_get xs n ≡ Some x → drop n xs ≡ x ∷ drop (n + 1) xs
drop_at_place xs n x e = drop_next xs n x e ∙ ap (λ (m : ℕ). x ∷ drop m xs) (sym (add-one n))

zero_add : (n : ℕ) → n ≡ 0 + n
zero_add n = omega arith

suc_add : (p n : ℕ) → suc (p + n) ≡ suc p + n
suc_add p n = omega arith

place_behind : {A : Type 0} (xs : List A) (p n : ℕ) → slice_get (drop p xs) n ≡ slice_get xs (p + n)
place_behind xs zero n = ap (slice_get xs) (zero_add n)
place_behind [] (suc p) n = refl
place_behind (x ∷ xs) (suc p) n = place_behind xs p n ∙ ap (slice_get (x ∷ xs)) (suc_add p n)

pub entry_there : (k : ℕ) (o : Option Entry) → option_map (λ v. v.entry) (viewed_with k o) ≡ o
entry_there k None = refl
entry_there k (Some e) = refl

-- the entry at an index behind another
pub entry_behind : (log : List Entry) (prev n index : ℕ) → index ≡ prev + 1 + n → entry_at log index ≡ slice_get (drop prev log) n
entry_behind log prev n index e = ap (entry_at log) (e ∙ next) ∙ sym (place_behind log prev n) where
  next : prev + 1 + n ≡ suc (prev + n)
  next = omega arith

pub viewed_some : (k : ℕ) (o : Option Entry) (v : Viewed) → Some v ≡ viewed_with k o → o ≡ Some v.entry
viewed_some k None v is = absurd (none-some v (sym is))
viewed_some k (Some e) v is = ap (λ (x : Viewed). Some x.entry) (same_item (record { k = k; entry = e }) v (sym is))

pub viewed_none : (k : ℕ) (o : Option Entry) → None ≡ viewed_with k o → o ≡ None
viewed_none k None is = refl
viewed_none k (Some e) is = absurd (none-some (record { k = k; entry = e }) is)
