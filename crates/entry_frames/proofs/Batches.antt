-- One entry more in a vector of a fixed size.
use Rattle.std.proofs.Common.{◌≡◌, ◌<◌, List, [], ◌∷◌, ◌++◌, length, map, Option, None, Some, refl, sym, ap, ◌∙◌, arith}
use Rattle.std.proofs.lemmas.List.{length-append, map-append, length-map}
use Rattle.entry_frames.specs.Batches.{all_some, IsBatch}

all_some_more : {A : Type 0} (places : List (Option A)) (x : A) → all_some (places ++ Some x ∷ []) ≡ all_some places ++ x ∷ []
all_some_more [] x = refl
all_some_more (None ∷ places) x = all_some_more places x
all_some_more (Some y ∷ places) x = ap (λ xs. y ∷ xs) (all_some_more places x)

pub pushed : {A : Type 0} (old new : List (Option A)) (x : A) → new ≡ old ++ Some x ∷ [] → all_some new ≡ all_some old ++ x ∷ []
pushed old new x e = ap all_some e ∙ all_some_more old x

-- the places are as many as what they hold
pub as_many : {A : Type 0} (places : List (Option A)) → IsBatch places → length places ≡ length (all_some places)
as_many places is = ap length is.full ∙ simp length-map

pub is_batch_more : {A : Type 0} (old new : List (Option A)) (x : A) → IsBatch old → new ≡ old ++ Some x ∷ [] → length old < 8 → IsBatch new
is_batch_more old new x is e lt = record {
  full = e ∙ ap (λ xs. xs ++ Some x ∷ []) is.full ∙ sym (map-append Some (all_some old) (x ∷ [])) ∙ ap (map Some) (sym (pushed old new x e));
  short = omega (arith, ap length e, length-append old (Some x ∷ []));
}
