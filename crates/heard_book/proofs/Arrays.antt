-- An answer for each member, and what becomes of the answers by one thing heard.
use Rattle.std.proofs.Common.{◌≡◌, ℕ, ◌<◌, List, [], ◌∷◌, Bool, true, false, length, get_or, map, refl, ap, ◌∙◌, sym, arith}
use Rattle.std.specs.Prelude.{◌==◌, slice_set}
use Rattle.std.specs.List.{range_with_len}
use Rattle.std.proofs.lemmas.Bool.{eqb-true, eqb-false}
use Rattle.std.proofs.lemmas.List.{get_or-set_other, length-set}
use Rattle.std.proofs.lemmas.Grind.{get_or-set_at}
use Rattle.std.proofs.lemmas.List.FromFn.{fill_by_all, get_or-map-range_with_len, length-map-range_with_len}
use Rattle.heard_book.specs.Kept.{of_each}

map_same : {X : Type 0} (f g : ℕ → X) → ((member : ℕ) → f member ≡ g member) → (xs : List ℕ) → map f xs ≡ map g xs
map_same f g same [] = refl
map_same f g same (x ∷ xs) = ap (λ y. y ∷ map f xs) (same x) ∙ ap (λ ys. g x ∷ ys) (map_same f g same xs)

-- nothing changes
pub each_same : {X : Type 0} (f g : ℕ → X) (xs : List X) → xs ≡ of_each f → ((member : ℕ) → f member ≡ g member) → xs ≡ of_each g
each_same f g xs is same = is ∙ map_same f g same (range_with_len 0 15)

-- the answer of one member
pub each_at : {X : Type 0} (f : ℕ → X) (xs : List X) (member : ℕ) (d : X) → xs ≡ of_each f → member < 15 → get_or xs member d ≡ f member
each_at f xs member d is small = ap (λ (l : List _). get_or l member d) is ∙ get_or-map-range_with_len f 0 15 member member d small (omega arith)

pub each_at_place : {X : Type 0} (f : ℕ → X) (xs : List X) (place member : ℕ) (d : X) → xs ≡ of_each f → place ≡ member → member < 15 → get_or xs place d ≡ f member
each_at_place f xs place member d is at small = ap (λ (p : ℕ). get_or xs p d) at ∙ each_at f xs member d is small

-- one answer changes
pub each_set : {X : Type 0} (f g : ℕ → X) (xs : List X) (sender place : ℕ) (x : X) → xs ≡ of_each f → place ≡ sender → sender < 15 → x ≡ g sender
    → ((member : ℕ) → (sender == member) ≡ false → f member ≡ g member) → slice_set xs place x ≡ of_each g
each_set {X} f g xs sender place x is at small new others =
    let long : length xs ≡ 15 = ap (λ (l : List X). length l) is ∙ length-map-range_with_len f 0 15 in
    ap (λ (p : ℕ). slice_set xs p x) at
    ∙ fill_by_all g (slice_set xs sender x) 15 x (length-set xs sender x ∙ long) (λ k in_range. one long k in_range (sender == k) refl) where
      one : length xs ≡ 15 → (k : ℕ) → k < 15 → (hit : Bool) → (sender == k) ≡ hit → get_or (slice_set xs sender x) k x ≡ g k
      one long k in_range true e =
          let same : sender ≡ k = eqb-true sender k e in
          let within : sender < length xs = omega (arith, long, small) in
          get_or-set_at xs sender k x x (sym same) within ∙ new ∙ ap g same
      one long k in_range false e =
          get_or-set_other xs sender k x x (λ same. eqb-false sender k e (sym same)) ∙ each_at f xs k x is in_range ∙ others k e
