-- Lists that are read by position.
use Rattle.std.proofs.Common.{◌≡◌, ◌≢◌, ℕ, zero, suc, ◌<◌, List, [], ◌∷◌, replicate, Some, slice_get, slice_set, refl, ap, arith}
use Rattle.std.proofs.lemmas.Option.{same_Some}

-- what is put at a position is there, and what is elsewhere stays
pub set_here : {X : Type 0} (xs : List X) (i : ℕ) (x y : X) → slice_get xs i ≡ Some x → slice_get (slice_set xs i y) i ≡ Some y
set_here [] i x y e = cc
set_here (z ∷ xs) zero x y e = refl
set_here (z ∷ xs) (suc i) x y e = set_here xs i x y e

pub set_there : {X : Type 0} (xs : List X) (i k : ℕ) (y : X) → k ≢ i → slice_get (slice_set xs i y) k ≡ slice_get xs k
set_there [] i k y apart = refl
set_there (z ∷ xs) zero zero y apart = absurd (apart refl)
set_there (z ∷ xs) zero (suc k) y apart = refl
set_there (z ∷ xs) (suc i) zero y apart = refl
set_there (z ∷ xs) (suc i) (suc k) y apart = set_there xs i k y (λ e. apart (ap suc e))

pub set_twice : {X : Type 0} (xs : List X) (i : ℕ) (x y : X) → slice_set (slice_set xs i x) i y ≡ slice_set xs i y
set_twice [] i x y = refl
set_twice (z ∷ xs) zero x y = refl
set_twice (z ∷ xs) (suc i) x y = ap (λ rest. z ∷ rest) (set_twice xs i x y)

-- what stands at a position of a list that repeats one thing
pub repeated_at : {X : Type 0} (n : ℕ) (x : X) (k : ℕ) (y : X) → slice_get (replicate n x) k ≡ Some y → (k < n) × (x ≡ y)
repeated_at zero x k y e = cc
repeated_at (suc n) x zero y e = (omega arith, same_Some x y e)
repeated_at (suc n) x (suc k) y e =
    let rest = repeated_at n x k y e in
    (omega (arith, rest.0), rest.1)
