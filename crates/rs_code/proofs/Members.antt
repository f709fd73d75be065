-- The members whose parts were taken: looked for, and one more.
use Rattle.std.proofs.Common.{◌≡◌, ◌≢◌, ℕ, suc, ◌<◌, List, [], ◌∷◌, ◌++◌, length, get_or, map, Bool, true, false, ◌||◌, ◌==◌, refl, sym, ap, ◌∙◌, arith}
use Rattle.std.proofs.lemmas.Bool.{eqb-false}
use Rattle.std.specs.List.{list_any}
use Rattle.rs_code.specs.Roots.{Differs, AreMembers}
use Rattle.rs_code.specs.Rebuilding.{is_taken}
use Rattle.rs_code.specs.Registers.{part_of}

-- a part was taken where its member is among the members
pub is_taken-parts : (registers : List ℕ) (size count member : ℕ) (members : List ℕ) → is_taken (map (part_of registers size count) members) member ≡ list_any (λ y. y == member) members
is_taken-parts registers size count member [] = refl
is_taken-parts registers size count member (j ∷ js) = ap (λ b. (j == member) || b) (is_taken-parts registers size count member js)

neither : (a b : Bool) → (a || b) ≡ false → (a ≡ false) × (b ≡ false)
neither true b h = (h, absurd (cc))
neither false b h = (refl, h)

-- a member that isn't found differs from each
pub differs_from_absent : (member : ℕ) (members : List ℕ) → list_any (λ y. y == member) members ≡ false → Differs member members
differs_from_absent member [] h = tt
differs_from_absent member (j ∷ js) h =
    let parts : ((j == member) ≡ false) × (list_any (λ y. y == member) js ≡ false) = neither (j == member) (list_any (λ y. y == member) js) h in
    (λ same. eqb-false j member parts.0 (sym same), differs_from_absent member js parts.1)

Differs-push : (i j : ℕ) (members : List ℕ) → Differs i members → i ≢ j → Differs i (members ++ j ∷ [])
Differs-push i j [] h other = (other, tt)
Differs-push i j (k ∷ ks) h other = (h.0, Differs-push i j ks h.1 other)

-- one member more
pub AreMembers-push : (members : List ℕ) (j : ℕ) → AreMembers members → Differs j members → j < 15 → AreMembers (members ++ j ∷ [])
AreMembers-push [] j all h small = (small, tt, tt)
AreMembers-push (i ∷ is) j all h small =
    (all.0, Differs-push i j is all.1 (λ same. h.0 (sym same)), AreMembers-push is j all.2 h.1 small)

-- what is done for each element is the same where it is for each element alike
pub map_same : {X : Type 0} (f g : ℕ → X) (xs : List ℕ) → ((k : ℕ) → k < length xs → f (get_or xs k 0) ≡ g (get_or xs k 0)) → map f xs ≡ map g xs
map_same f g [] h = refl
map_same f g (x ∷ xs) h = ap (λ y. y ∷ map f xs) (h 0 (omega arith)) ∙ ap (λ ys. g x ∷ ys) (map_same f g xs (λ k below. h (suc k) (omega arith)))
