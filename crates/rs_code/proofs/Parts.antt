-- The parts that the registers keep, before and after one part more.
use Rattle.std.proofs.Common.{◌≡◌, ◌≢◌, ℕ, suc, ◌+◌, ◌-◌, ◌*◌, ◌^◌, ◌<◌, ◌≤◌, List, [], ◌∷◌, ◌++◌, length, get_or, map, slice_index, refl, sym, ap, ◌∙◌, arith, bit_xor}
use Rattle.std.specs.List.{range_with_len}
use Rattle.std.proofs.lemmas.List.{map_push}
use Rattle.std.proofs.lemmas.List.FromFn.{fill_by_all, length-map-range_with_len, get_or-map-range_with_len}
use Rattle.gf_lanes.specs.Field.{product}
use Rattle.rs_code.specs.Polynomials.{polynomial}
use Rattle.rs_code.specs.Fragments.{coefficients, point_of}
use Rattle.rs_code.specs.Roots.{differences, AreMembers, Differs, IsRootPolynomial}
use Rattle.rs_code.specs.Rebuilding.{TakenPart}
use Rattle.rs_code.specs.Registers.{part_of}
use Rattle.rs_code.proofs.Polynomials.{polynomial-more}
use Rattle.rs_code.proofs.Roots.{differences-root, differences-apart}
use Rattle.rs_code.proofs.Interpolation.{value_after, value_at_root, value_at_new}
use Rattle.rs_code.proofs.Members.{map_same}

-- lists made from equal functions of the index
pub same_by_index : (f g : ℕ → ℕ) (n : ℕ) → ((k : ℕ) → k < n → f k ≡ g k) → map f (range_with_len 0 n) ≡ map g (range_with_len 0 n)
same_by_index f g n h =
    fill_by_all g (map f (range_with_len 0 n)) n 0 (length-map-range_with_len f 0 n)
    (λ k below. get_or-map-range_with_len f 0 n k k 0 below (omega arith) ∙ h k below)

-- all nine coefficients of a root polynomial, of which those above the degree are 0
pub all_roots : (m : ℕ → ℕ) (members : List ℕ) (x : ℕ) → IsRootPolynomial m members → length members ≤ 8 → polynomial m 9 x ≡ differences members x
all_roots m members x h few =
    let nine : suc (length members) + (8 - length members) ≡ 9 = omega arith in
    ap (λ n. polynomial m n x) (sym nine) ∙ polynomial-more m (suc (length members)) (8 - length members) x (λ r above. h.above r (omega arith)) ∙ h.value x

-- it isn't 0 at the point of another member
pub apart : (m : ℕ → ℕ) (members : List ℕ) (j : ℕ) → IsRootPolynomial m members → length members ≤ 8 → AreMembers members → Differs j members → j < 15 → polynomial m 9 (point_of j) ≢ 0
apart m members j h few all other small = λ e. differences-apart members j all other small (sym (all_roots m members (point_of j) h few) ∙ e)

-- what the registers are before and after a part more of member j
pub record TakesPart (before after : List ℕ) (size : ℕ) (m : ℕ → ℕ) (members : List ℕ) (j : ℕ) (part : List ℕ) : Type 0 where
  pub roots : IsRootPolynomial m members
  pub few : length members ≤ 8
  pub long : length part ≡ size
  pub bytes : (i : ℕ) → get_or after i 0 < 2 ^ 8
  pub newest : (place : ℕ) → place < size → product (polynomial m 9 (point_of j)) (coefficients after size place (length members)) ≡ bit_xor (slice_index part place) (polynomial (coefficients before size place) (length members) (point_of j))
  pub earlier : (r place : ℕ) → r < length members → place < size → coefficients after size place r ≡ bit_xor (coefficients before size place r) (product (m r) (coefficients after size place (length members)))

-- the values of the new polynomials
value_with : (before after : List ℕ) (size : ℕ) (m : ℕ → ℕ) (members : List ℕ) (j : ℕ) (part : List ℕ) → TakesPart before after size m members j part → (place x : ℕ) → place < size → polynomial (coefficients after size place) (suc (length members)) x ≡ bit_xor (polynomial (coefficients before size place) (length members) x) (product (coefficients after size place (length members)) (differences members x))
value_with before after size m members j part t place x h =
    value_after (coefficients before size place) (coefficients after size place) m (coefficients after size place (length members)) (length members) x refl
    (t.bytes (length members * size + place)) t.roots.monic (λ r below. t.earlier r place below h)
    ∙ ap (λ v. bit_xor (polynomial (coefficients before size place) (length members) x) (product (coefficients after size place (length members)) v)) (t.roots.value x)

-- an earlier part stays
part_kept : (before after : List ℕ) (size : ℕ) (m : ℕ → ℕ) (members : List ℕ) (j : ℕ) (part : List ℕ) → TakesPart before after size m members j part → (k : ℕ) → k < length members → part_of after size (suc (length members)) (get_or members k 0) ≡ part_of before size (length members) (get_or members k 0)
part_kept before after size m members j part t k h =
    let x : ℕ = point_of (get_or members k 0) in
    ap (λ bytes. let p : TakenPart = record { member = get_or members k 0; bytes = bytes } in p)
    (same_by_index (λ place. polynomial (coefficients after size place) (suc (length members)) x) (λ place. polynomial (coefficients before size place) (length members) x) size
    (λ place within. value_at_root (polynomial (coefficients before size place) (length members) x) (polynomial (coefficients after size place) (suc (length members)) x)
    (coefficients after size place (length members)) (differences members x)
    (value_with before after size m members j part t place x within) (differences-root members k h)))

-- the new part is what was given
part_new : (before after : List ℕ) (size : ℕ) (m : ℕ → ℕ) (members : List ℕ) (j : ℕ) (part : List ℕ) → TakesPart before after size m members j part → part_of after size (suc (length members)) j ≡ record { member = j; bytes = part }
part_new before after size m members j part t =
    let x : ℕ = point_of j in
    ap (λ bytes. let p : TakenPart = record { member = j; bytes = bytes } in p)
    (sym (fill_by_all (λ place. polynomial (coefficients after size place) (suc (length members)) x) part size 0 t.long
    (λ place within. sym (value_at_new (polynomial (coefficients before size place) (length members) x) (polynomial (coefficients after size place) (suc (length members)) x)
    (coefficients after size place (length members)) (differences members x) (slice_index part place)
    (value_with before after size m members j part t place x within)
    (ap (λ v. product v (coefficients after size place (length members))) (sym (all_roots m members x t.roots t.few)) ∙ t.newest place within)))))

-- the parts are the earlier ones and the new one
pub parts_after : (before after : List ℕ) (size : ℕ) (m : ℕ → ℕ) (members : List ℕ) (j : ℕ) (part : List ℕ) → TakesPart before after size m members j part → map (part_of after size (suc (length members))) (members ++ j ∷ []) ≡ map (part_of before size (length members)) members ++ record { member = j; bytes = part } ∷ []
parts_after before after size m members j part t =
    map_push (part_of after size (suc (length members))) members j
    ∙ ap (λ ps. ps ++ part_of after size (suc (length members)) j ∷ [])
    (map_same (part_of after size (suc (length members))) (part_of before size (length members)) members (part_kept before after size m members j part t))
    ∙ ap (λ p. map (part_of before size (length members)) members ++ p ∷ []) (part_new before after size m members j part t)
