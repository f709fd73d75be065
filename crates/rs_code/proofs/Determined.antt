-- Values of one length that share enough fragments are equal.
use Rattle.std.proofs.Common.{◌≡◌, ◌≢◌, ℕ, suc, ◌+◌, ◌*◌, ◌<◌, ◌≤◌, List, [], ◌∷◌, length, get_or, All, sym, subst, ◌∙◌, arith}
use Rattle.std.specs.Prelude.{AllPairs}
use Rattle.std.proofs.lemmas.List.{length-map, get_or-map}
use Rattle.craft_base.specs.Parts.{part_length}
use Rattle.rs_code.specs.Polynomials.{polynomial}
use Rattle.rs_code.specs.Fragments.{coefficients, point_of, fragment}
use Rattle.rs_code.specs.Roots.{Differs, AreMembers}
use Rattle.rs_code.specs.Determined.{AnyFragmentsDetermine}
use Rattle.rs_code.specs.Rebuilding.{TakenPart, Rebuilding, AreFragments}
use Rattle.rs_code.specs.Registers.{part_of}
use Rattle.rs_code.proofs.Polynomials.{polynomial-same}
use Rattle.rs_code.proofs.Parts.{same_by_index}
use Rattle.rs_code.proofs.Solutions.{kept, only_solution, value_solves, padded, padded_at, padded_long, padded_bytes, padded_start}

differs_at_each : (member : ℕ) (members : List ℕ) → ((k : ℕ) → k < length members → member ≢ get_or members k 0) → Differs member members
differs_at_each member [] h = tt
differs_at_each member (j ∷ js) h = (h 0 (omega arith), differs_at_each member js (λ k below. h (suc k) (omega arith)))

-- different members, as the proofs take them
pub members_from_pairs : (members : List ℕ) → All (λ member. member < 15) members → AllPairs ◌≢◌ members → AreMembers members
members_from_pairs [] small apart = tt
members_from_pairs (j ∷ js) small apart = (
  small 0 0 (omega arith),
  differs_at_each j js (λ k below. apart 0 (suc k) 0 (omega arith) (omega arith)),
  members_from_pairs js (λ k d below. small (suc k) d (omega arith)) (λ i k d before below. apart (suc i) (suc k) d (omega arith) (omega arith)),
)

-- the parts that the padded value keeps are its fragments
part_is_fragment : (need : ℕ) (value : List ℕ) (n j : ℕ) → (part_of (padded n value) (part_length (length value) need) need j).bytes ≡ fragment value need j
part_is_fragment need value n j =
    let size : ℕ = part_length (length value) need in
    same_by_index (λ place. polynomial (coefficients (padded n value) size place) need (point_of j)) (λ place. polynomial (coefficients value size place) need (point_of j)) size
    (λ place within. polynomial-same (coefficients (padded n value) size place) (coefficients value size place) need (point_of j)
    (λ r below. padded_at n value (r * size + place)))

pub fragments_determine : (need : ℕ) → 1 ≤ need → AnyFragmentsDetermine need
fragments_determine need some members one other count small apart bytes others same shared =
    let n : ℕ = need * part_length (length one) need in
    let size : ℕ = part_length (length one) need in
    let f : ℕ → TakenPart = part_of (padded n one) size need in
    let rebuilding : Rebuilding = kept need (length one) (padded n one) members in
    let fragments : AreFragments rebuilding other = λ k d below.
    let within : k < length members = omega (arith, length-map members f) in
    subst (λ (part : TakenPart). part.bytes ≡ fragment other need part.member) (sym (get_or-map f members k 0 d within))
    (part_is_fragment need one n (get_or members k 0) ∙ shared k 0 within) in
    sym (padded_start n one) ∙ sym (only_solution need (length one) (padded n one) members other (members_from_pairs members small apart) count
    (padded_long need one some) (padded_bytes n one bytes) (value_solves rebuilding other some others (sym same) fragments))
