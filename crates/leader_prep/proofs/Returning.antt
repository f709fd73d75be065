-- Fragments of a value give it back.
use Rattle.std.proofs.Common.{◌≡◌, ℕ, ◌+◌, ◌*◌, ◌<◌, ◌≤◌, suc, List, [], ◌∷◌, length, map, All, refl, ap, sym, ◌∙◌, arith, subst}
use Rattle.std.specs.List.{range_with_len}
use Rattle.std.proofs.Math.Path.{fun_ext}
use Rattle.std.proofs.lemmas.List.{length-map}
use Rattle.craft_base.specs.Parts.{part_length}
use Rattle.rs_code.specs.Fragments.{fragment, point_of}
use Rattle.rs_code.specs.Polynomials.{polynomial}
use Rattle.rs_code.specs.Rebuilding.{AreFragments, Rebuilding, Solves, TakenPart}
use Rattle.rs_code.specs.Registers.{part_of}
use Rattle.rs_code.specs.Roots.{AreMembers}
use Rattle.rs_code.proofs.Solutions.{kept, only_solution, padded, padded_at, padded_bytes, padded_long, padded_start, value_solves}
use Rattle.leader_prep.specs.Solutions.{solution}
use Rattle.leader_prep.proofs.Solving.{solution_solves}

-- the members whose parts these are
abbrev pub members_of_parts : List TakenPart → List ℕ
members_of_parts parts = map (λ part. part.member) parts

part_is_fragment : (need : ℕ) (value : List ℕ) (n j : ℕ) → (part_of (padded n value) (part_length (length value) need) need j).bytes ≡ fragment value need j
part_is_fragment need value n j =
    let size : ℕ = part_length (length value) need in
    ap (λ (row : ℕ → ℕ → ℕ). map (λ place. polynomial (row place) need (point_of j)) (range_with_len 0 size))
    (fun_ext (λ place. fun_ext (λ r. padded_at n value (r * size + place))))

same_part : (f : ℕ → TakenPart) (part : TakenPart) → (f part.member).member ≡ part.member → part.bytes ≡ (f part.member).bytes → part ≡ f part.member
same_part f part member bytes =
    ap (λ (bs : List ℕ). record { member = part.member; bytes = bs }) bytes
    ∙ ap (λ (m : ℕ). record { member = m; bytes = (f part.member).bytes }) (sym member)

-- fragments are the parts of the value, filled up with zeros
fragments_are : (need n : ℕ) (value : List ℕ) (parts : List TakenPart) → All (λ part. part.bytes ≡ fragment value need part.member) parts
    → parts ≡ map (part_of (padded n value) (part_length (length value) need) need) (members_of_parts parts)
fragments_are need n value [] are = refl
fragments_are need n value (part ∷ parts) are =
    let f : ℕ → TakenPart = part_of (padded n value) (part_length (length value) need) need in
    ap (λ (p : TakenPart). p ∷ parts) (same_part f part refl (are 0 part (omega arith) ∙ sym (part_is_fragment need value n part.member)))
    ∙ ap (λ (ps : List TakenPart). f part.member ∷ ps) (fragments_are need n value parts (λ k d below. are (suc k) d (omega (arith, below))))

-- As many fragments of a value as are needed, of distinct members, have it as their solution.
pub solution_of_fragments : (rebuilding : Rebuilding) (value : List ℕ) → 1 ≤ rebuilding.need → All (λ b. b < 256) value → length value ≡ rebuilding.value_length
    → AreMembers (members_of_parts rebuilding.parts) → length rebuilding.parts ≡ rebuilding.need → AreFragments rebuilding value → solution rebuilding ≡ value
solution_of_fragments rebuilding value some bytes long members enough fragments =
    let n : ℕ = rebuilding.need * part_length (length value) rebuilding.need in
    let solves : Solves rebuilding (solution rebuilding) = solution_solves rebuilding value (value_solves rebuilding value some bytes long fragments) in
    let same : rebuilding ≡ kept rebuilding.need (length value) (padded n value) (members_of_parts rebuilding.parts) =
    ap (λ (l : ℕ). record rebuilding { value_length = l }) (sym long)
    ∙ ap (λ (ps : List TakenPart). record { need = rebuilding.need; value_length = length value; parts = ps }) (fragments_are rebuilding.need n value rebuilding.parts fragments) in
    only_solution rebuilding.need (length value) (padded n value) (members_of_parts rebuilding.parts) (solution rebuilding) members
    (length-map rebuilding.parts (λ part. part.member) ∙ enough) (padded_long rebuilding.need value some) (padded_bytes n value bytes)
    (subst (λ (r : Rebuilding). Solves r (solution rebuilding)) same solves)
    ∙ padded_start n value
