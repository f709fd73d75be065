-- How a rebuilder keeps its parts: as the coefficients of the polynomials through them, after Newton.
use Rattle.std.specs.Prelude.{ℕ, ◌≡◌, ◌≤◌, ◌<◌, ◌*◌, All, List, length, take, map, slice_index}
use Rattle.std.specs.List.{range_with_len}
use Rattle.craft_base.specs.Parts.{part_length}
use Rattle.rs_code.specs.Polynomials.{polynomial}
use Rattle.rs_code.specs.Fragments.{point_of, coefficients}
use Rattle.rs_code.specs.Roots.{AreMembers, IsRootPolynomial}
use Rattle.rs_code.specs.Rebuilding.{TakenPart, Rebuilding}
use Rattle.rs_code.specs.declared.rebuilder.Rebuilder.TheInside.{Inside}

-- the part of a member, as the values at its point of the polynomials of `count` registers of that size
abbrev pub part_of : List ℕ → ℕ → ℕ → ℕ → TakenPart
part_of registers size count member = record {
  member = member;
  bytes = map (λ place. polynomial (coefficients registers size place) count (point_of member)) (range_with_len 0 size);
}

-- the parts that were taken
abbrev pub rebuilding_of : Inside → Rebuilding
rebuilding_of inside = record {
  need = inside.need;
  value_length = inside.value_length;
  parts =
      let size = part_length inside.value_length inside.need in
      map (part_of inside.registers.items size inside.count) (take inside.count inside.members);
}

-- as many registers as parts are needed, distinct members, and the polynomial whose roots are their points
pub record KeepsParts (inside : Inside) : Type 0 where
  pub some_need : 1 ≤ inside.need
  pub most_need : inside.need ≤ 8
  pub within : inside.count ≤ inside.need
  pub places : length inside.members ≡ 8
  pub room : length inside.registers.items ≡ inside.need * part_length inside.value_length inside.need
  pub bytes : All (λ b. b < 256) inside.registers.items
  pub members : AreMembers (take inside.count inside.members)
  pub roots : IsRootPolynomial (slice_index inside.roots) (take inside.count inside.members)
