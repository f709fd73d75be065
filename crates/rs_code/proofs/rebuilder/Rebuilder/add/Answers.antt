use Rattle.std.proofs.Common.{◌≡◌, ◌<◌, ◌+◌, ◌==◌, ℕ, suc, List, [], ◌∷◌, ◌++◌, length, take, map, set, slice_index, All, true, false, arith, refl, sym, ap, subst, ◌∙◌, bit_xor}
use Rattle.std.specs.List.{list_any}
use Rattle.std.proofs.lemmas.List.{length-set, take_more_set, with_items_is}
use Rattle.std.specs.Vec.{with_items}
use Rattle.gf_lanes.specs.Field.{product}
use Rattle.craft_base.specs.Parts.{part_length}
use Rattle.rs_code.specs.Polynomials.{polynomial}
use Rattle.rs_code.specs.Fragments.{coefficients, point_of}
use Rattle.rs_code.specs.Roots.{times_root, AreMembers, IsRootPolynomial}
use Rattle.rs_code.specs.Rebuilding.{Rebuilding, TakenPart, is_taken, with_part}
use Rattle.rs_code.specs.Registers.{part_of, rebuilding_of}
use Rattle.rs_code.specs.Answers.{answer_to}
use Rattle.rs_code.proofs.Pieces.{byte_at}
use Rattle.rs_code.proofs.Roots.{IsRootPolynomial-push, IsRootPolynomial-same}
use Rattle.rs_code.proofs.Members.{differs_from_absent, AreMembers-push}
use Rattle.rs_code.proofs.Parts.{TakesPart, parts_after, apart}
use Rattle.rs_code.proofs.Keeping.{answer_known, answer_enough, answer_taken, members_long, parts_long, taken_is, nine_roots}
use Rattle.rs_code.proofs.rebuilder.Rebuilder.add.Goals as goal

pub returns-then-contains-clause-answer : goal.returns-then-contains-clause-answer
returns-then-contains-clause-answer c =
    let found : is_taken (rebuilding_of c.self.inside).parts c.args.member ≡ true =
    taken_is c.self.inside c.args.member ∙ ap (λ n. list_any (λ y. y == c.args.member) (take n c.self.inside.members)) (sym c.from-count.ensures)
    ∙ sym c.contains.ensures.value ∙ c.if-contains.true in
    answer_known (rebuilding_of c.self.inside) c.args.member found ∙ ap (λ rebuilding. answer_to rebuilding c.args.member) c.self.view_is

pub returns-then-self-clause-answer : goal.returns-then-self-clause-answer
returns-then-self-clause-answer c =
    let absent : is_taken (rebuilding_of c.self.inside).parts c.args.member ≡ false =
    taken_is c.self.inside c.args.member ∙ ap (λ n. list_any (λ y. y == c.args.member) (take n c.self.inside.members)) (sym c.from-count.ensures)
    ∙ sym c.contains.ensures.value ∙ c.if-contains.false in
    answer_enough (rebuilding_of c.self.inside) c.args.member absent (parts_long c.self.inside c.self.invariant ∙ c.if-self.true)
    ∙ ap (λ rebuilding. answer_to rebuilding c.args.member) c.self.view_is

pub interpolate-requires-clause-apart : goal.interpolate-requires-clause-apart
interpolate-requires-clause-apart c =
    let absent : list_any (λ y. y == c.args.member) (take c.self.inside.count c.self.inside.members) ≡ false =
    ap (λ n. list_any (λ y. y == c.args.member) (take n c.self.inside.members)) (sym c.from-count.ensures)
    ∙ sym c.contains.ensures.value ∙ c.if-contains.false in
    apart (slice_index c.self.inside.roots) (take c.self.inside.count c.self.inside.members) c.args.member c.self.invariant.roots
    (omega (arith, members_long c.self.inside c.self.invariant, c.self.invariant.within, c.self.invariant.most_need))
    c.self.invariant.members (differs_from_absent c.args.member (take c.self.inside.count c.self.inside.members) absent) (omega (arith, c.requires.in_group))

-- the members with one more
members_after : (c : goal.After-self-3-1) → take (c.self.inside.count + 1) (set c.self.inside.members c.from-count.result c.args.member) ≡ take c.self.inside.count c.self.inside.members ++ c.args.member ∷ []
members_after c =
    ap (λ n. take (c.self.inside.count + 1) (set c.self.inside.members n c.args.member)) c.from-count.ensures
    ∙ take_more_set c.self.inside.members c.self.inside.count c.args.member (omega (arith, c.self.invariant.within, c.self.invariant.most_need, c.self.invariant.places, c.if-self.false))

-- the registers with one more
registers_after : (c : goal.After-self-3-1) → (with_items c.self.inside.registers c.interpolate.new.registers).items ≡ c.interpolate.new.registers
registers_after c = with_items_is c.self.inside.registers c.interpolate.new.registers (c.interpolate.auto.registers ∙ c.deref_mut.ensures.len)

absent_member : (c : goal.After-self-3-1) → list_any (λ y. y == c.args.member) (take c.self.inside.count c.self.inside.members) ≡ false
absent_member c =
    ap (λ n. list_any (λ y. y == c.args.member) (take n c.self.inside.members)) (sym c.from-count.ensures)
    ∙ sym c.contains.ensures.value ∙ c.if-contains.false

-- fewer parts than are needed were taken
fewer : (c : goal.After-self-3-1) → c.self.inside.count < c.self.inside.need
fewer c = omega (arith, c.self.invariant.within, c.if-self.false)

pub invariant_of-self : goal.invariant_of-self
invariant_of-self c = record {
  some_need = c.self.invariant.some_need;
  most_need = c.self.invariant.most_need;
  within = omega (arith, fewer c);
  places = length-set c.self.inside.members c.from-count.result c.args.member ∙ c.self.invariant.places;
  room = ap length (registers_after c) ∙ c.interpolate.auto.registers ∙ ap length c.deref_mut.ensures.value ∙ c.self.invariant.room;
  bytes = subst (All (λ b. b < 256)) (sym (registers_after c)) c.interpolate.ensures.bytes;
  members = subst AreMembers (sym (members_after c))
      (AreMembers-push (take c.self.inside.count c.self.inside.members) c.args.member c.self.invariant.members
      (differs_from_absent c.args.member (take c.self.inside.count c.self.inside.members) (absent_member c)) (omega (arith, c.requires.in_group)));
  roots = subst (IsRootPolynomial (slice_index c.with_root-self-inside.result)) (sym (members_after c))
      (IsRootPolynomial-same (times_root (slice_index c.self.inside.roots) (point_of c.args.member)) (slice_index c.with_root-self-inside.result) (take c.self.inside.count c.self.inside.members ++ c.args.member ∷ [])
      (nine_roots c.self.inside.roots c.with_root-self-inside.result (take c.self.inside.count c.self.inside.members) (point_of c.args.member) c.self.invariant.roots
      (omega (arith, members_long c.self.inside c.self.invariant, fewer c, c.self.invariant.most_need)) c.self.told.1 (omega (arith, c.with_root-self-inside.type_inv)) c.with_root-self-inside.ensures)
      (IsRootPolynomial-push (slice_index c.self.inside.roots) (take c.self.inside.count c.self.inside.members) c.args.member c.self.invariant.roots));
}

pub returns-clause-answer : goal.returns-clause-answer
returns-clause-answer c =
    let absent : is_taken (rebuilding_of c.self.inside).parts c.args.member ≡ false = taken_is c.self.inside c.args.member ∙ absent_member c in
    answer_taken (rebuilding_of c.self.inside) c.args.member absent (λ all. c.if-self.false (sym (parts_long c.self.inside c.self.invariant) ∙ all))
    ∙ ap (λ rebuilding. answer_to rebuilding c.args.member) c.self.view_is

-- what the call did to the registers
taken : (c : goal.After-self-3-1) → TakesPart c.self.inside.registers.items c.interpolate.new.registers (length c.args.part.now) (slice_index c.self.inside.roots) (take c.self.inside.count c.self.inside.members) c.args.member c.args.part.now
taken c =
    let size : ℕ = length c.args.part.now in
    let after : List ℕ = c.interpolate.new.registers in
    let roots : ℕ → ℕ = slice_index c.self.inside.roots in
    let point : ℕ = point_of c.args.member in
    let count : c.from-count.result ≡ length (take c.self.inside.count c.self.inside.members) = c.from-count.ensures ∙ sym (members_long c.self.inside c.self.invariant) in
    let Newest : List ℕ → ℕ → Type 0 = λ before n. (place : ℕ) → place < size → product (polynomial roots 9 point) (coefficients after size place n) ≡ bit_xor (slice_index c.args.part.now place) (polynomial (coefficients before size place) n point) in
    let Earlier : List ℕ → ℕ → Type 0 = λ before n. (r place : ℕ) → r < n → place < size → coefficients after size place r ≡ bit_xor (coefficients before size place r) (product (roots r) (coefficients after size place n)) in
    record {
      roots = c.self.invariant.roots;
      few = omega (arith, members_long c.self.inside c.self.invariant, fewer c, c.self.invariant.most_need);
      long = refl;
      bytes = byte_at after c.interpolate.ensures.bytes;
      newest = subst (Newest c.self.inside.registers.items) count (subst (λ before. Newest before c.from-count.result) c.deref_mut.ensures.value c.interpolate.ensures.newest);
      earlier = subst (Earlier c.self.inside.registers.items) count (subst (λ before. Earlier before c.from-count.result) c.deref_mut.ensures.value c.interpolate.ensures.earlier);
    }

-- the parts that the registers keep afterwards
parts_are : (c : goal.After-self-3-1) → map (part_of (with_items c.self.inside.registers c.interpolate.new.registers).items (part_length c.self.inside.value_length c.self.inside.need) (c.self.inside.count + 1)) (take (c.self.inside.count + 1) (set c.self.inside.members c.from-count.result c.args.member))
    ≡ (rebuilding_of c.self.inside).parts ++ record { member = c.args.member; bytes = c.args.part.now } ∷ []
parts_are c =
    let members : List ℕ = take c.self.inside.count c.self.inside.members in
    let new : TakenPart = record { member = c.args.member; bytes = c.args.part.now } in
    let size : length c.args.part.now ≡ part_length c.self.inside.value_length c.self.inside.need = c.requires.whole ∙ sym (ap (λ rebuilding. part_length rebuilding.value_length rebuilding.need) c.self.view_is) in
    let long : length members ≡ c.self.inside.count = members_long c.self.inside c.self.invariant in
    let more : suc (length members) ≡ c.self.inside.count + 1 = omega (arith, long) in
    ap (λ xs. map (part_of xs (part_length c.self.inside.value_length c.self.inside.need) (c.self.inside.count + 1)) (take (c.self.inside.count + 1) (set c.self.inside.members c.from-count.result c.args.member))) (registers_after c)
    ∙ ap (λ js. map (part_of c.interpolate.new.registers (part_length c.self.inside.value_length c.self.inside.need) (c.self.inside.count + 1)) js) (members_after c)
    ∙ ap (λ n. map (part_of c.interpolate.new.registers n (c.self.inside.count + 1)) (members ++ c.args.member ∷ [])) (sym size)
    ∙ ap (λ n. map (part_of c.interpolate.new.registers (length c.args.part.now) n) (members ++ c.args.member ∷ [])) (sym more)
    ∙ parts_after c.self.inside.registers.items c.interpolate.new.registers (length c.args.part.now) (slice_index c.self.inside.roots) members c.args.member c.args.part.now (taken c)
    ∙ ap (λ n. map (part_of c.self.inside.registers.items n (length members)) members ++ new ∷ []) size
    ∙ ap (λ n. map (part_of c.self.inside.registers.items (part_length c.self.inside.value_length c.self.inside.need) n) members ++ new ∷ []) long

pub returns-clause-kept : goal.returns-clause-kept
returns-clause-kept c =
    ap (λ parts. let r : Rebuilding = record { need = c.self.inside.need; value_length = c.self.inside.value_length; parts = parts } in r) (parts_are c)
    ∙ ap (λ rebuilding. with_part rebuilding c.args.member c.args.part.now) c.self.view_is
