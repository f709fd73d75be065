use Rattle.std.proofs.Common.{◌≡◌, ◌≤◌, ℕ, List, length, take, map, arith, sym, ap, subst, ◌∙◌}
use Rattle.std.proofs.lemmas.List.{length-map, length-take-le}
use Rattle.craft_base.specs.Parts.{part_length}
use Rattle.rs_code.specs.Rebuilding.{Rebuilding, Solves}
use Rattle.rs_code.specs.Registers.{part_of}
use Rattle.rs_code.proofs.Solutions.{kept, registers_solve, only_solution, value_solves}
use Rattle.rs_code.proofs.rebuilder.Rebuilder.write.Goals as goal

members_long : (c : goal.After-slice_known-2-1) → length (take c.self.inside.count c.self.inside.members) ≡ c.self.inside.count
members_long c = length-take-le c.self.inside.count c.self.inside.members (omega (arith, c.self.invariant.within, c.self.invariant.most_need, c.self.invariant.places))

-- as many parts as are needed were taken
all_taken : (c : goal.After-slice_known-2-1) → c.self.inside.count ≡ c.self.inside.need
all_taken c =
    sym (length-map (take c.self.inside.count c.self.inside.members) (part_of c.self.inside.registers.items (part_length c.self.inside.value_length c.self.inside.need) c.self.inside.count) ∙ members_long c)
    ∙ ap (λ rebuilding. length rebuilding.parts) c.self.view_is ∙ c.requires.enough ∙ sym (ap (λ rebuilding. rebuilding.need) c.self.view_is)

-- what the rebuilder is seen as
seen : (c : goal.After-slice_known-2-1) → kept c.self.inside.need c.self.inside.value_length c.self.inside.registers.items (take c.self.inside.count c.self.inside.members) ≡ c.args.self.now
seen c =
    ap (λ n. let r : Rebuilding = record {
      need = c.self.inside.need;
      value_length = c.self.inside.value_length;
      parts = map (part_of c.self.inside.registers.items (part_length c.self.inside.value_length c.self.inside.need) n) (take c.self.inside.count c.self.inside.members);
    } in r) (sym (all_taken c))
    ∙ c.self.view_is

written : (c : goal.After-slice_known-2-1) → c.copy_from_slice.new.self ≡ take c.self.inside.value_length c.self.inside.registers.items
written c = c.copy_from_slice.ensures.after ∙ ap (λ xs. take c.self.inside.value_length xs) c.deref.ensures.value

pub returns-clause-solution : goal.returns-clause-solution
returns-clause-solution c =
    subst (λ rebuilding. Solves rebuilding c.copy_from_slice.new.self) (seen c)
    (subst (Solves (kept c.self.inside.need c.self.inside.value_length c.self.inside.registers.items (take c.self.inside.count c.self.inside.members))) (sym (written c))
    (registers_solve c.self.inside.need c.self.inside.value_length c.self.inside.registers.items (take c.self.inside.count c.self.inside.members) c.self.invariant.room c.self.invariant.bytes))

-- what solves it is what was written
only : (c : goal.After-slice_known-2-1) (other : List ℕ) → Solves c.args.self.now other → other ≡ c.copy_from_slice.new.self
only c other s =
    only_solution c.self.inside.need c.self.inside.value_length c.self.inside.registers.items (take c.self.inside.count c.self.inside.members) other
    c.self.invariant.members (members_long c ∙ all_taken c) c.self.invariant.room c.self.invariant.bytes
    (subst (λ rebuilding. Solves rebuilding other) (sym (seen c)) s)
    ∙ sym (written c)

pub returns-clause-only : goal.returns-clause-only
returns-clause-only c = only c

pub returns-clause-value : goal.returns-clause-value
returns-clause-value c value bytes whole fragments =
    let some : 1 ≤ c.args.self.now.need = subst (λ n. 1 ≤ n) (ap (λ rebuilding. rebuilding.need) c.self.view_is) c.self.invariant.some_need in
    sym (only c value (value_solves c.args.self.now value some bytes whole fragments))
