-- A join goes on by one line, and ends.
use Rattle.std.proofs.Common.{◌≡◌, ◌≤◌, ℕ, List, [], ◌++◌, length, take, true, false, refl, ap, ◌∙◌, sym, subst, arith, Option, None, Some}
use Rattle.std.specs.Prelude.{IfSome}
use Rattle.std.proofs.lemmas.List.{length-take, take-append-le, take_all}
use Rattle.craft_base.specs.Shape.{Shape}
use Rattle.world_model.specs.Schedule.{lines_of}
use Rattle.craft_edge.specs.Streams.{WhereBothTold}
use Rattle.craft_edge.proofs.StreamLemmas.{told_trans, told_map, told_before}
use Rattle.fragment_text.specs.Said.{Said, Good, reading, parts_from, first_parts}
use Rattle.fragment_text.specs.Joining.{IsJoined, Joins}
use Rattle.fragment_text.specs.Kept.{StandsFor, Takes, ReadsPart, ReadsParts, Progress, Rebuilds}
use Rattle.fragment_text.specs.declared.parts.Parts.{Parts}

-- what was taken of a line
pub taken_part : (shape : Shape) (parts : Parts) (told : Option Said) → Takes shape parts told true → (next : Said) × (told ≡ Some next) × StandsFor shape parts next
taken_part shape parts None taken = absurd taken
taken_part shape parts (Some next) taken = (next, refl, taken)

pub taken_none : (shape : Shape) (parts : Parts) (told : Option Said) → Takes shape parts told false → told ≡ None
taken_none shape parts None taken = refl
taken_none shape parts (Some next) taken = absurd taken

-- one line more
pub goes_on : (shape : Shape) (left mid now : Option (List ℕ)) (parts next : Parts) → (p : Progress shape left mid parts) → ReadsPart shape p.said mid now next true → Progress shape left now next
goes_on shape left mid now parts next p more =
    record {
      said = more.0;
      kept = more.1;
      read =
          told_trans left mid now (λ before after. reading shape before ≡ parts_from shape p.said (lines_of after))
          (λ before after. parts_from shape p.said (lines_of before) ≡ parts_from shape more.0 (lines_of after))
          (λ before after. reading shape before ≡ parts_from shape more.0 (lines_of after))
          p.read more.2 (λ a b c first second. first ∙ second);
    }

-- bytes at the front of a list are as many as were written there
pub front : (n : ℕ) (out rest : List ℕ) → length out ≡ n → take n (out ++ rest) ≡ out
front n out rest is =
    let le : n ≤ length out = omega arith in
    let ge : length out ≤ n = omega arith in
    take-append-le n out rest le ∙ take_all n out ge

-- the first parts are enough, and give the value
pub rebuilds : (shape : Shape) (parts : Parts) (said : Said) (value out : List ℕ) → StandsFor shape parts said → parts.need ≤ length parts.rebuilder.parts → value ≡ out
    → IsJoined parts.rebuilder out → Rebuilds shape said value
rebuilds shape parts said value out stands enough is joined = (
  omega (arith, enough, stands.need, ap (λ r. length r.parts) stands.rebuilding, length-take shape.need said.parts),
  subst (IsJoined (first_parts shape said)) (sym is) (subst (λ r. IsJoined r out) stands.rebuilding joined),
)

-- the value was written
pub joins : (shape : Shape) (old new : Option (List ℕ)) (parts : Parts) (value : List ℕ) (Written : List ℕ → Type 0) → ReadsParts shape old new parts
    → ((g : Shape) (said : Said) → StandsFor g parts said → Rebuilds g said value) → Written value → WhereBothTold old new (λ bytes rest. Joins shape bytes Written × (rest ≡ []))
joins shape old new parts value Written r rebuilt written =
    told_map old new (λ before after. (reading shape before ≡ Good r.said) × (after ≡ [])) (λ bytes rest. Joins shape bytes Written × (rest ≡ [])) r.read
    (λ a b read.
    let v = rebuilt shape r.said r.kept in
    (record { said = r.said; read = read.0; enough = v.0; value = value; joined = v.1; written = written }, read.1))

-- the same, of the input alone
pub joins_first : (old new : Option (List ℕ)) (Fact : List ℕ → Type 0) → WhereBothTold old new (λ bytes rest. Fact bytes × (rest ≡ [])) → IfSome old Fact
joins_first old new Fact told = told_before old new (λ bytes rest. Fact bytes × (rest ≡ [])) Fact told (λ a b both. both.0)
