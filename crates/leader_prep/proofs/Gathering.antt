-- Parts that a rebuilder takes, member by member.
use Rattle.std.proofs.Common.{◌≡◌, ◌≢◌, ℕ, zero, suc, ◌+◌, ◌<◌, ◌≤◌, List, [], ◌∷◌, ◌++◌, length, take, Bool, true, false, Option, None, Some, refl, ap, sym, ◌∙◌, arith, inl, inr, eq-eqb, ne_eqb, length-append}
use Rattle.std.specs.Prelude.{◌==◌, ◌||◌, if◌then◌else◌}
use Rattle.std.specs.List.{range_with_len}
use Rattle.std.proofs.lemmas.Bool.{cases_lt}
use Rattle.std.proofs.lemmas.List.{append-nil, length-take-le, take-append-le}
use Rattle.craft_base.specs.Shape.{Shape}
use Rattle.craft_base.specs.declared.command.Entry.{Entry}
use Rattle.craft_base.specs.declared.command.Form.{Form}
use Rattle.craft_base.specs.declared.command.Form.TheVariants as forms
use Rattle.rs_code.specs.Answers.{answer_to, kept_after}
use Rattle.rs_code.specs.Rebuilding.{Rebuilding, TakenPart, is_taken}
use Rattle.rs_code.specs.declared.rebuilder.Added.{Added}
use Rattle.rs_code.specs.declared.rebuilder.Added.TheVariants.{Taken, Known, Enough}
use Rattle.leader_prep.specs.Rebuilders.{with_parts}
use Rattle.leader_prep.specs.Verdicts.{part_in, parts_of, rebuilding_by}
use Rattle.leader_prep.proofs.Rows.{parts_more}

-- ---- no member's part comes twice

both_false : (a b : Bool) → (a || b) ≡ false → (a ≡ false) × (b ≡ false)
both_false true b e = absurd cc
both_false false b e = (refl, e)

not_in_first : (parts : List TakenPart) (n member : ℕ) → is_taken parts member ≡ false → is_taken (take n parts) member ≡ false
not_in_first parts zero member none = refl
not_in_first [] (suc n) member none = refl
not_in_first (p ∷ parts) (suc n) member none =
    let both = both_false (p.member == member) (is_taken parts member) none in
    ap (λ (b : Bool). b || is_taken (take n parts) member) both.0 ∙ not_in_first parts n member both.1

not_in_front : (a member : ℕ) (form : Option Form) (rest : List TakenPart) → a < member → is_taken rest member ≡ false → is_taken (part_in a form ++ rest) member ≡ false
not_in_front a member None rest below none = none
not_in_front a member (Some (forms.Whole bytes)) rest below none = none
not_in_front a member (Some (forms.Part bytes)) rest below none =
    ap (λ (b : Bool). b || is_taken rest member) (ne_eqb a member (λ same. omega (arith, same, below))) ∙ none

not_in_row : (form : ℕ → Option Form) (a n member : ℕ) → a + n ≤ member → is_taken (parts_of form (range_with_len a n)) member ≡ false
not_in_row form a zero member below = refl
not_in_row form a (suc n) member below =
    not_in_front a member (form a) (parts_of form (range_with_len (a + 1) n)) (omega (arith, below)) (not_in_row form (a + 1) n member (omega (arith, below)))

-- ---- one part more

take_all : {A : Type 0} (xs : List A) (n : ℕ) → length xs ≤ n → take n xs ≡ xs
take_all [] zero h = refl
take_all [] (suc n) h = refl
take_all (x ∷ xs) zero h = absurd (omega (arith, h))
take_all (x ∷ xs) (suc n) h = ap (λ ys. x ∷ ys) (take_all xs n (omega (arith, h)))

added_to : (shape : Shape) (own : Entry) (parts : List TakenPart) (member : ℕ) (bytes : List ℕ) → is_taken parts member ≡ false
    → with_parts (record { member = member; bytes = bytes } ∷ []) (rebuilding_by shape own parts)
    ≡ rebuilding_by shape own (parts ++ record { member = member; bytes = bytes } ∷ [])
added_to shape own parts member bytes new = elim (cases_lt (length parts) shape.need) [
  | inl few ↦ fewer few
  | inr many ↦ enough many
] where
  fewer : length parts < shape.need
      → with_parts (record { member = member; bytes = bytes } ∷ []) (rebuilding_by shape own parts)
      ≡ rebuilding_by shape own (parts ++ record { member = member; bytes = bytes } ∷ [])
  fewer few =
      let all : take shape.need parts ≡ parts = take_all parts shape.need (omega (arith, few)) in
      let more : take shape.need (parts ++ record { member = member; bytes = bytes } ∷ []) ≡ parts ++ record { member = member; bytes = bytes } ∷ [] =
      take_all (parts ++ record { member = member; bytes = bytes } ∷ []) shape.need (omega (arith, few, length-append parts (record { member = member; bytes = bytes } ∷ []))) in
      let lacks : length (take shape.need parts) ≢ shape.need = λ same. omega (arith, few, same, ap (λ (ps : List TakenPart). length ps) all) in
      let answer : answer_to (rebuilding_by shape own parts) member ≡ Taken =
      ap (λ (b : Bool). if b then Known else (if length (take shape.need parts) == shape.need then Enough else Taken)) (not_in_first parts shape.need member new)
      ∙ ap (λ (b : Bool). if b then Enough else Taken) (ne_eqb (length (take shape.need parts)) shape.need lacks) in
      ap (λ (a : Added). kept_after a (rebuilding_by shape own parts) member bytes) answer
      ∙ ap (λ (ps : List TakenPart). record { need = shape.need; value_length = own.head.vlen; parts = ps ++ record { member = member; bytes = bytes } ∷ [] }) all
      ∙ ap (λ (ps : List TakenPart). record { need = shape.need; value_length = own.head.vlen; parts = ps }) (sym more)

  enough : shape.need ≤ length parts
      → with_parts (record { member = member; bytes = bytes } ∷ []) (rebuilding_by shape own parts)
      ≡ rebuilding_by shape own (parts ++ record { member = member; bytes = bytes } ∷ [])
  enough many =
      let full : length (take shape.need parts) ≡ shape.need = length-take-le shape.need parts many in
      let answer : answer_to (rebuilding_by shape own parts) member ≡ Enough =
      ap (λ (b : Bool). if b then Known else (if length (take shape.need parts) == shape.need then Enough else Taken)) (not_in_first parts shape.need member new)
      ∙ ap (λ (b : Bool). if b then Enough else Taken) (eq-eqb (length (take shape.need parts)) shape.need full) in
      ap (λ (a : Added). kept_after a (rebuilding_by shape own parts) member bytes) answer
      ∙ ap (λ (ps : List TakenPart). record { need = shape.need; value_length = own.head.vlen; parts = ps })
      (sym (take-append-le shape.need parts (record { member = member; bytes = bytes } ∷ []) many))

-- the rebuilder after one member more
pub gathers_more : (shape : Shape) (own : Entry) (form : ℕ → Option Form) (n : ℕ) (old new : Rebuilding) → old ≡ rebuilding_by shape own (parts_of form (range_with_len 0 n))
    → new ≡ with_parts (part_in n (form n)) old → new ≡ rebuilding_by shape own (parts_of form (range_with_len 0 (n + 1)))
gathers_more shape own form n old new so_far more =
    more ∙ ap (with_parts (part_in n (form n))) so_far ∙ by (form n)
    ∙ ap (rebuilding_by shape own) (sym (parts_more form n))
  where
    by : (here : Option Form) → with_parts (part_in n here) (rebuilding_by shape own (parts_of form (range_with_len 0 n)))
        ≡ rebuilding_by shape own (parts_of form (range_with_len 0 n) ++ part_in n here)
    by None = ap (rebuilding_by shape own) (sym (append-nil (parts_of form (range_with_len 0 n))))
    by (Some (forms.Whole bytes)) = ap (rebuilding_by shape own) (sym (append-nil (parts_of form (range_with_len 0 n))))
    by (Some (forms.Part bytes)) = added_to shape own (parts_of form (range_with_len 0 n)) n bytes (not_in_row form 0 n n (omega arith))
