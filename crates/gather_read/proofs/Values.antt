-- The value that is had, as the code comes to it.
use Rattle.std.proofs.Common.{◌≡◌, ℕ, ◌<◌, ◌≤◌, List, [], ◌∷◌, length, take, All, Bool, true, false, Option, None, Some, refl, ap, sym, ◌∙◌, arith, subst}
use Rattle.std.specs.Prelude.{◌↔◌, if◌then◌else◌, nat_le}
use Rattle.std.specs.Option.{option_map}
use Rattle.std.proofs.lemmas.Bool.{le-leb}
use Rattle.std.proofs.lemmas.Bool.Decides.{nat_tests}
use Rattle.std.proofs.lemmas.List.{length-take}
use Rattle.std.proofs.lemmas.Option.{none-some}
use Rattle.craft_base.specs.Knowledge.{members}
use Rattle.craft_base.specs.Shape.{Shape}
use Rattle.craft_base.specs.declared.command.Entry.{Entry}
use Rattle.craft_base.specs.declared.command.Form.{Form}
use Rattle.rs_code.specs.Rebuilding.{AreFragments, Rebuilding, Solves, TakenPart}
use Rattle.gather_read.specs.Gathered.{AreTooFew, IsGiven, source_in, source_of_forms}
use Rattle.leader_prep.specs.Solutions.{had, value_of}
use Rattle.leader_prep.specs.Verdicts.{Cut, Parts, Rebuild, Source, Verdict, first_whole, parts_of, rebuilding_by, verdict_of_parts, verdict_with}
use Rattle.leader_prep.proofs.Solving.{values_are}

-- ---- parts

-- parts that are enough give the value
pub solved : (shape : Shape) (own : Entry) (parts : List TakenPart) (rebuilder : Rebuilding) (bytes : List ℕ) → rebuilder ≡ rebuilding_by shape own parts
    → shape.need ≤ length rebuilder.parts → Solves rebuilder bytes → ((other : List ℕ) → Solves rebuilder other → other ≡ bytes)
    → ((value : List ℕ) → All (λ b. b < 256) value → length value ≡ rebuilder.value_length → AreFragments rebuilder value → bytes ≡ value)
    → IsGiven (source_in (verdict_of_parts shape own parts)) (Some bytes)
solved shape own parts rebuilder bytes is many solution only fragments =
    let taken : length rebuilder.parts ≡ length (take shape.need parts) = ap (λ (r : Rebuilding). length r.parts) is in
    let enough : shape.need ≤ length parts = omega (arith, many, taken, length-take shape.need parts) in
    let V : Bool → Type 0 = λ b. IsGiven (source_in (if b then Rebuild (Parts (rebuilding_by shape own parts)) else Cut)) (Some bytes) in
    subst V (sym (le-leb shape.need (length parts) enough)) (record {
      solution = subst (λ (r : Rebuilding). Solves r bytes) is solution;
      only = λ other solves. only other (subst (λ (r : Rebuilding). Solves r other) (sym is) solves);
      fragments = λ value are long fits. fragments value are (long ∙ sym (ap (λ (r : Rebuilding). r.value_length) is))
          (subst (λ (r : Rebuilding). AreFragments r value) (sym is) fits);
    })

not_enough : (need long : ℕ) → long < need → nat_le need long ≡ false
not_enough need long few = grind (arith, nat_tests, few)

-- too few give none
pub unsolved : (shape : Shape) (own : Entry) (parts : List TakenPart) (rebuilder : Rebuilding) → rebuilder ≡ rebuilding_by shape own parts
    → length rebuilder.parts < shape.need → IsGiven (source_in (verdict_of_parts shape own parts)) None
unsolved shape own parts rebuilder is few =
    let taken : length rebuilder.parts ≡ length (take shape.need parts) = ap (λ (r : Rebuilding). length r.parts) is in
    let less : length parts < shape.need = omega (arith, few, taken, length-take shape.need parts) in
    let V : Bool → Type 0 = λ b. IsGiven (source_in (if b then Rebuild (Parts (rebuilding_by shape own parts)) else Cut)) None in
    subst V (sym (not_enough shape.need (length parts) less)) tt

-- ---- whole values

pub given_whole : (found : Option (List ℕ)) (without : Verdict) (bytes value : List ℕ) → Some bytes ≡ found → value ≡ bytes
    → IsGiven (source_in (verdict_with found without)) (Some value)
given_whole found without bytes value is same = subst (λ (o : Option (List ℕ)). IsGiven (source_in (verdict_with o without)) (Some value)) is same

pub given_without : (found : Option (List ℕ)) (without : Verdict) (value : Option (List ℕ)) → None ≡ found → IsGiven (source_in without) value
    → IsGiven (source_in (verdict_with found without)) value
given_without found without value is given = subst (λ (o : Option (List ℕ)). IsGiven (source_in (verdict_with o without)) value) is given

-- ---- what is given

pub same_value : (source : Option Source) (value : Option (List ℕ)) → IsGiven source value → value ≡ option_map value_of source
same_value None None given = refl
same_value None (Some value) given = absurd given
same_value (Some source) None given = absurd given
same_value (Some source) (Some value) given =
    first_of (values_are (record { index = 0; source = source } ∷ []) ((0, value) ∷ []) (refl, given, tt)) where
      value_in : List (ℕ × List ℕ) → List ℕ
      value_in [] = []
      value_in (x ∷ xs) = x.1

      first_of : (0, value) ∷ [] ≡ had (record { index = 0; source = source }) ∷ [] → Some value ≡ Some (value_of source)
      first_of same = ap (λ (xs : List (ℕ × List ℕ)). Some (value_in xs)) same

none_of : (shape : Shape) (own : Entry) (form : ℕ → Option Form) (found : Option (List ℕ)) → first_whole form (members shape) ≡ found
    → (enough : Bool) → nat_le shape.need (length (parts_of form (members shape))) ≡ enough → (value : Option (List ℕ))
    → IsGiven (source_in (verdict_with found (if enough then Rebuild (Parts (rebuilding_by shape own (parts_of form (members shape)))) else Cut))) value
    → (value ≡ None) ↔ AreTooFew shape form
none_of shape own form (Some bytes) is enough e None given = absurd given
none_of shape own form (Some bytes) is enough e (Some value) given =
    (λ none. absurd (none-some value (sym none)), λ few. absurd (none-some bytes (sym few.no_whole ∙ is)))
none_of shape own form None is true e None given = absurd given
none_of shape own form None is true e (Some value) given =
    (λ none. absurd (none-some value (sym none)), λ few. absurd (omega (arith, few.few_parts, enough_are))) where
      enough_are : shape.need ≤ length (parts_of form (members shape))
      enough_are = grind (arith, nat_tests, e)
none_of shape own form None is false e None given = (λ none. record { no_whole = is; few_parts = few_are }, λ few. refl) where
  few_are : length (parts_of form (members shape)) < shape.need
  few_are = grind (arith, nat_tests, e)
none_of shape own form None is false e (Some value) given = absurd given

-- None is given exactly where nobody holds the value whole, and too few hold parts of it.
pub none_given : (shape : Shape) (own : Entry) (form : ℕ → Option Form) (value : Option (List ℕ)) → IsGiven (source_of_forms shape own form) value
    → (value ≡ None) ↔ AreTooFew shape form
none_given shape own form value given =
    none_of shape own form (first_whole form (members shape)) refl (nat_le shape.need (length (parts_of form (members shape)))) refl value given
