-- What is decided, as the code comes to it.
use Rattle.std.proofs.Common.{◌≡◌, ℕ, ◌<◌, ◌≤◌, List, length, take, All, Bool, ap, sym, ◌∙◌, arith, subst}
use Rattle.std.specs.Prelude.{if◌then◌else◌}
use Rattle.std.proofs.lemmas.Bool.{le-leb}
use Rattle.std.proofs.lemmas.List.{length-take}
use Rattle.craft_base.specs.Shape.{Shape}
use Rattle.craft_base.specs.declared.command.Entry.{Entry}
use Rattle.rs_code.specs.Rebuilding.{AreFragments, Rebuilding, Solves, TakenPart}
use Rattle.leader_prep.specs.Standing.{IsVerdict}
use Rattle.leader_prep.specs.Verdicts.{Cut, Parts, Rebuild, rebuilding_by, verdict_of_parts}
use Rattle.leader_prep.specs.declared.verdicts.Verdict.TheVariants as codes

-- parts that are enough give the value
pub solved : (shape : Shape) (own : Entry) (parts : List TakenPart) (rebuilder : Rebuilding) (bytes : List ℕ) → rebuilder ≡ rebuilding_by shape own parts
    → shape.need ≤ length rebuilder.parts → Solves rebuilder bytes → ((other : List ℕ) → Solves rebuilder other → other ≡ bytes)
    → ((value : List ℕ) → All (λ b. b < 256) value → length value ≡ rebuilder.value_length → AreFragments rebuilder value → bytes ≡ value)
    → IsVerdict (verdict_of_parts shape own parts) (codes.Whole bytes)
solved shape own parts rebuilder bytes is many solution only fragments =
    let taken : length rebuilder.parts ≡ length (take shape.need parts) = ap (λ (r : Rebuilding). length r.parts) is in
    let enough : shape.need ≤ length parts = omega (arith, many, taken, length-take shape.need parts) in
    let V : Bool → Type 0 = λ b. IsVerdict (if b then Rebuild (Parts (rebuilding_by shape own parts)) else Cut) (codes.Whole bytes) in
    subst V (sym (le-leb shape.need (length parts) enough)) (record {
      solution = subst (λ (r : Rebuilding). Solves r bytes) is solution;
      only = λ other solves. only other (subst (λ (r : Rebuilding). Solves r other) (sym is) solves);
      fragments = λ value are long fits. fragments value are (long ∙ sym (ap (λ (r : Rebuilding). r.value_length) is))
          (subst (λ (r : Rebuilding). AreFragments r value) (sym is) fits);
    })
