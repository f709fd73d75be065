-- Which groups were applied, and which is next.
use Rattle.std.proofs.Common.{◌≡◌, ℕ, zero, suc, ◌+◌, List, [], ◌∷◌, length, take, refl, ap, ◌∙◌, sym, subst, arith, Some}
use Rattle.std.specs.Prelude.{slice_get}
use Rattle.std.proofs.lemmas.Option.{same_Some}
use Rattle.craft_base.specs.Shape.{Shape}
use Rattle.entry_frames.specs.Durable.{Durable, after}
use Rattle.entry_frames.specs.Records.{Record}
use Rattle.synced_log.specs.Journal.{AreGroups, IsGroupOf, Placed, after_groups, body_of, placed_from}
use Rattle.entry_frames.specs.Bodies.{SpellsAll}

-- ---- groups

pub group_at :
    (k at : ℕ) (all : List (List Record)) (n : ℕ) (p : Placed) → slice_get (placed_from k at all) n ≡ Some p → (records : List Record) × (slice_get all n ≡ Some records) × (p.body ≡ body_of k records)
group_at k at [] n p here = cc
group_at k at (records ∷ all) zero p here = (records, refl, ap (λ (q : Placed). q.body) (sym (same_Some _ p here)))
group_at k at (records ∷ all) (suc n) p here = group_at k (at + (9 + length (body_of k records))) all n p here

group_can :
    (g : Shape) (d : Durable) (all : List (List Record)) (n : ℕ) (records : List Record) → AreGroups g d all → slice_get all n ≡ Some records → IsGroupOf g (after_groups d (take n all)) records
group_can g d [] n records are here = cc
group_can g d (first ∷ all) zero records are here = subst (IsGroupOf g d) (same_Some first records here) are.0
group_can g d (first ∷ all) (suc n) records are here = group_can g (after d first) all n records are.1 here

after_next :
    (d : Durable) (all : List (List Record)) (n : ℕ) (records : List Record) → slice_get all n ≡ Some records → after_groups d (take (suc n) all) ≡ after (after_groups d (take n all)) records
after_next d [] n records here = cc
after_next d (first ∷ all) zero records here = ap (after d) (same_Some first records here)
after_next d (first ∷ all) (suc n) records here = after_next (after d first) all n records here

pub after_more :
    (d : Durable) (all : List (List Record)) (n : ℕ) (records : List Record) → slice_get all n ≡ Some records → after_groups d (take (n + 1) all) ≡ after (after_groups d (take n all)) records
after_more d all n records here = ap (λ (m : ℕ). after_groups d (take m all)) (one_more n) ∙ after_next d all n records here
  where
    one_more : (n : ℕ) → n + 1 ≡ suc n
    one_more n = omega arith

pub placed_length : (k at : ℕ) (all : List (List Record)) → length (placed_from k at all) ≡ length all
placed_length k at [] = refl
placed_length k at (records ∷ all) = omega (arith, placed_length k (at + (9 + length (body_of k records))) all)

pub take_all : (all : List (List Record)) (n : ℕ) → n ≡ length all → take n all ≡ all
take_all [] zero is = refl
take_all [] (suc n) is = absurd (omega (arith, is))
take_all (first ∷ all) zero is = absurd (omega (arith, is))
take_all (first ∷ all) (suc n) is = ap (λ (l : List (List Record)). first ∷ l) (take_all all n (omega (arith, is)))

pub spelled_body :
    (g h : Shape) (d now : Durable) (all : List (List Record)) (n : ℕ) (records : List Record) (body : List ℕ) → AreGroups g d all → slice_get all n ≡ Some records → body ≡ body_of g.need records →
    g ≡ h → now ≡ after_groups d (take n all) → SpellsAll h now body records
spelled_body g h d now all n records body are here is same kept =
    let these = group_can g d all n records are here in
    subst (λ x. SpellsAll x now body records) same
    (subst (λ x. SpellsAll g x body records) (sym kept) (record { spelled = these.spelled; applies = these.applies; is = is }))
