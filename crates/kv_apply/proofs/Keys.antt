-- A map by bytes: what a change at some bytes leaves at any others.
use Rattle.std.proofs.Common.{◌≡◌, ℕ, List, Bool, true, false, Option, sym, ◌∙◌, subst, inl, inr}
use Rattle.std.specs.Prelude.{Vec, bytes_eq, if◌then◌else◌}
use Rattle.std.specs.BTreeMap.{BTreeMap, UpdatesBy, get_by}
use Rattle.std.specs.Cmp.{eq_by_cmp_equiv}
use Rattle.std.specs.Cmp.Lexicographic.{slice_cmp, nat_list_cmp_total, nat_list_eq_equiv}
use Rattle.std.specs.Map.{AreApart, IsKeyTest, KeepsOthers, lookup}
use Rattle.std.specs.Ordering.{is_eq, nat_cmp}
use Rattle.std.proofs.lemmas.Bool.{cases_Bool, cond-true, cond-false}
use Rattle.std.proofs.lemmas.Map.Text.{is_eq-slice_cmp}
use Rattle.std.proofs.lemmas.Slice.Eq.{bytes_eq-Decides}

apart : (bs cs ks : List ℕ) → bytes_eq bs cs ≡ false → is_eq (slice_cmp nat_cmp bs ks) ≡ true → is_eq (slice_cmp nat_cmp cs ks) ≡ false
apart bs cs ks differ same =
    is_eq-slice_cmp cs ks ∙ nat_list_eq_equiv.symm cs ks ∙ sym (nat_list_eq_equiv.congr bs ks cs (sym (is_eq-slice_cmp bs ks) ∙ same)) ∙ differ

module _ {K : Type 0} (eq : K → K → Bool) (test : K → Bool) where
  others_kept : {X : Type 0} (old new : List (K × X)) → KeepsOthers eq test old new → (other : K → Bool) → IsKeyTest eq other → AreApart test other → lookup other new ≡ lookup other old
  unfolding KeepsOthers
  others_kept old new kept = kept

module _ {A X : Type 0} (bs : List ℕ) (m n : BTreeMap (Vec ℕ A) X) (w : Option X) where
  pub updated_by_bytes : UpdatesBy (λ x y. slice_cmp nat_cmp x.items y.items) (λ k. slice_cmp nat_cmp bs k.items) m n w
      → (cs : List ℕ) → get_by (λ k. slice_cmp nat_cmp cs k.items) n ≡ (if bytes_eq bs cs then w else get_by (λ k. slice_cmp nat_cmp cs k.items) m)
  updated_by_bytes updates cs = elim (cases_Bool (bytes_eq bs cs)) [
    | inl same ↦ subst (λ ks. get_by (λ k. slice_cmp nat_cmp ks k.items) n ≡ w) ((bytes_eq-Decides bs cs).0 same) updates.1 ∙ sym (cond-true (bytes_eq bs cs) w _ same)
    | inr differ ↦
        others_kept _ _ _ _ updates.3 _ (λ x y. (eq_by_cmp_equiv nat_list_cmp_total).congr cs x.items y.items) (λ k. apart bs cs k.items differ)
        ∙ sym (cond-false (bytes_eq bs cs) w _ differ)
  ]
