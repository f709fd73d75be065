-- How a run of device calls goes on.
use Rattle.std.proofs.Common.{◌≡◌, inl, inr, ⊎_elim, ℕ, Bool, List, refl, sym, ◌∙◌, subst, arith}
use Rattle.std.specs.Prelude.{IsTrue}
use Rattle.craft_edge.specs.Disk.{WhereTold, Elapses}
use Rattle.synced_log.specs.Crashes.{LeavesOnly}

module _ {D : Type 0} (tells_crash tells_past : D → Bool) (moment : D → ℕ) (may_leave : D → List ℕ → Type 0) (left_since : D → ℕ → List ℕ → Type 0) where
  -- before the first call
  pub begins : (old : D) (P : List ℕ → Type 0) → (IsTrue (tells_crash old) → (image : List ℕ) → may_leave old image → P image)
      → ((image : List ℕ) → WhereTold (tells_past old) (left_since old (moment old) image → may_leave old image)) → LeavesOnly tells_crash tells_past moment may_leave left_since old old P
  begins old P here only = record {
    same_crash = refl;
    same_past = refl;
    now = here;
    later = λ told. omega arith;
    any_moment = λ crash past image left. here crash image (only image past left);
    before = λ crash past t image le left. inl left;
  }

  -- one call more, after which a crash leaves what has P
  pub goes_on : (old mid new : D) (P : List ℕ → Type 0) → LeavesOnly tells_crash tells_past moment may_leave left_since old mid P
      → tells_crash new ≡ tells_crash mid → tells_past new ≡ tells_past mid
      → WhereTold (tells_past mid) (Elapses (moment mid) (moment new) (left_since mid) (left_since new) (may_leave new))
      → (IsTrue (tells_crash old) → (image : List ℕ) → may_leave new image → P image) → LeavesOnly tells_crash tells_past moment may_leave left_since old new P
  goes_on old mid new P so_far crash_is past_is time here = record {
    same_crash = crash_is ∙ so_far.same_crash;
    same_past = past_is ∙ so_far.same_past;
    now = here;
    later = λ past. let t = time (subst IsTrue (sym so_far.same_past) past) in omega (arith, so_far.later past, t.later);
    any_moment = λ crash past image left. let e = time (subst IsTrue (sym so_far.same_past) past) in
        ⊎_elim (so_far.any_moment crash past image) (here crash image) (e.nothing_else (moment old) image (so_far.later past) left);
    before = λ crash past t image le left. let e = time (subst IsTrue (sym so_far.same_past) past) in
        ⊎_elim (so_far.before crash past t image le) (λ now. inr (here crash image now)) (e.nothing_else t image (omega (arith, le, so_far.later past)) left);
  }

  -- less is said
  pub leaves_less : (old new : D) (P Q : List ℕ → Type 0) → (IsTrue (tells_crash old) → (image : List ℕ) → P image → Q image)
      → LeavesOnly tells_crash tells_past moment may_leave left_since old new P → LeavesOnly tells_crash tells_past moment may_leave left_since old new Q
  leaves_less old new P Q weaker l = record {
    same_crash = l.same_crash;
    same_past = l.same_past;
    now = λ crash image left. weaker crash image (l.now crash image left);
    later = l.later;
    any_moment = λ crash past image left. weaker crash image (l.any_moment crash past image left);
    before = λ crash past t image le left. ⊎_elim inl (λ p. inr (weaker crash image p)) (l.before crash past t image le left);
  }

  -- one run behind another
  pub then_leaves : (old mid new : D) (P : List ℕ → Type 0) → LeavesOnly tells_crash tells_past moment may_leave left_since old mid P
      → LeavesOnly tells_crash tells_past moment may_leave left_since mid new P → LeavesOnly tells_crash tells_past moment may_leave left_since old new P
  then_leaves old mid new P a b =
      let crashes : IsTrue (tells_crash old) → IsTrue (tells_crash mid) = subst IsTrue (sym a.same_crash) in
      let pasts : IsTrue (tells_past old) → IsTrue (tells_past mid) = subst IsTrue (sym a.same_past) in
      record {
        same_crash = b.same_crash ∙ a.same_crash;
        same_past = b.same_past ∙ a.same_past;
        now = λ crash. b.now (crashes crash);
        later = λ past. omega (arith, a.later past, b.later (pasts past));
        any_moment = λ crash past image left.
            ⊎_elim (a.any_moment crash past image) (λ p. p) (b.before (crashes crash) (pasts past) (moment old) image (a.later past) left);
        before = λ crash past t image le left.
            ⊎_elim (a.before crash past t image le) inr (b.before (crashes crash) (pasts past) t image (omega (arith, le, a.later past)) left);
      }
