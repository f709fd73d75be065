-- What is decided so far, index by index.
use Rattle.std.proofs.Common.{◌≡◌, ℕ, ◌+◌, ◌≤◌, List, [], ◌∷◌, ◌++◌, length, drop, Option, None, Some, refl, ap, sym, ◌∙◌, append_assoc, subst}
use Rattle.std.specs.Prelude.{is_none}
use Rattle.std.proofs.lemmas.List.{append-nil}
use Rattle.craft_base.specs.declared.command.Entry.{Entry}
use Rattle.entry_frames.specs.Logs.{entry_at}
use Rattle.leader_prep.specs.Decisions.{Decision, OpenPart, Rebuilt, decided, decision_at, if_part, parts_from}
use Rattle.leader_prep.specs.Standing.{AreRebuilt, Decides, IsVerdict}
use Rattle.leader_prep.specs.Verdicts.{Cut, IsValue, Rebuild, Source, Verdict, Wait}
use Rattle.leader_prep.specs.declared.verdicts.Verdict.TheVariants as codes
use Rattle.leader_prep.specs.declared.verdicts.Verdicts.{Verdicts}
use Rattle.leader_prep.proofs.Opening.{none_left, part_next, whole_next}

-- a decision behind values that are had already
abbrev pub behind : List Rebuilt → Decision → Decision
behind so_far rest = record rest { rebuilt = so_far ++ rest.rebuilt }

-- What is decided of all parts is what was had so far, and then what is decided of those that are left.
pub record SoFar (verdict : OpenPart → Verdict) (all : Decision) (wholes : List (ℕ × List ℕ)) (left : List OpenPart) : Type 0 where
  pub rebuilt : List Rebuilt
  pub same : AreRebuilt rebuilt wholes
  pub rest : all ≡ behind rebuilt (decided verdict left)

-- ---- verdicts of the code

waits : (v : Verdict) → IsVerdict v codes.Wait → v ≡ Wait
waits Wait is = refl
waits (Rebuild source) is = absurd is
waits Cut is = absurd is

cuts : (v : Verdict) → IsVerdict v codes.Cut → v ≡ Cut
cuts Wait is = absurd is
cuts (Rebuild source) is = absurd is
cuts Cut is = refl

record IsHad (v : Verdict) (value : List ℕ) : Type 0 where
  source : Source
  same : v ≡ Rebuild source
  value_is : IsValue source value

had : (v : Verdict) (value : List ℕ) → IsVerdict v (codes.Whole value) → IsHad v value
had Wait value is = absurd is
had (Rebuild source) value is = record { source = source; same = refl; value_is = is }
had Cut value is = absurd is

-- ---- one value more

one_more : (rebuilt : List Rebuilt) (wholes : List (ℕ × List ℕ)) (r : Rebuilt) (index : ℕ) (value : List ℕ) → AreRebuilt rebuilt wholes → index ≡ r.index → IsValue r.source value
    → AreRebuilt (rebuilt ++ r ∷ []) (wholes ++ (index, value) ∷ [])
one_more [] [] r index value are same is = (same, is, tt)
one_more [] (w ∷ ws) r index value are same is = absurd are
one_more (s ∷ rebuilt) [] r index value are same is = absurd are
one_more (s ∷ rebuilt) (w ∷ ws) r index value are same is = (are.0, are.1, one_more rebuilt ws r index value are.2 same is)

-- ---- steps

pub begins : (verdict : OpenPart → Verdict) (parts : List OpenPart) → SoFar verdict (decided verdict parts) [] parts
begins verdict parts = record { rebuilt = []; same = tt; rest = refl }

-- what is whole is passed over
pub passes : (verdict : OpenPart → Verdict) (all : Decision) (wholes : List (ℕ × List ℕ)) (entries : List Entry) (n : ℕ) → if_part (entry_at entries (n + 1)) ≡ None
    → SoFar verdict all wholes (parts_from (n + 1) (drop n entries)) → SoFar verdict all wholes (parts_from (n + 1 + 1) (drop (n + 1) entries))
passes verdict all wholes entries n whole so_far = subst (SoFar verdict all wholes) (whole_next entries n whole) so_far

-- a value is had
pub goes_on : (verdict : OpenPart → Verdict) (all : Decision) (wholes : List (ℕ × List ℕ)) (entries : List Entry) (n : ℕ) (e : Entry) (value : List ℕ)
    → if_part (entry_at entries (n + 1)) ≡ Some e → IsVerdict (verdict (record { index = n + 1; entry = e })) (codes.Whole value)
    → SoFar verdict all wholes (parts_from (n + 1) (drop n entries))
    → SoFar verdict all (wholes ++ (n + 1, value) ∷ []) (parts_from (n + 1 + 1) (drop (n + 1) entries))
goes_on verdict all wholes entries n e value part is so_far =
    let h = had (verdict (record { index = n + 1; entry = e })) value is in
    let rest = decided verdict (parts_from (n + 1 + 1) (drop (n + 1) entries)) in
    let r : Rebuilt = record { index = n + 1; source = h.source } in
    record {
      rebuilt = so_far.rebuilt ++ r ∷ [];
      same = one_more so_far.rebuilt wholes r (n + 1) value so_far.same refl h.value_is;
      rest =
          so_far.rest ∙ ap (λ (parts : List OpenPart). behind so_far.rebuilt (decided verdict parts)) (part_next entries n e part)
          ∙ ap (λ (v : Verdict). behind so_far.rebuilt (decision_at (n + 1) v rest)) h.same
          ∙ ap (λ (all_rebuilt : List Rebuilt). record rest { rebuilt = all_rebuilt }) (sym (append_assoc so_far.rebuilt (r ∷ []) rest.rebuilt));
    }

-- ---- ends

ends : (all rest : Decision) (rebuilt : List Rebuilt) (verdicts : Verdicts) (left : Option ℕ) → all ≡ behind rebuilt rest → rest.rebuilt ≡ [] → AreRebuilt rebuilt verdicts.wholes.items
    → verdicts.cut ≡ rest.cut → left ≡ rest.cursor → verdicts.done ≡ is_none left → Decides all verdicts left
ends all rest rebuilt verdicts left is none same cut cursor done = record {
  verdicts_are = record {
    wholes =
        let list : all.rebuilt ≡ rebuilt = ap (λ (d : Decision). d.rebuilt) is ∙ ap (λ (rs : List Rebuilt). rebuilt ++ rs) none ∙ append-nil rebuilt in
        subst (λ (rs : List Rebuilt). AreRebuilt rs verdicts.wholes.items) (sym list) same;
    cut = cut ∙ sym (ap (λ (d : Decision). d.cut) is);
    done = done ∙ ap is_none (cursor ∙ sym (ap (λ (d : Decision). d.cursor) is));
  };
  left_is = cursor ∙ sym (ap (λ (d : Decision). d.cursor) is);
}

-- what the code answers, of these values
pub record IsAnswer (verdicts : Verdicts) (left : Option ℕ) (wholes : List (ℕ × List ℕ)) (cut cursor : Option ℕ) : Type 0 where
  pub wholes_are : verdicts.wholes.items ≡ wholes
  pub cut_is : verdicts.cut ≡ cut
  pub done_is : verdicts.done ≡ is_none cursor
  pub left_is : left ≡ cursor

ends_with : (all rest : Decision) (rebuilt : List Rebuilt) (wholes : List (ℕ × List ℕ)) (verdicts : Verdicts) (left : Option ℕ) → all ≡ behind rebuilt rest → rest.rebuilt ≡ []
    → AreRebuilt rebuilt wholes → IsAnswer verdicts left wholes rest.cut rest.cursor → Decides all verdicts left
ends_with all rest rebuilt wholes verdicts left is none same answer =
    ends all rest rebuilt verdicts left is none (subst (AreRebuilt rebuilt) (sym answer.wholes_are) same) answer.cut_is answer.left_is
    (answer.done_is ∙ sym (ap is_none answer.left_is))

-- nothing is left
pub ends_all : (verdict : OpenPart → Verdict) (all : Decision) (wholes : List (ℕ × List ℕ)) (entries : List Entry) (n : ℕ) (verdicts : Verdicts) (left : Option ℕ) → length entries ≤ n
    → SoFar verdict all wholes (parts_from (n + 1) (drop n entries)) → IsAnswer verdicts left wholes None None → Decides all verdicts left
ends_all verdict all wholes entries n verdicts left past so_far answer =
    ends_with all (record { rebuilt = []; cut = None; cursor = None }) so_far.rebuilt wholes verdicts left
    (so_far.rest ∙ ap (λ (parts : List OpenPart). behind so_far.rebuilt (decided verdict parts)) (none_left entries n (n + 1) past)) refl so_far.same answer

-- it has to wait
pub ends_waiting : (verdict : OpenPart → Verdict) (all : Decision) (wholes : List (ℕ × List ℕ)) (entries : List Entry) (n : ℕ) (e : Entry) (verdicts : Verdicts) (left : Option ℕ)
    → if_part (entry_at entries (n + 1)) ≡ Some e → IsVerdict (verdict (record { index = n + 1; entry = e })) codes.Wait
    → SoFar verdict all wholes (parts_from (n + 1) (drop n entries)) → IsAnswer verdicts left wholes None (Some (n + 1)) → Decides all verdicts left
ends_waiting verdict all wholes entries n e verdicts left part is so_far answer =
    ends_with all (record { rebuilt = []; cut = None; cursor = Some (n + 1) }) so_far.rebuilt wholes verdicts left
    (so_far.rest ∙ ap (λ (parts : List OpenPart). behind so_far.rebuilt (decided verdict parts)) (part_next entries n e part)
    ∙ ap (λ (v : Verdict). behind so_far.rebuilt (decision_at (n + 1) v (decided verdict (parts_from (n + 1 + 1) (drop (n + 1) entries)))))
    (waits (verdict (record { index = n + 1; entry = e })) is)) refl so_far.same answer

-- the log is cut
pub ends_cut : (verdict : OpenPart → Verdict) (all : Decision) (wholes : List (ℕ × List ℕ)) (entries : List Entry) (n : ℕ) (e : Entry) (verdicts : Verdicts) (left : Option ℕ)
    → if_part (entry_at entries (n + 1)) ≡ Some e → IsVerdict (verdict (record { index = n + 1; entry = e })) codes.Cut
    → SoFar verdict all wholes (parts_from (n + 1) (drop n entries)) → IsAnswer verdicts left wholes (Some (n + 1)) None → Decides all verdicts left
ends_cut verdict all wholes entries n e verdicts left part is so_far answer =
    ends_with all (record { rebuilt = []; cut = Some (n + 1); cursor = None }) so_far.rebuilt wholes verdicts left
    (so_far.rest ∙ ap (λ (parts : List OpenPart). behind so_far.rebuilt (decided verdict parts)) (part_next entries n e part)
    ∙ ap (λ (v : Verdict). behind so_far.rebuilt (decision_at (n + 1) v (decided verdict (parts_from (n + 1 + 1) (drop (n + 1) entries)))))
    (cuts (verdict (record { index = n + 1; entry = e })) is)) refl so_far.same answer
