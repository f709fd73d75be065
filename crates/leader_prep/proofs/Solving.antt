-- Where parts have a value, the first that is found among all lists is it.
use Rattle.std.proofs.Common.{◌≡◌, ℕ, zero, suc, ◌+◌, ◌*◌, ◌<◌, ◌≤◌, List, [], ◌∷◌, length, length-take, map, replicate, take, Bool, true, false, Option, None, Some, refl, ap, sym, ◌∙◌, arith, subst, cond, eq-eqb, ◌⊎◌, inl, inr}
use Rattle.std.specs.Prelude.{◌==◌, ◌&&◌, ◌||◌, nat_lt, slice_index, slice_index_or, unwrap_or}
use Rattle.std.specs.List.{find, flat_map, list_all, list_any, range_with_len}
use Rattle.std.proofs.lemmas.Grind.{div_ceil_times}
use Rattle.std.proofs.lemmas.List.{length-replicate}
use Rattle.std.proofs.lemmas.Option.{same_Some}
use Rattle.std.proofs.lemmas.Bool.{cases_lt, eqb-true, lt-ltb, ltb-true}
use Rattle.std.proofs.lemmas.List.Folds.{list_any-append}
use Rattle.std.proofs.lemmas.List.Sums.{AllPass-from_list_all, list_all-from_AllPass}
use Rattle.leader_prep.specs.Decisions.{Rebuilt}
use Rattle.leader_prep.specs.Solutions.{had, is_solution, lies_on, lists_below, solution, value_of}
use Rattle.leader_prep.specs.Standing.{AreRebuilt}
use Rattle.leader_prep.specs.Verdicts.{IsValue, Parts, Source, Whole}
use Rattle.rs_code.specs.Fragments.{coefficients, point_of}
use Rattle.rs_code.specs.Polynomials.{polynomial}
use Rattle.rs_code.specs.Rebuilding.{LiesOn, Rebuilding, Solves, TakenPart, size_of}

-- ---- among all lists

any_of_map : (p : List ℕ → Bool) (first : ℕ) (lists : List (List ℕ)) → list_any p (map (λ rest. first ∷ rest) lists) ≡ list_any (λ rest. p (first ∷ rest)) lists
any_of_map p first [] = refl
any_of_map p first (xs ∷ lists) = ap (λ (b : Bool). p (first ∷ xs) || b) (any_of_map p first lists)

of_and : (x y : Bool) → (x && y) ≡ true → (x ≡ true) × (y ≡ true)
of_and true y e = (refl, e)
of_and false y e = absurd cc

or_right : (a b : Bool) → b ≡ true → (a || b) ≡ true
or_right true b is = refl
or_right false b is = is

or_left : (a b : Bool) → a ≡ true → (a || b) ≡ true
or_left true b is = refl
or_left false b is = absurd cc

any_in_row : (p : List ℕ → Bool) (lists : ℕ → List (List ℕ)) (a n first : ℕ) → a ≤ first → first < a + n → list_any p (lists first) ≡ true
    → list_any p (flat_map lists (range_with_len a n)) ≡ true
any_in_row p lists a zero first low high is = absurd (omega (arith, low, high))
any_in_row p lists a (suc n) first low high is =
    list_any-append p (lists a) (flat_map lists (range_with_len (a + 1) n)) ∙ at (cases_lt a first) (any_in_row p lists (a + 1) n first) where
      at : (a < first) ⊎ (first ≤ a) → (a + 1 ≤ first → first < a + 1 + n → list_any p (lists first) ≡ true → list_any p (flat_map lists (range_with_len (a + 1) n)) ≡ true)
          → (list_any p (lists a) || list_any p (flat_map lists (range_with_len (a + 1) n))) ≡ true
      at (inl later) rest =
          or_right (list_any p (lists a)) (list_any p (flat_map lists (range_with_len (a + 1) n))) (rest (omega (arith, later)) (omega (arith, high)) is)
      at (inr here) rest =
          let same : first ≡ a = omega (arith, here, low) in
          or_left (list_any p (lists a)) (list_any p (flat_map lists (range_with_len (a + 1) n))) (ap (λ (m : ℕ). list_any p (lists m)) (sym same) ∙ is)

any_list : (most : ℕ) (xs : List ℕ) (p : List ℕ → Bool) → list_all (λ x. nat_lt x most) xs ≡ true → p xs ≡ true → list_any p (lists_below most (length xs)) ≡ true
unfolding lists_below
any_list most [] p are is = or_left (p []) false is
any_list most (x ∷ xs) p are is =
    let below : x < most = ltb-true x most (of_and (nat_lt x most) (list_all (λ y. nat_lt y most) xs) are).0 in
    any_in_row p (λ first. map (λ rest. first ∷ rest) (lists_below most (length xs))) 0 most x (omega arith) (omega (arith, below))
    (any_of_map p x (lists_below most (length xs)) ∙ any_list most xs (λ rest. p (x ∷ rest)) (of_and (nat_lt x most) (list_all (λ y. nat_lt y most) xs) are).1 is)

record Finds (p : List ℕ → Bool) (lists : List (List ℕ)) : Type 0 where
  item : List ℕ
  found : find p lists ≡ Some item
  passes : p item ≡ true

finds : (p : List ℕ → Bool) (lists : List (List ℕ)) → list_any p lists ≡ true → Finds p lists
finds p [] any = absurd cc
finds p (xs ∷ lists) any = by (p xs) refl any (finds p lists) where
  by : (hit : Bool) → p xs ≡ hit → (p xs || list_any p lists) ≡ true → (list_any p lists ≡ true → Finds p lists) → Finds p (xs ∷ lists)
  by true here any1 later = record { item = xs; found = ap (λ (b : Bool). cond b (Some xs) (find p lists)) here; passes = here }
  by false here any1 later =
      let rest = later (sym (ap (λ (b : Bool). b || list_any p lists) here) ∙ any1) in
      record { item = rest.item; found = ap (λ (b : Bool). cond b (Some xs) (find p lists)) here ∙ rest.found; passes = rest.passes }

-- ---- what a solution is

in_row : (p : ℕ → Bool) (a n : ℕ) → ((i : ℕ) → i < n → p (a + i) ≡ true) → list_all p (range_with_len a n) ≡ true
in_row p a zero all = refl
in_row p a (suc n) all =
    let start : a + 0 ≡ a = omega arith in
    ap (λ (b : Bool). b && list_all p (range_with_len (a + 1) n)) (ap p (sym start) ∙ all 0 (omega arith))
    ∙ in_row p (a + 1) n (λ i below. let next : a + 1 + i ≡ a + suc i = omega arith in ap p next ∙ all (suc i) (omega (arith, below)))

of_row : (p : ℕ → Bool) (a n : ℕ) → list_all p (range_with_len a n) ≡ true → (i : ℕ) → i < n → p (a + i) ≡ true
of_row p a zero all i below = absurd (omega (arith, below))
of_row p a (suc n) all zero below =
    let start : a + 0 ≡ a = omega arith in
    ap p start ∙ (of_and (p a) (list_all p (range_with_len (a + 1) n)) all).0
of_row p a (suc n) all (suc i) below =
    let next : a + suc i ≡ a + 1 + i = omega arith in
    ap p next ∙ of_row p (a + 1) n (of_and (p a) (list_all p (range_with_len (a + 1) n)) all).1 i (omega (arith, below))

and_both : (a b : Bool) → a ≡ true → b ≡ true → (a && b) ≡ true
and_both true b e f = f
and_both false b e f = absurd cc

lies : (need size : ℕ) (joined : List ℕ) (part : TakenPart) → LiesOn need size joined part → lies_on need size joined part ≡ true
lies need size joined part on =
    in_row (λ place. slice_index part.bytes place == polynomial (coefficients joined size place) need (point_of part.member)) 0 (length part.bytes)
    (λ i below.
    let same : 0 + i ≡ i = omega arith in
    ap (λ (place : ℕ). slice_index part.bytes place == polynomial (coefficients joined size place) need (point_of part.member)) same
    ∙ eq-eqb _ _ (on i below))

on_it : (need size : ℕ) (joined : List ℕ) (part : TakenPart) → lies_on need size joined part ≡ true → LiesOn need size joined part
on_it need size joined part is i below =
    let same : i ≡ 0 + i = omega arith in
    eqb-true _ _ (ap (λ (place : ℕ). slice_index part.bytes place == polynomial (coefficients joined size place) need (point_of part.member)) same
    ∙ of_row (λ place. slice_index part.bytes place == polynomial (coefficients joined size place) need (point_of part.member)) 0 (length part.bytes) is i below)

is_one : (rebuilding : Rebuilding) (value : List ℕ) (solves : Solves rebuilding value) → is_solution rebuilding solves.joined ≡ true
is_one rebuilding value solves =
    and_both ((length solves.joined == rebuilding.need * size_of rebuilding) && list_all (λ byte. nat_lt byte 256) solves.joined)
    (list_all (lies_on rebuilding.need (size_of rebuilding) solves.joined) rebuilding.parts)
    (and_both (length solves.joined == rebuilding.need * size_of rebuilding) (list_all (λ byte. nat_lt byte 256) solves.joined) (eq-eqb _ _ solves.long) (are_bytes rebuilding value solves))
    (list_all-from_AllPass (lies_on rebuilding.need (size_of rebuilding) solves.joined) rebuilding.parts
    (λ k d below. lies rebuilding.need (size_of rebuilding) solves.joined (slice_index_or rebuilding.parts k d) (solves.through k d below)))
  where
    are_bytes : (r : Rebuilding) (v : List ℕ) (s : Solves r v) → list_all (λ byte. nat_lt byte 256) s.joined ≡ true
    are_bytes r v s = list_all-from_AllPass (λ byte. nat_lt byte 256) s.joined (λ k d below. lt-ltb (slice_index_or s.joined k d) 256 (s.bytes k d below))

first_of_all : (rebuilding : Rebuilding) (value : List ℕ) → Solves rebuilding value → Finds (is_solution rebuilding) (lists_below 256 (rebuilding.need * size_of rebuilding))
first_of_all rebuilding value solves =
    finds (is_solution rebuilding) (lists_below 256 (rebuilding.need * size_of rebuilding))
    (ap (λ (m : ℕ). list_any (is_solution rebuilding) (lists_below 256 m)) (sym solves.long)
    ∙ any_list 256 solves.joined (is_solution rebuilding)
    (list_all-from_AllPass (λ byte. nat_lt byte 256) solves.joined (λ k d below. lt-ltb (slice_index_or solves.joined k d) 256 (solves.bytes k d below)))
    (is_one rebuilding value solves))

solved_by : (rebuilding : Rebuilding) (joined : List ℕ) → is_solution rebuilding joined ≡ true → Solves rebuilding (take rebuilding.value_length joined)
solved_by rebuilding joined is =
    let parts = of_and ((length joined == rebuilding.need * size_of rebuilding) && list_all (λ byte. nat_lt byte 256) joined)
    (list_all (lies_on rebuilding.need (size_of rebuilding) joined) rebuilding.parts) is in
    let front = of_and (length joined == rebuilding.need * size_of rebuilding) (list_all (λ byte. nat_lt byte 256) joined) parts.0 in
    record {
      joined = joined;
      bytes = λ k d below. ltb-true (slice_index_or joined k d) 256 (AllPass-from_list_all (λ byte. nat_lt byte 256) joined front.1 k d below);
      long = eqb-true (length joined) (rebuilding.need * size_of rebuilding) front.0;
      through = λ k d below.
          on_it rebuilding.need (size_of rebuilding) joined (slice_index_or rebuilding.parts k d)
          (AllPass-from_list_all (lies_on rebuilding.need (size_of rebuilding) joined) rebuilding.parts parts.1 k d below);
      beginning = refl;
    }

-- where there is a value, the solution is one
pub solution_solves : (rebuilding : Rebuilding) (value : List ℕ) → Solves rebuilding value → Solves rebuilding (solution rebuilding)
unfolding solution
solution_solves rebuilding value solves =
    let first = first_of_all rebuilding value solves in
    subst (λ (o : Option (List ℕ)). Solves rebuilding (take rebuilding.value_length (unwrap_or o (replicate (rebuilding.need * size_of rebuilding) 0)))) (sym first.found)
    (solved_by rebuilding first.item first.passes)

-- what is found passes
passes_of : (p : List ℕ → Bool) (lists : List (List ℕ)) (item : List ℕ) → find p lists ≡ Some item → p item ≡ true
passes_of p [] item is = absurd cc
passes_of p (xs ∷ lists) item is = by (p xs) refl is (passes_of p lists item) where
  by : (hit : Bool) → p xs ≡ hit → cond hit (Some xs) (find p lists) ≡ Some item → (find p lists ≡ Some item → p item ≡ true) → p item ≡ true
  by true here found later = ap p (sym (same_Some xs item found)) ∙ here
  by false here found later = later found

-- it is as long as the value, whatever the parts are
pub solution_long : (rebuilding : Rebuilding) → 1 ≤ rebuilding.need → length (solution rebuilding) ≡ rebuilding.value_length
unfolding solution
solution_long rebuilding some = one (find (is_solution rebuilding) (lists_below 256 (rebuilding.need * size_of rebuilding))) refl where
  all : ℕ
  all = rebuilding.need * size_of rebuilding

  room : rebuilding.value_length ≤ all
  room = omega (arith, div_ceil_times rebuilding.value_length rebuilding.need some)

  zeros : List ℕ
  zeros = replicate {A = ℕ} all 0

  one : (o : Option (List ℕ)) → find (is_solution rebuilding) (lists_below 256 all) ≡ o → length (take rebuilding.value_length (unwrap_or o zeros)) ≡ rebuilding.value_length
  one None none = omega (arith, room, length-take rebuilding.value_length zeros, length-replicate {A = ℕ} all 0)
  one (Some joined) found =
      let passes = passes_of (is_solution rebuilding) (lists_below 256 all) joined found in
      let front = of_and ((length joined == all) && list_all (λ byte. nat_lt byte 256) joined) (list_all (lies_on rebuilding.need (size_of rebuilding) joined) rebuilding.parts) passes in
      let long : length joined ≡ all = eqb-true (length joined) all (of_and (length joined == all) (list_all (λ byte. nat_lt byte 256) joined) front.0).0 in
      omega (arith, room, long, length-take rebuilding.value_length joined)

-- the value that is had from there
value_is : (source : Source) (bytes : List ℕ) → IsValue source bytes → bytes ≡ value_of source
value_is (Whole value) bytes is = is
value_is (Parts parts) bytes is = sym (is.only (solution parts) (solution_solves parts bytes is.solution))

pub values_are : (rebuilt : List Rebuilt) (wholes : List (ℕ × List ℕ)) → AreRebuilt rebuilt wholes → wholes ≡ map had rebuilt
values_are [] [] are = refl
values_are [] (w ∷ wholes) are = absurd are
values_are (r ∷ rebuilt) [] are = absurd are
values_are (r ∷ rebuilt) (w ∷ wholes) are =
    ap (λ (index : ℕ). (index, w.1) ∷ wholes) are.0 ∙ ap (λ (bytes : List ℕ). (r.index, bytes) ∷ wholes) (value_is r.source w.1 are.1)
    ∙ ap (λ (rest : List (ℕ × List ℕ)). had r ∷ rest) (values_are rebuilt wholes are.2)
