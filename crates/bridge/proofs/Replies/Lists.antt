-- Lists: what is among them, and their fronts.
use Rattle.std.proofs.Common.{◌≡◌, ℕ, zero, suc, ◌+◌, ◌<◌, ◌≤◌, ◌⊎◌, Bool, true, false, if◌then◌else◌, List, [], ◌∷◌, ◌++◌, length, map, take, Option, None, Some, slice_get, refl, sym, ap, subst, ◌∙◌, inl, inr, arith, append_assoc, append-nil}
use Rattle.std.specs.List.{All, find, range_with_len}
use Rattle.std.proofs.lemmas.List.Elements.{All-cons, All-head, All-nil, All-tail, All-weaker}
use Rattle.std.proofs.lemmas.Option.{same_Some}
use Rattle.world_model.specs.Safety.{IsFront, IsIn}
use Rattle.world_model.specs.Traces.{Command}

-- ---- what is among them

pub in_more : {X : Type 0} (x : X) (xs more : List X) → IsIn x xs → IsIn x (xs ++ more)
in_more x [] more among = absurd among
in_more x (first ∷ xs) more among = elim among [ inl same ↦ inl same | inr later ↦ inr (in_more x xs more later) ]

pub in_either : {X : Type 0} (x : X) (xs more : List X) → IsIn x (xs ++ more) → IsIn x xs ⊎ IsIn x more
in_either x [] more among = inr among
in_either x (first ∷ xs) more among = elim among [
  | inl same ↦ inl (inl same)
  | inr later ↦ elim (in_either x xs more later) [ inl here ↦ inl (inr here) | inr there ↦ inr there ]
]

pub is_in : {X : Type 0} (P : X → Type 0) (xs : List X) → All P xs → (x : X) → IsIn x xs → P x
is_in P [] all x among = absurd among
is_in P (first ∷ xs) all x among = elim among [
  | inl same ↦ subst P (sym same) (All-head P first xs all)
  | inr later ↦ is_in P xs (All-tail P first xs all) x later
]

found_by :
    {X : Type 0} (P : X → Type 0) (test : X → Bool) (first x : X) (passes : Bool) (rest : Option X) → test first ≡ passes →
    (if passes then Some first else rest) ≡ Some x → P first → (rest ≡ Some x → (test x ≡ true) × P x) → (test x ≡ true) × P x
found_by P test first x true rest is e p later = subst (λ it. (test it ≡ true) × P it) (same_Some first x e) (is, p)
found_by P test first x false rest is e p later = later e

-- what is found passes the test, and is one of them
pub found_is : {X : Type 0} (P : X → Type 0) (test : X → Bool) (xs : List X) (x : X) → find test xs ≡ Some x → All P xs → (test x ≡ true) × P x
found_is P test [] x e all = cc
found_is P test (first ∷ xs) x e all =
    found_by P test first x (test first) (find test xs) refl e (All-head P first xs all) (λ later. found_is P test xs x later (All-tail P first xs all))

-- the numbers from one on, so many of them
pub in_range : (from count : ℕ) → All (λ i. (from ≤ i) × (i < from + count)) (range_with_len from count)
in_range from zero = All-nil (λ i. (from ≤ i) × (i < from + 0))
in_range from (suc count) =
    All-cons (λ i. (from ≤ i) × (i < from + suc count)) from (range_with_len (from + 1) count) (omega arith, omega arith)
    (All-weaker (λ i. (from + 1 ≤ i) × (i < from + 1 + count)) (λ i. (from ≤ i) × (i < from + suc count))
    (λ i within. (omega (arith, within.0), omega (arith, within.1))) (range_with_len (from + 1) count) (in_range (from + 1) count))

-- ---- fronts

pub taken_there : {X : Type 0} (n : ℕ) (xs : List X) (i : ℕ) → i < n → slice_get (take n xs) i ≡ slice_get xs i
taken_there zero xs i lt = absurd (omega (arith, lt))
taken_there (suc n) [] i lt = refl
taken_there (suc n) (x ∷ xs) zero lt = refl
taken_there (suc n) (x ∷ xs) (suc i) lt = taken_there n xs i (omega (arith, lt))

-- one element more of a front
pub taken_more : {X : Type 0} (xs : List X) (i : ℕ) (x : X) → slice_get xs i ≡ Some x → take (suc i) xs ≡ take i xs ++ x ∷ []
taken_more [] i x e = cc
taken_more (first ∷ xs) zero x e = ap (λ it. it ∷ []) (same_Some first x e)
taken_more (first ∷ xs) (suc i) x e = ap (λ rest. first ∷ rest) (taken_more xs i x e)

-- an element is where it was in a list that goes on
pub still_there : {X : Type 0} (xs more : List X) (i : ℕ) → i < length xs → slice_get (xs ++ more) i ≡ slice_get xs i
still_there [] more i lt = absurd (omega (arith, lt))
still_there (x ∷ xs) more zero lt = refl
still_there (x ∷ xs) more (suc i) lt = still_there xs more i (omega (arith, lt))

pub front_trans : (one two three : List (Option Command)) → IsFront one two → IsFront two three → IsFront one three
front_trans one two three first second =
    (first.0 ++ second.0, sym (append_assoc one first.0 second.0) ∙ ap (λ it. it ++ second.0) first.1 ∙ second.1)

pub front_refl : (list : List (Option Command)) → IsFront list list
front_refl list = ([], append-nil list)

rest_of : List (Option Command) → List (Option Command)
rest_of [] = []
rest_of (x ∷ xs) = xs

first_of : List (Option Command) → Option Command
first_of [] = None
first_of (x ∷ xs) = x

-- commands that are a front of the commands of a list are a front of these
pub front_of_commands :
    (front : List Command) (rest : List (Option Command)) (whole : List Command) → map Some front ++ rest ≡ map Some whole →
    (more : List Command) × (front ++ more ≡ whole)
unfolding first_of rest_of
front_of_commands [] rest whole e = (whole, refl)
front_of_commands (c ∷ front) rest [] e = cc
front_of_commands (c ∷ front) rest (d ∷ whole) e =
    let tail = front_of_commands front rest whole (ap rest_of e) in
    (tail.0, ap (λ it. it ∷ (front ++ tail.0)) (same_Some c d (ap first_of e)) ∙ ap (λ it. d ∷ it) tail.1)

-- and the commands of a list are no other's
pub same_commands : (one other : List Command) → map Some one ≡ map Some other → one ≡ other
unfolding first_of rest_of
same_commands [] [] e = refl
same_commands [] (d ∷ other) e = cc
same_commands (c ∷ one) [] e = cc
same_commands (c ∷ one) (d ∷ other) e =
    ap (λ it. it ∷ one) (same_Some c d (ap first_of e)) ∙ ap (λ it. d ∷ it) (same_commands one other (ap rest_of e))
