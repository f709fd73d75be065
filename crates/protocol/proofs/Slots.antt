-- Logs as lists: what a longer list, a front, and a slot that is written leave of them.
use Rattle.std.proofs.Common.{◌≡◌, ℕ, zero, suc, ◌<◌, ◌≤◌, ◌≢◌, List, [], ◌∷◌, ◌++◌, length, take, set, slice_get, Some, inl, inr, refl, sym, ◌∙◌, ap, arith, le_refl, length-append, length-take-le, length-set}
use Rattle.std.proofs.lemmas.Bool.{cases_eq}
use Rattle.protocol.specs.Logs.{Slot, Whole, Same, IsFront, KeepsWhole, term_of, is_whole, is_whole_mark, term_at, whole_at}
use Rattle.protocol.specs.History.{History}
use Rattle.protocol.specs.Moves.{Adds}

get-append : (a b : List Slot) (i : ℕ) → i < length a → slice_get (a ++ b) i ≡ slice_get a i
get-append [] b i lt = absurd (omega arith)
get-append (x ∷ a) b zero lt = refl
get-append (x ∷ a) b (suc i) lt = get-append a b i (omega arith)

get-last : (a : List Slot) (x : Slot) → slice_get (a ++ x ∷ []) (length a) ≡ Some x
get-last [] x = refl
get-last (y ∷ a) x = get-last a x

get-take : (n : ℕ) (a : List Slot) (i : ℕ) → i < n → slice_get (take n a) i ≡ slice_get a i
get-take zero a i lt = absurd (omega arith)
get-take (suc n) [] i lt = refl
get-take (suc n) (x ∷ a) zero lt = refl
get-take (suc n) (x ∷ a) (suc i) lt = get-take n a i (omega arith)

get-set_same : (a : List Slot) (i : ℕ) (x : Slot) → i < length a → slice_get (set a i x) i ≡ Some x
get-set_same [] i x lt = absurd (omega arith)
get-set_same (y ∷ a) zero x lt = refl
get-set_same (y ∷ a) (suc i) x lt = get-set_same a i x (omega arith)

get-set_other : (a : List Slot) (i k : ℕ) (x : Slot) → k ≢ i → slice_get (set a i x) k ≡ slice_get a k
get-set_other [] i k x apart = refl
get-set_other (y ∷ a) zero zero x apart = absurd (apart refl)
get-set_other (y ∷ a) zero (suc k) x apart = refl
get-set_other (y ∷ a) (suc i) zero x apart = refl
get-set_other (y ∷ a) (suc i) (suc k) x apart = get-set_other a i k x (λ e. apart (ap suc e))

-- a list is a front of what stands before more
pub term_at-append : (a b : List Slot) (i : ℕ) → i ≤ length a → term_at (a ++ b) i ≡ term_at a i
unfolding term_at
term_at-append a b zero le = refl
term_at-append a b (suc i) le = ap term_of (get-append a b i le)

pub whole_at-append : (a b : List Slot) (i : ℕ) → i ≤ length a → whole_at (a ++ b) i ≡ whole_at a i
unfolding whole_at
whole_at-append a b zero le = refl
whole_at-append a b (suc i) le = ap is_whole (get-append a b i le)

pub front_append : (a b : List Slot) → IsFront a (a ++ b)
front_append a b = record {
  left = le_refl _;
  right = omega (arith, length-append a b);
  same = λ i le. sym (term_at-append a b i le);
}

term_at-last : (a : List Slot) (x : Slot) → term_at (a ++ x ∷ []) (suc (length a)) ≡ x.term
unfolding term_at
term_at-last a x = ap term_of (get-last a x)

whole_at-last : (a : List Slot) (x : Slot) → whole_at (a ++ x ∷ []) (suc (length a)) ≡ is_whole_mark x.mark
unfolding whole_at
whole_at-last a x = ap is_whole (get-last a x)

-- a leader's log with a whole entry of its term behind it is what `Propose` wants
pub adds_append : (h : History) (u : ℕ) → Adds h u (h.log u ++ record { term = h.term u; mark = Whole } ∷ [])
adds_append h u =
    let new : Slot = record { term = h.term u; mark = Whole } in
    let long : length (h.log u ++ record { term = h.term u; mark = Whole } ∷ []) ≡ suc (length (h.log u)) =
    omega (arith, length-append (h.log u) (record { term = h.term u; mark = Whole } ∷ [])) in
    record {
      longer = long;
      front = front_append (h.log u) (new ∷ []);
      newest = rw long (term_at-last (h.log u) new);
      whole = rw long (whole_at-last (h.log u) new);
      marks = λ i le e. whole_at-append (h.log u) (new ∷ []) i le ∙ e;
    }

-- the first n of a list are a front of it
pub term_at-take : (n : ℕ) (a : List Slot) (i : ℕ) → i ≤ n → term_at (take n a) i ≡ term_at a i
unfolding term_at
term_at-take n a zero le = refl
term_at-take n a (suc i) le = ap term_of (get-take n a i le)

pub whole_at-take : (n : ℕ) (a : List Slot) (i : ℕ) → i ≤ n → whole_at (take n a) i ≡ whole_at a i
unfolding whole_at
whole_at-take n a zero le = refl
whole_at-take n a (suc i) le = ap is_whole (get-take n a i le)

pub front_take : (n : ℕ) (a : List Slot) → n ≤ length a → IsFront (take n a) a
front_take n a le =
    let long : length (take n a) ≡ n = length-take-le n a le in
    record { left = le_refl _; right = omega arith; same = λ i ie. term_at-take n a i (omega arith) }

-- a slot that is written with its own term leaves the same log
term_at-set : (a : List Slot) (i : ℕ) (x : Slot) → i < length a → x.term ≡ term_at a (suc i) → (k : ℕ) → term_at (set a i x) k ≡ term_at a k
unfolding term_at
term_at-set a i x lt e zero = refl
term_at-set a i x lt e (suc k) = elim (cases_eq k i) [
  | inl q ↦ rw q (ap term_of (get-set_same a i x lt) ∙ e)
  | inr apart ↦ ap term_of (get-set_other a i k x apart)
]

pub same_set : (a : List Slot) (i : ℕ) (x : Slot) → i < length a → x.term ≡ term_at a (suc i) → Same a (set a i x)
same_set a i x lt e =
    let long : length (set a i x) ≡ length a = length-set a i x in
    record {
      long = sym long;
      agree = record { left = le_refl _; right = omega arith; same = λ k le. sym (term_at-set a i x lt e k) };
    }

-- and one that is written whole loses nothing
pub whole_set : (a : List Slot) (i : ℕ) (x : Slot) (n : ℕ) → i < length a → x.mark ≡ Whole → KeepsWhole a (set a i x) n
unfolding whole_at
whole_set a i x n lt e zero le w = w
whole_set a i x n lt e (suc k) le w = elim (cases_eq k i) [
  | inl q ↦ rw q (ap is_whole (get-set_same a i x lt) ∙ ap is_whole_mark e)
  | inr apart ↦ ap is_whole (get-set_other a i k x apart) ∙ w
]
