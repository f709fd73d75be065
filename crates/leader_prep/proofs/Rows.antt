-- Members in a row, and one more of them.
use Rattle.std.proofs.Common.{◌≡◌, ℕ, zero, suc, ◌+◌, ◌-◌, ◌<◌, List, [], ◌∷◌, ◌++◌, Bool, cond, Option, None, Some, refl, ap, sym, add-one, ◌∙◌, arith}
use Rattle.std.specs.List.{count_by, range_with_len}
use Rattle.std.specs.Option.{option_or}
use Rattle.std.proofs.lemmas.Grind.{flat_map-append}
use Rattle.std.proofs.lemmas.List.{append-nil}
use Rattle.std.proofs.lemmas.List.Sums.{sum_by-append}
use Rattle.craft_base.specs.declared.command.Form.{Form}
use Rattle.leader_prep.specs.Verdicts.{first_whole, parts_of, part_in, whole_in}
use Rattle.rs_code.specs.Rebuilding.{TakenPart}

row_next : (a n j : ℕ) → a + n ≡ j → range_with_len a (suc n) ≡ range_with_len a n ++ j ∷ []
row_next a zero j is =
    let start : a ≡ j = omega arith in
    ap (λ (i : ℕ). i ∷ []) start
row_next a (suc n) j is = ap (λ (row : List ℕ). a ∷ row) (row_next (a + 1) n j (omega arith))

-- one number more
pub row_more : (n : ℕ) → range_with_len 0 (n + 1) ≡ range_with_len 0 n ++ n ∷ []
row_more n = ap (λ (m : ℕ). range_with_len 0 m) (add-one n) ∙ row_next 0 n n (omega arith)

-- how many of them pass a test
pub counted_on : (p : ℕ → Bool) (n count next : ℕ) (hit : Bool) → count ≡ count_by p (range_with_len 0 n) → hit ≡ p n → next ≡ count + cond hit 1 0
    → next ≡ count_by p (range_with_len 0 (n + 1))
counted_on p n count next hit so_far is more =
    more ∙ ap (λ test. count + cond test 1 0) is ∙ ap (λ f. f + cond (p n) 1 0) so_far
    ∙ sym (ap (λ (row : List ℕ). count_by p row) (row_more n) ∙ sum_by-append (λ x. cond {A = ℕ} (p x) 1 0) (range_with_len 0 n) (n ∷ []) ∙ omega arith)

-- ---- the first whole value

first_append : (form : ℕ → Option Form) (front rest : List ℕ) → first_whole form (front ++ rest) ≡ option_or (first_whole form front) (first_whole form rest)
first_append form [] rest = refl
first_append form (member ∷ front) rest =
    ap (option_or (whole_in (form member))) (first_append form front rest) ∙ nested (whole_in (form member)) (first_whole form front) (first_whole form rest)
  where
    nested : (a b c : Option (List ℕ)) → option_or a (option_or b c) ≡ option_or (option_or a b) c
    nested None b c = refl
    nested (Some x) b c = refl

pub none_whole_more : (form : ℕ → Option Form) (n : ℕ) → first_whole form (range_with_len 0 n) ≡ None → whole_in (form n) ≡ None
    → first_whole form (range_with_len 0 (n + 1)) ≡ None
none_whole_more form n before here =
    ap (first_whole form) (row_more n) ∙ first_append form (range_with_len 0 n) (n ∷ [])
    ∙ ap (λ (o : Option (List ℕ)). option_or o (option_or (whole_in (form n)) None)) before ∙ ap (λ (o : Option (List ℕ)). option_or o None) here

row_split : (a n m : ℕ) → range_with_len a (n + m) ≡ range_with_len a n ++ range_with_len (a + n) m
row_split a zero m =
    let none : 0 + m ≡ m = omega arith in
    let start : a ≡ a + 0 = omega arith in
    ap (λ (k : ℕ). range_with_len a k) none ∙ ap (λ (k : ℕ). range_with_len k m) start
row_split a (suc n) m =
    let later : suc n + m ≡ suc (n + m) = omega arith in
    let start : a + 1 + n ≡ a + suc n = omega arith in
    ap (λ (k : ℕ). range_with_len a k) later ∙ ap (λ (row : List ℕ). a ∷ row) (row_split (a + 1) n m)
    ∙ ap (λ (k : ℕ). (a ∷ range_with_len (a + 1) n) ++ range_with_len k m) start

pub whole_found : (form : ℕ → Option Form) (n all : ℕ) (value : List ℕ) → first_whole form (range_with_len 0 n) ≡ None → whole_in (form n) ≡ Some value → n < all
    → Some value ≡ first_whole form (range_with_len 0 all)
whole_found form n all value before here within =
    let split : all ≡ (n + 1) + (all - (n + 1)) = omega arith in
    let front : first_whole form (range_with_len 0 (n + 1)) ≡ Some value =
    ap (first_whole form) (row_more n) ∙ first_append form (range_with_len 0 n) (n ∷ [])
    ∙ ap (λ (o : Option (List ℕ)). option_or o (option_or (whole_in (form n)) None)) before ∙ ap (λ (o : Option (List ℕ)). option_or o None) here in
    sym (ap (λ (k : ℕ). first_whole form (range_with_len 0 k)) split ∙ ap (first_whole form) (row_split 0 (n + 1) (all - (n + 1)))
    ∙ first_append form (range_with_len 0 (n + 1)) (range_with_len (0 + (n + 1)) (all - (n + 1)))
    ∙ ap (λ (o : Option (List ℕ)). option_or o (first_whole form (range_with_len (0 + (n + 1)) (all - (n + 1))))) front)

-- ---- the parts

pub parts_more : (form : ℕ → Option Form) (n : ℕ) → parts_of form (range_with_len 0 (n + 1)) ≡ parts_of form (range_with_len 0 n) ++ part_in n (form n)
parts_more form n =
    ap (parts_of form) (row_more n) ∙ flat_map-append (λ member. part_in member (form member)) (range_with_len 0 n) (n ∷ [])
    ∙ ap (λ (ps : List TakenPart). parts_of form (range_with_len 0 n) ++ ps) (append-nil (part_in n (form n)))
