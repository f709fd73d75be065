-- What each step of creation leaves, whole or cut short.
use Rattle.std.proofs.Common.{◌≡◌, ◌≢◌, ◌⊎◌, inl, inr, ℕ, ◌+◌, ◌-◌, ◌<◌, ◌≤◌, min, List, [], ◌∷◌, ◌++◌, length, get_or, take, drop, replicate, refl, sym, ap, ◌∙◌, subst, arith, append_assoc}
use Rattle.std.specs.Prelude.{true, ◌==◌, ◌&&◌, ◌||◌, nat_lt}
use Rattle.std.proofs.lemmas.Bool.{cases_eq, cases_lt}
use Rattle.std.proofs.lemmas.Bool.Decides.{nat_tests}
use Rattle.std.proofs.lemmas.List.{append-nil, drop_all, get_or-take}
use Rattle.craft_edge.specs.Disk.{written, Torn}
use Rattle.craft_edge.proofs.DiskLaws.{length-written_some}
use Rattle.synced_log.specs.declared.owner.Owner.{Owner}
use Rattle.synced_log.specs.Calls.{needs_zero}
use Rattle.synced_log.specs.Creation.{IsBlank}
use Rattle.synced_log.specs.Journal.{IsOwner, header, IsUnborn, IsJournal}

-- a write that begins inside the file
pub written_inside : (old : List ℕ) (at b : ℕ) (bs : List ℕ) → at ≤ length old → written old at (b ∷ bs) ≡ take at old ++ ((b ∷ bs) ++ drop (at + length (b ∷ bs)) old)
written_inside old at b bs le =
    let rest = drop (at + length (b ∷ bs)) old in
    let no_gap : at - length old ≡ 0 = omega (arith, le) in
    ap (λ n. take at old ++ replicate n 0 ++ (b ∷ bs) ++ rest) no_gap ∙ ap (λ (l : List ℕ). l ++ (b ∷ bs) ++ rest) (append-nil (take at old)) ∙ append_assoc (take at old) (b ∷ bs) rest

-- ---- the first byte as zero

pub blank_torn : (file image : List ℕ) → needs_zero file ≡ true → Torn 0 (0 ∷ []) file image → IsUnborn image
blank_torn file image needs torn = inl (omega (arith, torn.no_longer, length-written_some file 0 0 [], short_one (length file) (get_or file 0 0) needs))
  where
    short_one : (n first : ℕ) → ((n == 0) || (nat_lt n 33 && (first == 67))) ≡ true → n < 33
    short_one n first needs = grind (arith, nat_tests, needs)

-- ---- the rest of the header and a closed gate

abbrev pub tail_of : Owner → List ℕ
tail_of o = drop 1 (header o ++ 0 ∷ [])

by_length : (image : List ℕ) → length image ≤ 33 → get_or image 0 0 ≢ 67 → IsUnborn image
by_length image le other = elim (cases_lt (length image) 33) [ inl lt ↦ inl lt | inr ge ↦ inr (omega (arith, le, ge), other) ]

pub tail_torn : (o : Owner) (file image : List ℕ) → IsBlank file → Torn 1 (tail_of o) file image → IsUnborn image
tail_torn o file image blank torn =
    let one : min 1 (length file) ≡ 1 = omega (arith, blank.some) in
    let front : take 1 image ≡ take 1 file = subst (λ n. take n image ≡ take n file) one torn.before in
    let same : get_or image 0 0 ≡ get_or file 0 0 = sym (get_or-take 1 image 0 0 (omega arith)) ∙ ap (λ (l : List ℕ). get_or l 0 0) front ∙ get_or-take 1 file 0 0 (omega arith) in
    by_length image (omega (arith, torn.no_longer, length-written_some file 1 82 (drop 2 (header o ++ 0 ∷ [])), blank.short)) (λ is. blank.first (sym same ∙ is))

first_of_one : (file : List ℕ) → 1 ≤ length file → take 1 file ≡ get_or file 0 0 ∷ []
first_of_one [] le = absurd (omega arith)
first_of_one (x ∷ file) le = refl

pub tail_written : (o : Owner) (file : List ℕ) → IsBlank file → written file 1 (tail_of o) ≡ get_or file 0 0 ∷ tail_of o
tail_written o file blank =
    written_inside file 1 82 (drop 2 (header o ++ 0 ∷ [])) blank.some
    ∙ ap (λ (l : List ℕ). take 1 file ++ (tail_of o ++ l)) (drop_all 33 file blank.short)
    ∙ ap (λ (l : List ℕ). take 1 file ++ l) (append-nil (tail_of o))
    ∙ ap (λ (l : List ℕ). l ++ tail_of o) (first_of_one file blank.some)

-- ---- the first byte

pub born : (o : Owner) → IsOwner o → IsJournal (header o ++ 0 ∷ []) o []
born o owner = record { owner = owner; groups_are = tt; rest = 0 ∷ []; is = refl; ends = record { gate = 0; rest = []; is = refl; closed = λ e. absurd (omega (arith, e)) } }

pub first_torn : (o : Owner) (g : ℕ) (image : List ℕ) → IsOwner o → Torn 0 (67 ∷ []) (g ∷ tail_of o) image → IsUnborn image ⊎ IsJournal image o []
first_torn o g [] owner torn = absurd (omega (arith, torn.no_shorter))
first_torn o g (x ∷ image) owner torn =
    let rest : image ≡ tail_of o = torn.after in
    elim (cases_eq x 67) [
      | inl is ↦ inr (subst (λ l. IsJournal l o []) (sym ((λ i. is i ∷ rest i))) (born o owner))
      | inr other ↦ inl (inr (ap (λ (l : List ℕ). length (x ∷ l)) rest, other))
    ]

pub first_written : (o : Owner) (g : ℕ) → written (g ∷ tail_of o) 0 (67 ∷ []) ≡ header o ++ 0 ∷ []
first_written o g = written_inside (g ∷ tail_of o) 0 67 [] (omega arith)
