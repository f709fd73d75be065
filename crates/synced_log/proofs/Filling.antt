-- A buffer that is filled with the front of a file.
use Rattle.std.proofs.Common.{◌≡◌, ⊎_elim, ℕ, ◌+◌, ◌-◌, ◌<◌, ◌≤◌, List, ◌++◌, length, take, drop, refl, sym, ap, ◌∙◌, arith}
use Rattle.std.specs.Prelude.{Option, None, Some, IfSome}
use Rattle.std.proofs.lemmas.List.{length-take, length-append, length-drop, take_all, take-take, take-append-drop, take_at, drop_at, take-append-le, drop-take}
use borrow.Rule.Slice.PartMut.{put_mid}
use Rattle.craft_edge.specs.Disk.{ReadsAt}

-- the first `at` bytes of the buffer are the file's, where that is told
pub record IsFilled (seen : Option (List ℕ)) (buf : List ℕ) (at : ℕ) : Type 0 where
  pub is : IfSome seen (λ file. length buf ≡ length file → take at buf ≡ take at file)

take_split : (at n : ℕ) (l : List ℕ) → take (at + n) l ≡ take at l ++ take n (drop at l)
take_split at n l = sym (take-append-drop at (take (at + n) l)) ∙ (λ i. take-take at (at + n) l (omega arith) i ++ drop-take at n l i)

pub length_put : (buf new : List ℕ) (at : ℕ) → at ≤ length buf → length new ≡ length buf - at → length (put_mid at (length buf - at) buf new) ≡ length buf
length_put buf new at le size = simp (length-append, length-take, length-drop) (omega (arith, le, size))

take_put : (buf new : List ℕ) (at n : ℕ) → at ≤ length buf → n ≤ length new → take (at + n) (put_mid at (length buf - at) buf new) ≡ take at buf ++ take n new
take_put buf new at n le few =
    let rest = drop (length buf - at) (drop at buf) in
    let front : length (take at buf) ≡ at = omega (arith, length-take at buf, le) in
    take_split at n (take at buf ++ (new ++ rest))
    ∙ (λ i. take_at (take at buf) (new ++ rest) at front i ++ take n (drop_at (take at buf) (new ++ rest) at front i))
    ∙ ap (λ (l : List ℕ). take at buf ++ l) (take-append-le n new rest few)

more : (file buf new : List ℕ) (at n : ℕ) → at ≤ length buf → n ≤ length new → take at buf ≡ take at file → take n new ≡ take n (drop at file)
    → take (at + n) (put_mid at (length buf - at) buf new) ≡ take (at + n) file
more file buf new at n le few front read = take_put buf new at n le few ∙ (λ i. front i ++ read i) ∙ sym (take_split at n file)

pub filled_more : (seen now : Option (List ℕ)) (buf new : List ℕ) (at n : ℕ) → now ≡ seen → at ≤ length buf → length new ≡ length buf - at → n ≤ length new → IsFilled seen buf at
    → IfSome now (λ file. ReadsAt file at n new) → IsFilled seen (put_mid at (length buf - at) buf new) (at + n)
filled_more None now buf new at n same le size few f reads = record { is = tt }
filled_more (Some file) None buf new at n same le size few f reads = absurd cc
filled_more (Some file) (Some other) buf new at n same le size few f reads =
    let is : other ≡ file = cc in
    record { is = λ whole. more file buf new at n le few (f.is (sym (length_put buf new at le size) ∙ whole)) (reads.bytes ∙ ap (λ (l : List ℕ). take n (drop at l)) is) }

pub all_filled : (seen : Option (List ℕ)) (old buf : List ℕ) (at : ℕ) → length buf ≡ length old → IsFilled seen buf at → length buf ≤ at → at ≤ length buf
    → IfSome seen (λ file. length old ≡ length file → (at ≡ length file) × (buf ≡ file))
all_filled None old buf at same f le ge = tt
all_filled (Some file) old buf at same f le ge = λ whole. (
  omega (arith, le, ge, same, whole),
  sym (take_all at buf le) ∙ f.is (same ∙ whole) ∙ take_all at file (omega (arith, le, same, whole)),
)

-- nothing is read only at the end
pub not_at_end : (seen now : Option (List ℕ)) (old buf new : List ℕ) (at : ℕ) → now ≡ seen → length buf ≡ length old → at < length buf → length new ≡ length buf - at
    → IfSome now (λ file. ReadsAt file at 0 new) → (after : List ℕ) → IfSome seen (λ file. length old ≡ length file → (at ≡ length file) × (after ≡ file))
not_at_end None now old buf new at same size lt part reads after = tt
not_at_end (Some file) None old buf new at same size lt part reads after = absurd cc
not_at_end (Some file) (Some other) old buf new at same size lt part reads after = λ whole.
    let is : other ≡ file = cc in
    absurd (⊎_elim (λ past. omega (arith, past, ap length is, lt, size, whole)) (λ none. omega (arith, none, part, lt)) (reads.none.0 refl))
