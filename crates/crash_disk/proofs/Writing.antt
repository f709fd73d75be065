-- A write grows the file and copies over a part of it.
use Rattle.std.proofs.Common.{◌≡◌, ◌⊎◌, ℕ, ◌+◌, ◌-◌, ◌<◌, ◌≤◌, List, [], ◌∷◌, ◌++◌, length, take, drop, replicate, sym, ap, ◌∙◌, arith, inl, inr, length-append}
use Rattle.std.proofs.lemmas.List.{length-replicate, take-append-le, drop_all, take_all, append-nil, take_at, take-replicate}
use Rattle.std.proofs.lemmas.Bool.{cases_lt}
use Rattle.std.proofs.Math.Seq.{take-append-add}
use Rattle.craft_edge.specs.Disk.{written}

front_case : (old : List ℕ) (at m : ℕ) → at - length old ≤ m → (length old < at) ⊎ (at ≤ length old) → take at (old ++ replicate m 0) ≡ take at old ++ replicate (at - length old) 0
front_case old at m le (inr within) =
    let none : 0 ≡ at - length old = omega (arith, within) in
    take-append-le at old (replicate m 0) within ∙ sym (append-nil (take at old)) ∙ ap (λ (k : ℕ). take at old ++ replicate k 0) none
front_case old at m le (inl past) =
    let reach : at ≡ length old + (at - length old) = omega (arith, past) in
    ap (λ (k : ℕ). take k (old ++ replicate m 0)) reach ∙ take-append-add old (replicate m 0) (at - length old)
    ∙ ap (λ (xs : List ℕ). old ++ xs) (take-replicate (at - length old) m 0 le)
    ∙ ap (λ (xs : List ℕ). xs ++ replicate (at - length old) 0) (sym (take_all at old (omega (arith, past))))

back_case : (old : List ℕ) (end : ℕ) → (length old < end) ⊎ (end ≤ length old) → drop end (old ++ replicate (end - length old) 0) ≡ drop end old
back_case old end (inr within) =
    let none : end - length old ≡ 0 = omega (arith, within) in
    ap (λ (k : ℕ). drop end (old ++ replicate k 0)) none ∙ ap (drop end) (append-nil old)
back_case old end (inl past) =
    drop_all end (old ++ replicate (end - length old) 0) (simp (length-append, length-replicate) (omega (arith, past))) ∙ sym (drop_all end old (omega (arith, past)))

-- the file after a write of some bytes
pub overwritten : (old : List ℕ) (at : ℕ) (new grown copied : List ℕ) → 0 < length new → grown ≡ old ++ replicate (at + length new - length old) 0
    → copied ≡ take at grown ++ new ++ drop (at + length new) grown → copied ≡ written old at new
overwritten old at [] grown copied some is_grown is_copied = absurd (omega (arith, some))
overwritten old at (b ∷ bs) grown copied some is_grown is_copied =
    let m : ℕ = at + length (b ∷ bs) - length old in
    is_copied ∙ ap (λ (xs : List ℕ). take at xs ++ (b ∷ bs) ++ drop (at + length (b ∷ bs)) xs) is_grown
    ∙ ap (λ (xs : List ℕ). xs ++ (b ∷ bs) ++ drop (at + length (b ∷ bs)) (old ++ replicate m 0)) (front_case old at m (omega arith) (cases_lt (length old) at))
    ∙ ap (λ (xs : List ℕ). take at old ++ replicate (at - length old) 0 ++ (b ∷ bs) ++ xs) (back_case old (at + length (b ∷ bs)) (cases_lt (length old) (at + length (b ∷ bs))))

-- a vector after all of it was changed as a slice
pub whole_slice : (items copied : List ℕ) (len : ℕ) → len ≡ length items → length copied ≡ length items → take len (copied ++ drop (length copied) items) ≡ copied
whole_slice items copied len is_len same = take_at copied (drop (length copied) items) len (same ∙ sym is_len)
