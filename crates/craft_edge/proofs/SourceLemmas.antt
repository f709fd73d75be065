-- What a source in memory gives.
use Rattle.std.proofs.Common.{◌≡◌, ℕ, ◌+◌, ◌<◌, ◌≤◌, List, [], ◌++◌, length, take, drop, sym, ap, ◌∙◌, arith, length-append, length-drop}
use Rattle.std.proofs.lemmas.List.{take-append-drop, take_at, drop-drop, length-take-le}
use Rattle.std.proofs.Math.Seq.{drop-nil}

-- The front of the buffer holds the next bytes, and the rest of them is still to come; with room none come only at the end.
pub read_gives : (left bytes front buf : List ℕ) (at count : ℕ) → left ≡ drop at bytes → front ≡ take count left → count ≤ length left → count ≤ length buf
    → (count ≡ 0 → 0 < length buf → left ≡ [])
    → (left ≡ take count (front ++ drop count buf) ++ drop (at + count) bytes)
    × (count ≡ 0 → 0 < length (front ++ drop count buf) → drop (at + count) bytes ≡ [])
read_gives left bytes front buf at count is_left is_front within room end =
    let size : length front ≡ count = ap length is_front ∙ length-take-le count left within in
    let shown : take count (front ++ drop count buf) ≡ take count left = take_at front (drop count buf) count size ∙ is_front in
    let rest : drop (at + count) bytes ≡ drop count left = sym (ap (drop count) is_left ∙ drop-drop count at bytes) in
    let full : length (front ++ drop count buf) ≡ length buf =
    length-append front (drop count buf) ∙ omega (arith, size, length-drop count buf, room) in (
      sym (ap (λ xs. xs ++ drop (at + count) bytes) shown ∙ ap (λ xs. take count left ++ xs) rest ∙ take-append-drop count left),
      λ none some. rest ∙ ap (drop count) (end none (omega (arith, full, some))) ∙ drop-nil count,
    )
