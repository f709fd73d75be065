-- A group that was closed is the group of its body.
use Rattle.std.proofs.Common.{◌≡◌, ℕ, ◌+◌, ◌-◌, ◌≤◌, List, [], ◌∷◌, ◌++◌, length, take, drop, refl, sym, ap, ◌∙◌, append_assoc, arith}
use Rattle.std.specs.Int.{w64, to_be_bytes}
use Rattle.std.proofs.lemmas.List.{length-append, length-drop, take_at, drop_at, drop-append-le}
use Rattle.entry_frames.specs.Records.{group_bytes, body_within, IsGroup}

group_length : (body : List ℕ) → length (group_bytes body) ≡ 9 + length body
group_length body = omega (arith, length-append body (0 ∷ []))

pub within_group : (body : List ℕ) → body_within (group_bytes body) ≡ body
within_group body =
    let len = to_be_bytes w64 (length body) in
    let front : take (length (group_bytes body) - 1) (group_bytes body) ≡ len ++ body
    = ap (take (length (group_bytes body) - 1)) (sym (append_assoc len body (0 ∷ [])))
    ∙ take_at (len ++ body) (0 ∷ []) (length (group_bytes body) - 1) (omega (arith, group_length body)) in
    ap (drop 8) front ∙ drop_at len body 8 refl

pub is_group : (body : List ℕ) → IsGroup (group_bytes body)
is_group body = record { long = omega (arith, group_length body); is = ap group_bytes (sym (within_group body)) }

-- the length was written over the first bytes, and a closed gate added
pub closed : (inside pushed written : List ℕ) (len : ℕ) → 8 ≤ length inside → pushed ≡ inside ++ 0 ∷ [] → written ≡ to_be_bytes w64 (length inside - 8) ++ drop 8 pushed
    → len ≡ length pushed → take len (written ++ drop (length written) pushed) ≡ group_bytes (drop 8 inside)
closed inside pushed written len long pushed_is written_is len_is =
    let behind : drop 8 pushed ≡ drop 8 inside ++ 0 ∷ [] = ap (drop 8) pushed_is ∙ drop-append-le 8 inside (0 ∷ []) long in
    let body_len : length inside - 8 ≡ length (drop 8 inside) = sym (length-drop 8 inside) in
    let is : written ≡ group_bytes (drop 8 inside) = written_is ∙ ap (λ (b : List ℕ). to_be_bytes w64 (length inside - 8) ++ b) behind ∙ ap (λ (n : ℕ). to_be_bytes w64 n ++ (drop 8 inside ++ 0 ∷ [])) body_len in
    let same : length written ≡ length pushed = omega (arith, ap length is, group_length (drop 8 inside), ap length pushed_is, length-append inside (0 ∷ []), length-drop 8 inside) in
    take_at written (drop (length written) pushed) len (omega arith) ∙ is
