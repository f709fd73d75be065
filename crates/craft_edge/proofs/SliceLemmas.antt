-- The part of a slice from a place on.
use Rattle.std.proofs.Common.{◌≡◌, ℕ, ◌-◌, List, length, take, drop, sym, ap, ◌∙◌, length-drop}
use Rattle.std.proofs.Math.Seq.{take-length}

-- as a slice gives it
abbrev pub rest_from : List ℕ → ℕ → List ℕ
rest_from bytes at = take (length bytes - at) (drop at bytes)

pub rest_is : (bytes : List ℕ) (at : ℕ) → rest_from bytes at ≡ drop at bytes
rest_is bytes at = ap (λ n. take n (drop at bytes)) (sym (length-drop at bytes)) ∙ take-length (drop at bytes)
