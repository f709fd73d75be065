-- What several writes of one text take of it.
use Rattle.std.proofs.Common.{◌≡◌, ℕ, ◌+◌, ◌-◌, ◌≤◌, List, ◌++◌, length, take, sym, ap, ◌∙◌, subst, arith, length-drop}
use Rattle.std.proofs.Math.Seq.{take-add}
use Rattle.std.specs.Prelude.{Option}
use Rattle.std.proofs.KnownBytes.{Appends-trans}
use Rattle.std.specs.Io.KnownBytes.{Appends}
use Rattle.craft_edge.specs.Bytes.{AppendsPrefix}
use Rattle.craft_edge.proofs.SliceLemmas.{rest_from, rest_is}

-- the bytes before a place, and then n bytes from that place on
pub Appends-next : (a b c : Option (List ℕ)) (bytes : List ℕ) (at n : ℕ) → Appends a b (take at bytes) → Appends b c (take n (rest_from bytes at))
    → Appends a c (take (at + n) bytes)
Appends-next a b c bytes at n first second =
    let joined : take at bytes ++ take n (rest_from bytes at) ≡ take (at + n) bytes =
    ap (λ rest. take at bytes ++ take n rest) (rest_is bytes at) ∙ sym (take-add at n bytes) in
    subst (Appends a c) joined (Appends-trans a b c (take at bytes) (take n (rest_from bytes at)) first second)

-- the bytes before a place, and then a first part of those from that place on
pub AppendsPrefix-next : (a b c : Option (List ℕ)) (bytes : List ℕ) (at : ℕ) → at ≤ length bytes → Appends a b (take at bytes)
    → AppendsPrefix b c (rest_from bytes at) → AppendsPrefix a c bytes
AppendsPrefix-next a b c bytes at within first second =
    let size : length (rest_from bytes at) ≡ length bytes - at = ap length (rest_is bytes at) ∙ length-drop at bytes in
    (at + second.0, omega (arith, within, second.1, size), Appends-next a b c bytes at second.0 first second.2)
