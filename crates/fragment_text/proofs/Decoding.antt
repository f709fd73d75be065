-- Digits that are decoded.
use Rattle.std.proofs.Common.{◌≡◌, ℕ, ◌<◌, ◌≢◌, List, cond, Bool, false, sym, ap, ◌∙◌, subst, arith, Option, None, Some, Result, Ok, Err}
use Rattle.std.specs.Prelude.{MatchResult, is_ok, codes, [], if◌then◌else◌}
use Rattle.std.specs.Char.{is_ascii_uppercase}
use Rattle.std.specs.List.{list_any}
use Rattle.std.specs.Str.{bytes_eq}
use Rattle.std.proofs.lemmas.Bool.{ne_eqb}
use Rattle.hex.specs.Hex.{decode_sized}
use Rattle.hex.specs.declared.error.FromHexError.{FromHexError}
use Rattle.fragment_text.specs.Said.{bytes_of, if_decoded}
use Rattle.fragment_text.specs.Kept.{Decodes}

by_result : (out : List ℕ) (decoded : Result (List ℕ) FromHexError) (result : Result (Unit {0}) FromHexError) (good : Bool)
    → MatchResult decoded (λ bytes. (result ≡ Ok tt) × (out ≡ bytes)) (λ e. result ≡ Err e) → good ≡ is_ok result → Decodes out (if_decoded decoded) good
by_result out (Ok bytes) result good is is_good = subst (Decodes out (Some bytes)) (sym (is_good ∙ ap is_ok is.0)) is.1
by_result out (Err e) result good is is_good = subst (Decodes out None) (sym (is_good ∙ ap is_ok is)) tt

-- lower case digits of some bytes are read by the decoder
pub decoded : (size : ℕ) (digits out : List ℕ) (result : Result (Unit {0}) FromHexError) (good : Bool) → 0 < size → list_any is_ascii_uppercase digits ≡ false
    → MatchResult (decode_sized digits size) (λ bytes. (result ≡ Ok tt) × (out ≡ bytes)) (λ e. result ≡ Err e) → good ≡ is_ok result → Decodes out (bytes_of size digits) good
decoded size digits out result good some lower is is_good =
    let ne : size ≢ 0 = omega arith in
    let none : Option (List ℕ) = if bytes_eq digits (codes "-") then Some [] else None in
    let same : bytes_of size digits ≡ if_decoded (decode_sized digits size) =
    ap (λ test. cond test none (cond (list_any is_ascii_uppercase digits) None (if_decoded (decode_sized digits size)))) (ne_eqb size 0 ne)
    ∙ ap (λ test. cond test None (if_decoded (decode_sized digits size))) lower in
    subst (λ bytes. Decodes out bytes good) (sym same) (by_result out (decode_sized digits size) result good is is_good)
