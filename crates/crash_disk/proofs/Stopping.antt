-- Which call a stop makes the last one, and which byte a write at or before it leaves at its offset.
use Rattle.std.proofs.Common.{◌≡◌, ℕ, ◌+◌, ◌-◌, ◌<◌, ◌≤◌, List, [], ◌∷◌, ◌++◌, length, take, drop, replicate, get_or, ap, ◌∙◌, subst, arith, append_assoc, length-append}
use Rattle.std.specs.Prelude.{Bool, true, false, Some, Option, leb, if◌then◌else◌}
use Rattle.std.proofs.lemmas.Bool.Decides.{nat_tests}
use Rattle.std.proofs.lemmas.List.{get_or_at, length-take, length-replicate}
use Rattle.craft_edge.specs.Disk.{written}
use Rattle.craft_edge.specs.DiskCalls.{DiskWork, DiskCall, StopOrder}
use Rattle.craft_edge.specs.DiskModel.{DiskState, after_write}
use Rattle.craft_edge.proofs.DiskLaws.{length-written_some}
use Rattle.crash_disk.specs.Image.{is_in, crash_image}
use Rattle.crash_disk.specs.Replay.{FailAsTold, after_calls}
use Rattle.crash_disk.specs.Stopped.{made_well, stopped_byte}
use Rattle.crash_disk.proofs.Spoiling.{get_or-spoiled_where}

-- ---- some calls, and then others

pub fail_as_told-behind : (fail : List ℕ) (stop : Option StopOrder) (number : ℕ) (first second : List DiskCall) → FailAsTold fail stop number (first ++ second) → FailAsTold fail stop (number + length first) second
fail_as_told-behind fail stop number [] second told = subst (λ (n : ℕ). FailAsTold fail stop n second) (omega arith) told
fail_as_told-behind fail stop number (call ∷ first) second told =
    subst (λ (n : ℕ). FailAsTold fail stop n second) (omega arith) (fail_as_told-behind fail stop (number + 1) first second told.1)

pub after_calls-append : (stop : Option StopOrder) (number : ℕ) (disk : DiskState) (first second : List DiskCall)
    → after_calls stop number disk (first ++ second) ≡ after_calls stop (number + length first) (after_calls stop number disk first) second
after_calls-append stop number disk [] second = ap (λ (n : ℕ). after_calls stop n disk second) (plus_none number)
  where
    plus_none : (n : ℕ) → n ≡ n + 0
    plus_none n = omega arith
after_calls-append stop number disk (call ∷ first) second =
    let next = after_calls stop number disk (call ∷ []) in
    let same : number + 1 + length first ≡ number + length (call ∷ first) = omega arith in
    after_calls-append stop (number + 1) next first second ∙ ap (λ (n : ℕ). after_calls stop n (after_calls stop (number + 1) next first) second) same

-- ---- the call that fails is the one that the stop names

reached : (m number : ℕ) → number ≤ m → true ≡ leb m number → number ≡ m
reached m number le is = grind (arith, nat_tests)

not_yet : (m number : ℕ) → false ≡ leb m number → number + 1 ≤ m
not_yet m number is = grind (arith, nat_tests)

pub fails_where_stopped : (stop : StopOrder) (number : ℕ) (made : List DiskWork) (failed : DiskWork) → number ≤ stop.made_before + stop.call
    → FailAsTold [] (Some stop) number (made_well made ++ record { work = failed; failed = true } ∷ []) → number + length made ≡ stop.made_before + stop.call
fails_where_stopped stop number [] failed le told = omega (arith, reached (stop.made_before + stop.call) number le told.0)
fails_where_stopped stop number (w ∷ made) failed le told =
    omega (arith, fails_where_stopped stop (number + 1) made failed (not_yet (stop.made_before + stop.call) number told.0) told.1)

-- ---- the byte

byte_written : (old : List ℕ) (at byte : ℕ) → get_or (written old at (byte ∷ [])) at 0 ≡ byte
byte_written old at byte =
    let zero : ℕ = 0 in
    ap (λ (l : List ℕ). get_or l at zero) (append_assoc (take at old ++ replicate (at - length old) zero) (byte ∷ []) (drop (at + 1) old))
    ∙ get_or_at (take at old ++ replicate (at - length old) zero) byte (drop (at + 1) old) zero at
    (omega (arith, length-append (take at old) (replicate (at - length old) zero), length-take at old, length-replicate {A = ℕ} (at - length old) zero))

pending_there : (at : ℕ) (disk : DiskState) (byte : ℕ) → is_in (after_write disk at (byte ∷ []) (written disk.bytes at (byte ∷ []))).pending at ≡ true
pending_there at disk byte = grind (arith, nat_tests)

pub byte_left : (stop : StopOrder) (disk : DiskState) (at byte : ℕ) → get_or (crash_image (Some stop) (after_write disk at (byte ∷ []) (written disk.bytes at (byte ∷ [])))) at 0 ≡ stopped_byte stop.keep byte
byte_left stop disk at byte = by_keep stop.keep
  where
    by_keep : (keep : Bool) → get_or (crash_image (Some (record stop { keep = keep })) (after_write disk at (byte ∷ []) (written disk.bytes at (byte ∷ [])))) at 0 ≡ stopped_byte keep byte
    by_keep true = byte_written disk.bytes at byte
    by_keep false =
        let there : at < length (written disk.bytes at (byte ∷ [])) = omega (arith, length-written_some disk.bytes at byte []) in
        get_or-spoiled_where (is_in (after_write disk at (byte ∷ []) (written disk.bytes at (byte ∷ []))).pending) 0 at at (written disk.bytes at (byte ∷ [])) there (omega arith)
        ∙ ap (λ (b : Bool). if b then 255 - get_or (written disk.bytes at (byte ∷ [])) at 0 else get_or (written disk.bytes at (byte ∷ [])) at 0) (pending_there at disk byte)
        ∙ ap (λ (n : ℕ). 255 - n) (byte_written disk.bytes at byte)
