-- A frame that is all of some bytes.
use Rattle.std.proofs.Common.{◌≡◌, ℕ, ◌<◌, Bool, true, false, cond, List, [], ◌++◌, length, Result, Ok, Err, refl, sym, ap, subst, ◌∙◌, arith}
use Rattle.std.specs.Prelude.{IfOk, nat_lt}
use Rattle.std.proofs.lemmas.Bool.{ltb-false, lt-ltb, le-ltb}
use Rattle.std.proofs.lemmas.List.{append-nil, nil_from_length}
use Rattle.craft_base.specs.Shape.{Shape}
use Rattle.entry_frames.specs.declared.fault.FrameFault.{FrameFault}
use Rattle.entry_frames.specs.declared.fault.FrameFault.TheVariants.{Bad}
use Rattle.entry_frames.specs.Formats.{AreBytes, Format, Cursor, Taken, ◌>>=◌, Fits, spelling, reading, reading_all, without_rest, front_of}
use Rattle.entry_frames.specs.MessageFields.{frame_fields}
use Rattle.entry_frames.specs.declared.message.Message.{Message}
use Rattle.entry_frames.specs.Steps.{ReadsAll}
use Rattle.entry_frames.proofs.Formats.{reads_spelling, front_reads_again}
use Rattle.entry_frames.proofs.Numbers.{bind_ok}
use Rattle.peer_frames.proofs.Frames.{frame_faithful}

pub ends_whole : (format : Format Message) (bytes : List ℕ) (f : Message) (cursor : Cursor) → reading format (front_of bytes) ≡ Ok (record { value = f; cursor = cursor }) → length cursor.rest ≡ 0
    → reading_all format bytes ≡ Ok f
ends_whole format bytes f cursor e empty =
    ap (λ (r : Result (Taken Message) FrameFault). r >>= without_rest) e ∙ rw (le-ltb 0 (length cursor.rest) (omega arith)) refl

pub ends_early : (format : Format Message) (bytes : List ℕ) (f : Message) (cursor : Cursor) → reading format (front_of bytes) ≡ Ok (record { value = f; cursor = cursor }) → 0 < length cursor.rest
    → reading_all format bytes ≡ Err (Bad cursor.at)
ends_early format bytes f cursor e more =
    ap (λ (r : Result (Taken Message) FrameFault). r >>= without_rest) e ∙ rw (lt-ltb 0 (length cursor.rest) more) refl

pub ends_failed : (format : Format Message) (bytes : List ℕ) (fault : FrameFault) → reading format (front_of bytes) ≡ Err fault → reading_all format bytes ≡ Err fault
ends_failed format bytes fault e = ap (λ (r : Result (Taken Message) FrameFault). r >>= without_rest) e

no_rest : (t : Taken Message) (f : Message) (b : Bool) → nat_lt 0 (length t.cursor.rest) ≡ b → cond b (Err (Bad t.cursor.at)) (Ok t.value) ≡ Ok f → (t.cursor.rest ≡ []) × (t.value ≡ f)
no_rest t f true is e = absurd cc
no_rest t f false is e = (nil_from_length t.cursor.rest (omega (arith, ltb-false 0 (length t.cursor.rest) is)), cc)

pub all_spelled : (shape : Shape) (bytes : List ℕ) (f : Message) → AreBytes bytes → reading_all (frame_fields shape) bytes ≡ Ok f
    → Fits (frame_fields shape) f × (bytes ≡ spelling (frame_fields shape) f)
all_spelled shape bytes f are e =
    let format = frame_fields shape in
    let b = bind_ok (reading format (front_of bytes)) without_rest f e in
    let read = (reads_spelling format (λ x. Unit {0}) (front_of bytes) b.0 are (frame_faithful shape) b.1).1 in
    let n = no_rest b.0 f (nat_lt 0 (length b.0.cursor.rest)) refl b.2 in
    let whole : bytes ≡ spelling format b.0.value = read.takes.split ∙ ap (λ (r : List ℕ). spelling format b.0.value ++ r) n.0 ∙ append-nil (spelling format b.0.value) in
    subst (λ (x : Message). Fits format x × (bytes ≡ spelling format x)) n.1 (read.fits, whole)

pub all_found : {X : Type 0} (shape : Shape) (bytes : List ℕ) (view : X → Message) (result : Result X FrameFault) → AreBytes bytes
    → ReadsAll view result (reading_all (frame_fields shape) bytes) → IfOk result (λ x. Fits (frame_fields shape) (view x) × (bytes ≡ spelling (frame_fields shape) (view x)))
all_found shape bytes view (Ok x) are e = all_spelled shape bytes (view x) are e
all_found shape bytes view (Err fault) are e = tt

pub all_again : (shape : Shape) (bytes : List ℕ) (f : Message) → Fits (frame_fields shape) f → bytes ≡ spelling (frame_fields shape) f → reading_all (frame_fields shape) bytes ≡ Ok f
all_again shape bytes f fits is =
    let format = frame_fields shape in
    ap (λ (r : Result (Taken Message) FrameFault). r >>= without_rest) (front_reads_again format f bytes [] fits (is ∙ sym (append-nil (spelling format f))))
