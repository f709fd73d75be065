-- The records of a body, taken off one by one.
use Rattle.std.proofs.Common.{◌≡◌, ℕ, ◌<◌, ◌≤◌, List, [], ◌∷◌, ◌++◌, length, drop, Result, Ok, Err, refl, sym, ap, ◌∙◌, subst, arith, length-append}
use Rattle.std.specs.Prelude.{IfOk, IfErr}
use Rattle.craft_base.specs.Shape.{Shape}
use Rattle.entry_frames.specs.Bodies.{SpellsAll, NoneFirst, IsFirst}
use Rattle.entry_frames.specs.Durable.{Durable, CanApply, CanApplyAll, applied, after}
use Rattle.entry_frames.specs.Formats.{Taken, Fits, spelling}
use Rattle.entry_frames.specs.RecordViews.{record_of}
use Rattle.entry_frames.specs.Records.{Record, record_fields, record_spellings}
use Rattle.entry_frames.specs.Steps.{ReadsTo}
use Rattle.entry_frames.specs.declared.fault.FrameFault.{FrameFault}
use Rattle.entry_frames.specs.declared.record_view.RecordView.{RecordView}
use Rattle.entry_frames.proofs.Numbers.{ok_is}

-- ---- what a read tells

-- where a record begins the bytes, it is read
abbrev pub ReadsOnly : ℕ → List ℕ → Result (RecordView × ℕ) FrameFault → Type 0
ReadsOnly k bytes result = (r : Record) (rest : List ℕ) → Fits (record_fields k) r → bytes ≡ spelling (record_fields k) r ++ rest
    → ReadsTo (λ x. record_of x.0) (λ x. record { at = x.1; rest = drop x.1 bytes }) result (Ok (record { value = r; cursor = record { at = length (spelling (record_fields k) r); rest = rest } }))

pub read_none : (k : ℕ) (bytes : List ℕ) (result : Result (RecordView × ℕ) FrameFault) → ReadsOnly k bytes result → IfErr result (λ _. NoneFirst k bytes)
read_none k bytes (Ok x) only = tt
read_none k bytes (Err fault) only = λ r rest fits is. let clash = only r rest fits is in absurd cc

spelled_some : (k : ℕ) (r : Record) → 0 < length (spelling (record_fields k) r)
spelled_some k r = omega arith

pub read_first : (k : ℕ) (bytes : List ℕ) (result : Result (RecordView × ℕ) FrameFault) → ReadsOnly k bytes result
    → IfOk result (λ x. Fits (record_fields k) (record_of x.0) × (bytes ≡ spelling (record_fields k) (record_of x.0) ++ drop x.1 bytes)) → IfOk result (λ x. x.1 ≡ length (spelling (record_fields k) (record_of x.0)))
    → IfOk result (λ x. (x.1 ≤ length bytes) × IsFirst k bytes (record_of x.0) (drop x.1 bytes))
read_first k bytes (Err fault) only found len = tt
read_first k bytes (Ok x) only found len =
    let size = length-append (spelling (record_fields k) (record_of x.0)) (drop x.1 bytes) in (
      omega (arith, len, size, ap length found.1),
      record {
        fits = found.0;
        is = found.1;
        shorter = omega (arith, spelled_some k (record_of x.0), size, ap length found.1);
        only = λ other others fits is.
            let same = ok_is _ _ (only other others fits is) in
            (ap (λ (t : Taken Record). t.value) same, ap (λ (t : Taken Record). t.cursor.rest) same);
      },
    )

-- ---- a walk

-- what is in front of a walk over a body, and the state that the records behind it left
pub record Walked (shape : Shape) (d : Durable) (body : List ℕ) (now : Durable) (rest : List ℕ) : Type 0 where
  -- records that the rest is are the last ones of the body's
  pub back : (records : List Record) → SpellsAll shape now rest records → (whole : List Record) × SpellsAll shape d body whole × (after d whole ≡ after now records)
  -- and the other way round
  pub on : (whole : List Record) → SpellsAll shape d body whole → (records : List Record) × SpellsAll shape now rest records × (after d whole ≡ after now records)

pub walk_begins : (shape : Shape) (d : Durable) (body : List ℕ) → Walked shape d body d body
walk_begins shape d body = record { back = λ records s. (records, s, refl); on = λ whole s. (whole, s, refl) }

-- one record more in front
in_front : (shape : Shape) (now : Durable) (rest tail : List ℕ) (r : Record) (records : List Record) → CanApply shape now r → IsFirst shape.need rest r tail → SpellsAll shape (applied now r) tail records
    → SpellsAll shape now rest (r ∷ records)
in_front shape now rest tail r records can first s = record {
  spelled = (first.fits, s.spelled);
  applies = (can, s.applies);
  is = first.is ∙ ap (λ (l : List ℕ). spelling (record_fields shape.need) r ++ l) s.is;
}

-- and one less
behind_front : (shape : Shape) (now : Durable) (rest tail : List ℕ) (r : Record) (whole : List Record) → IsFirst shape.need rest r tail → SpellsAll shape now rest whole
    → (records : List Record) × SpellsAll shape (applied now r) tail records × (after now whole ≡ after (applied now r) records)
behind_front shape now rest tail r [] first s = absurd (omega (arith, first.shorter, ap length s.is))
behind_front shape now rest tail r (other ∷ records) first s =
    let one = first.only other (record_spellings shape.need records) s.spelled.0 s.is in (
      records,
      record {
        spelled = s.spelled.1;
        applies = subst (λ x. CanApplyAll shape (applied now x) records) one.0 s.applies.1;
        is = sym one.1;
      },
      ap (λ (x : Record). after (applied now x) records) one.0,
    )

pub walk_goes_on : (shape : Shape) (d : Durable) (body : List ℕ) (now : Durable) (rest tail : List ℕ) (r : Record) → Walked shape d body now rest → CanApply shape now r → IsFirst shape.need rest r tail
    → Walked shape d body (applied now r) tail
walk_goes_on shape d body now rest tail r walked can first = record {
  back = λ records s. walked.back (r ∷ records) (in_front shape now rest tail r records can first s);
  on = λ whole s.
      let more = walked.on whole s in
      let less = behind_front shape now rest tail r more.0 first more.1 in
      (less.0, less.1, more.2 ∙ less.2);
}

-- at its end the body is the records of the walk
pub walk_ends : (shape : Shape) (d : Durable) (body : List ℕ) (now : Durable) (rest : List ℕ) → Walked shape d body now rest → rest ≡ [] → (records : List Record) × SpellsAll shape d body records × (now ≡ after d records)
walk_ends shape d body now rest walked none = let all = walked.back [] (record { spelled = tt; applies = tt; is = none }) in (all.0, all.1, sym all.2)

spelled_none : (shape : Shape) (now : Durable) (rest : List ℕ) (records : List Record) → rest ≡ [] → SpellsAll shape now rest records → after now records ≡ now
spelled_none shape now rest [] none s = refl
spelled_none shape now rest (r ∷ records) none s =
    absurd (omega (arith, ap length (sym none ∙ s.is), length-append (spelling (record_fields shape.need) r) (record_spellings shape.need records), spelled_some shape.need r))

-- and every list of records that the body is leaves that state
pub walk_leaves : (shape : Shape) (d : Durable) (body : List ℕ) (now : Durable) (rest : List ℕ) (whole : List Record) → Walked shape d body now rest → rest ≡ [] → SpellsAll shape d body whole → now ≡ after d whole
walk_leaves shape d body now rest whole walked none s = let more = walked.on whole s in sym (more.2 ∙ spelled_none shape now rest more.0 none more.1)

-- where no record that can be applied is next, the body isn't records that can be
pub walk_stuck : (shape : Shape) (d : Durable) (body : List ℕ) (now : Durable) (rest : List ℕ) → Walked shape d body now rest → 0 < length rest
    → ((r : Record) (tail : List ℕ) → Fits (record_fields shape.need) r → rest ≡ spelling (record_fields shape.need) r ++ tail → CanApply shape now r → ⊥) → (whole : List Record) → SpellsAll shape d body whole → ⊥
walk_stuck shape d body now rest walked some none whole s = let more = walked.on whole s in at more.0 more.1
  where
    at : (records : List Record) → SpellsAll shape now rest records → ⊥
    at [] s = absurd (omega (arith, some, ap length s.is))
    at (r ∷ records) s = none r (record_spellings shape.need records) s.spelled.0 s.is s.applies.0

-- the next record of a body whose records can be applied can be
pub can_apply_next : (shape : Shape) (now : Durable) (rest tail : List ℕ) (r : Record) (records : List Record) → IsFirst shape.need rest r tail → SpellsAll shape now rest records → CanApply shape now r
can_apply_next shape now rest tail r [] first s = absurd (omega (arith, first.shorter, ap length s.is))
can_apply_next shape now rest tail r (other ∷ records) first s = subst (CanApply shape now) (first.only other (record_spellings shape.need records) s.spelled.0 s.is).0 s.applies.0
