-- Records of a body that are applied one by one to an outline.
use Rattle.std.proofs.Common.{◌≡◌, ℕ, ◌<◌, true, false, List, [], ◌++◌, length, sym, ap, ◌∙◌, subst}
use Rattle.craft_base.specs.Shape.{Shape}
use Rattle.entry_frames.specs.Bodies.{IsFirst, SpellsAll}
use Rattle.entry_frames.specs.Durable.{Durable, CanApply, applied}
use Rattle.entry_frames.specs.Formats.{Fits, spelling}
use Rattle.entry_frames.specs.Records.{Record, record_fields}
use Rattle.entry_frames.proofs.Bodies.{Walked, walk_begins, walk_ends, walk_goes_on, walk_stuck}
use Rattle.synced_log.specs.Outlines.{Outline, outline_of, can_apply, outline_after}
use Rattle.synced_log.specs.Walks.{AppliesOne, AppliesRecords}
use Rattle.synced_log.proofs.Outlines.{can_be_applied, can_apply_it, outlined}

-- how far a walk over a body came, and the outline of the state there
pub record Going (shape : Shape) (d : Durable) (body : List ℕ) (outline : Outline) (rest : List ℕ) : Type 0 where
  pub now : Durable
  pub is : outline ≡ outline_of now
  pub walked : Walked shape d body now rest

pub begins : (shape : Shape) (d : Durable) (body : List ℕ) (outline : Outline) → outline ≡ outline_of d → Going shape d body outline body
begins shape d body outline is = record { now = d; is = is; walked = walk_begins shape d body }

pub goes_on : (shape : Shape) (d : Durable) (body : List ℕ) (outline new : Outline) (rest tail : List ℕ) (r : Record) → Going shape d body outline rest → IsFirst shape.need rest r tail → AppliesOne shape outline r true new
    → Going shape d body new tail
goes_on shape d body outline new rest tail r going first applies =
    let can : CanApply shape going.now r = can_be_applied shape going.now r (subst (λ s. can_apply shape s r ≡ true) going.is applies.0) in
    record {
      now = applied going.now r;
      is = applies.1 ∙ ap (λ s. outline_after s r) going.is ∙ outlined going.now r;
      walked = walk_goes_on shape d body going.now rest tail r going.walked can first;
    }

pub ended : (shape : Shape) (d : Durable) (body : List ℕ) (outline : Outline) (rest : List ℕ) → Going shape d body outline rest → rest ≡ [] → AppliesRecords shape d body outline
ended shape d body outline rest going none =
    let all = walk_ends shape d body going.now rest going.walked none in
    record { records = all.0; spells = all.1; leaves = going.is ∙ ap outline_of all.2 }

-- no record stands there
pub stuck : (shape : Shape) (d : Durable) (body : List ℕ) (outline : Outline) (rest : List ℕ) → Going shape d body outline rest → 0 < length rest
    → ((r : Record) (tail : List ℕ) → Fits (record_fields shape.need) r → rest ≡ spelling (record_fields shape.need) r ++ tail → ⊥) → (whole : List Record) → SpellsAll shape d body whole → ⊥
stuck shape d body outline rest going some none whole s = walk_stuck shape d body going.now rest going.walked some (λ r tail fits is can. none r tail fits is) whole s

-- the one that stands there can't be applied
pub refused : (shape : Shape) (d : Durable) (body : List ℕ) (outline new : Outline) (rest tail : List ℕ) (r : Record) → Going shape d body outline rest → 0 < length rest → IsFirst shape.need rest r tail → AppliesOne shape outline r false new
    → (whole : List Record) → SpellsAll shape d body whole → ⊥
refused shape d body outline new rest tail r going some first cant whole s =
    walk_stuck shape d body going.now rest going.walked some
    (λ other others fits is can.
    let one : other ≡ r = (first.only other others fits is).0 in
    let told : can_apply shape outline r ≡ true = subst (λ x. can_apply shape x r ≡ true) (sym going.is) (can_apply_it shape going.now r (subst (CanApply shape going.now) one can)) in
    let clash : true ≡ false = sym told ∙ cant in
    absurd cc)
    whole s
