-- The records of which acts are made have spellings.
use Rattle.std.proofs.Common.{◌≡◌, ℕ, ◌-◌, ◌^◌, ◌<◌, ◌≤◌, Option, None, Some, List, [], ◌∷◌, ◌++◌, length, refl, ap, arith, if◌then◌else◌}
use Rattle.std.proofs.lemmas.Bool.{ne_eqb}
use Rattle.craft_base.specs.Shape.{Shape, IsShape, members_of}
use Rattle.craft_base.specs.declared.command.Entry.{Entry}
use Rattle.entry_frames.specs.Bodies.{HaveSpellings}
use Rattle.entry_frames.specs.Entries.{entry_fields}
use Rattle.entry_frames.specs.Formats.{Fits, Value, U8, U32, U64}
use Rattle.entry_frames.specs.Limits.{greatest, last_place, longest_value}
use Rattle.entry_frames.specs.Records.{Record, Term, Add, Cut, Whole, Commit, added, record_fields}
use Rattle.entry_frames.specs.Replies.{member_with}
use Rattle.entry_frames.proofs.Formats.{embed_fits}
use Rattle.world_model.specs.Ranges.{IsMember}
use Rattle.world_model.proofs.Frames.{fits_within}

pub spelled-append : (k : ℕ) (records more : List Record) → HaveSpellings k records → HaveSpellings k more → HaveSpellings k (records ++ more)
spelled-append k [] more first next = next
spelled-append k (r ∷ records) more first next = (first.0, spelled-append k records more first.1 next)

-- ---- a term

member_again : (member : ℕ) → member < 255 → member_with member ≡ Some member
member_again member small = ap (λ b. if b then None else Some member) (ne_eqb member 255 (omega (arith, small)))

-- a vote that is nobody's or a member's
abbrev pub IsVote : Shape → Option ℕ → Type 0
IsVote shape None = Unit {0}
IsVote shape (Some member) = IsMember shape member

pub term_fits : (shape : Shape) → IsShape shape → (term : ℕ) (vote : Option ℕ) → term ≤ greatest → IsVote shape vote → Fits (record_fields shape.need) (Term term vote)
term_fits shape is term None most vote = ((omega arith, refl), (fits_within U64 0 (2 ^ 64 - 1) term (omega (arith, most)) (omega arith) (omega (arith, most)), ((omega arith, refl), refl)))
term_fits shape is term (Some member) most vote =
    let low : member < members_of shape = vote in
    let small : member < 255 = omega (arith, low, is.1) in (
      (omega arith, refl),
      (
        fits_within U64 0 (2 ^ 64 - 1) term (omega (arith, most)) (omega arith) (omega (arith, most)),
        (fits_within U8 0 255 member (omega (arith, small)) (omega arith) (omega (arith, small)), ap (λ v. Term term v) (member_again member small)),
      ),
    )

-- ---- the log

pub add_fits : (k : ℕ) (entry : Entry) → Fits (entry_fields k) entry → Fits (record_fields k) (Add entry)
add_fits k entry fits = ((omega arith, refl), embed_fits (entry_fields k) added (λ e. Value (Add e)) (Add entry) fits refl)

pub cut_fits : (k index : ℕ) → 1 ≤ index → index ≤ last_place → Fits (record_fields k) (Cut index)
cut_fits k index low high = ((omega arith, refl), (fits_within U64 1 last_place index (omega (arith, high)) low high, refl))

pub commit_fits : (k index : ℕ) → 1 ≤ index → index ≤ last_place → Fits (record_fields k) (Commit index)
commit_fits k index low high = ((omega arith, refl), (fits_within U64 1 last_place index (omega (arith, high)) low high, refl))

pub whole_fits :
    (k index : ℕ) (bytes : List ℕ) → 1 ≤ index → index ≤ last_place → 1 ≤ length bytes → length bytes ≤ longest_value → Fits (record_fields k) (Whole index bytes)
whole_fits k index bytes low high some short = (
  (omega arith, refl),
  (fits_within U64 1 last_place index (omega (arith, high)) low high, (fits_within U32 1 longest_value (length bytes) (omega (arith, short)) some short, (refl, refl))),
)
