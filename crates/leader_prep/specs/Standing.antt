-- When what is kept stands for the pages of a preparation.
use Rattle.std.specs.Prelude.{◌≡◌, ◌≤◌, ℕ, List, [], ◌∷◌, length, Bool, true, false, ◌||◌, ◌==◌, nat_lt, min, Option, None, Some, is_none, is_some, slice_index_or}
use Rattle.craft_base.specs.Shape.{Shape}
use Rattle.craft_base.specs.declared.command.Entry.{Entry}
use Rattle.leader_prep.specs.Changes.{AreNear}
use Rattle.leader_prep.specs.Decisions.{Decision, OpenPart, Rebuilt}
use Rattle.leader_prep.specs.Keeping.{slot_at}
use Rattle.leader_prep.specs.Pages.{Page, covers, is_shown, joined, latest_slot}
use Rattle.leader_prep.specs.Verdicts.{IsValue, Verdict, Wait, Rebuild, Cut, is_covered, verdict}
use Rattle.leader_prep.specs.declared.prep.Prep.{Prep}
use Rattle.leader_prep.specs.declared.verdicts.Verdict as code
use Rattle.leader_prep.specs.declared.verdicts.Verdict.TheVariants as codes
use Rattle.leader_prep.specs.declared.verdicts.Verdicts.{Verdicts}

-- ---- what is kept

-- whether an index lies past the end of a log, where this is known
abbrev pub is_past : Option ℕ → ℕ → Bool
is_past None index = false
is_past (Some last) index = nat_lt last index

-- the lesser of two ends, where there are two
abbrev pub least_of : Option ℕ → Option ℕ → Option ℕ
least_of None other = other
least_of (Some n) None = Some n
least_of (Some n) (Some m) = Some (min n m)

abbrev pub kept_slot : Prep → (index member : ℕ) → Option Entry
kept_slot prep index member = slot_at prep.slots.places member index

-- whether a member is known to have shown what it holds at an index
abbrev pub kept_shown : Prep → (index member : ℕ) → Bool
kept_shown prep index member = is_some (kept_slot prep index member) || is_past (slice_index_or prep.ends member None) index

abbrev pub kept_covers : Prep → (index member : ℕ) → Bool
kept_covers prep index member = (member == prep.me) || kept_shown prep index member

abbrev pub kept_verdict : Prep → OpenPart → Verdict
kept_verdict prep part = verdict prep.shape prep.me part.entry (kept_shown prep part.index) (kept_slot prep part.index)

-- ---- what it stands for

-- at an index it tells of each member whether its pages cover it, and which slot is the latest
pub record TellsAt (prep : Prep) (pages : List Page) (index : ℕ) : Type 0 where
  pub shown : (member : ℕ) → kept_shown prep index member ≡ is_shown member pages index
  pub slot : (member : ℕ) → kept_slot prep index member ≡ latest_slot member pages index

-- it tells so at each index from the cursor on
abbrev pub Tells : Prep → List Page → Option ℕ → Type 0
Tells prep pages None = Unit {0}
Tells prep pages (Some cursor) = (index : ℕ) → cursor ≤ index → TellsAt prep pages index

-- what is kept is near the cursor
abbrev pub IsNear : Prep → Option ℕ → Type 0
IsNear prep None = Unit {0}
IsNear prep (Some cursor) = AreNear prep.slots cursor

-- It stands for the preparation of that member of a cluster of that shape, with these pages, the latest first, and that cursor.
pub record Stands (prep : Prep) (shape : Shape) (me : ℕ) (pages : List Page) (cursor : Option ℕ) : Type 0 where
  pub same_shape : prep.shape ≡ shape
  pub same_me : prep.me ≡ me
  pub same_cursor : prep.cursor ≡ cursor
  pub all : length prep.ends ≡ 15
  pub tells : Tells prep pages cursor
  pub near : IsNear prep cursor

-- Whatever pages it stood for, it now stands for these with one more, where this joins.
abbrev pub Joins : (old new : Prep) → Page → Type 0
Joins old new page =
    (shape : Shape) (me : ℕ) (pages : List Page) (cursor : Option ℕ) → Stands old shape me pages cursor
    → Stands new shape me (joined cursor page pages) cursor

-- ---- what is answered

-- whether a member covers the cursor; each does where there is none
abbrev pub covers_cursor : (me : ℕ) → List Page → Option ℕ → ℕ → Bool
covers_cursor me pages None member = true
covers_cursor me pages (Some cursor) member = covers me pages cursor member

-- the indexes are those, in order, and each value is the one that comes from there
abbrev pub AreRebuilt : List Rebuilt → List (ℕ × List ℕ) → Type 0
AreRebuilt [] [] = Unit {0}
AreRebuilt (rebuilt ∷ others) (whole ∷ wholes) = (whole.0 ≡ rebuilt.index) × IsValue rebuilt.source whole.1 × AreRebuilt others wholes
AreRebuilt _ _ = ⊥

-- the verdicts are what is decided
pub record AreVerdicts (decision : Decision) (verdicts : Verdicts) : Type 0 where
  pub wholes : AreRebuilt decision.rebuilt verdicts.wholes.items
  pub cut : verdicts.cut ≡ decision.cut
  pub done : verdicts.done ≡ is_none decision.cursor

-- nothing is decided
pub record IsNothing (verdicts : Verdicts) : Type 0 where
  pub no_wholes : verdicts.wholes.items ≡ []
  pub no_cut : verdicts.cut ≡ None
  pub not_done : verdicts.done ≡ false

-- there is a cursor, and too few members cover it
abbrev pub IsWaiting : Shape → (me : ℕ) → List Page → Option ℕ → Type 0
IsWaiting shape me pages None = ⊥
IsWaiting shape me pages (Some cursor) = is_covered shape me (λ member. is_shown member pages cursor) ≡ false

-- one verdict of the code is the one of the definitions
abbrev pub IsVerdict : Verdict → code.Verdict → Type 0
IsVerdict Wait codes.Wait = Unit {0}
IsVerdict (Rebuild source) (codes.Whole value) = IsValue source value
IsVerdict Cut codes.Cut = Unit {0}
IsVerdict _ _ = ⊥

-- the verdicts and the cursor that is left are what is decided
pub record Decides (decision : Decision) (verdicts : Verdicts) (left : Option ℕ) : Type 0 where
  pub verdicts_are : AreVerdicts decision verdicts
  pub left_is : left ≡ decision.cursor
