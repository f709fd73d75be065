-- What a leader has of the value of an entry that it holds as a part, by what the others show.
use Rattle.std.specs.Prelude.{◌≡◌, ◌<◌, ℕ, List, length, Option, None, Some}
use Rattle.std.specs.Option.{option_map}
use Rattle.craft_base.specs.Knowledge.{members}
use Rattle.craft_base.specs.Shape.{Shape}
use Rattle.craft_base.specs.declared.command.Entry.{Entry}
use Rattle.craft_base.specs.declared.command.Form.{Form}
use Rattle.leader_prep.specs.Pages.{Page, latest_slot}
use Rattle.leader_prep.specs.Solutions.{value_of}
use Rattle.leader_prep.specs.Verdicts.{IsValue, Source, Verdict, Cut, Rebuild, Wait, first_whole, parts_of, usable_form, verdict_of_forms}

-- All pages of a want stand in a list, the latest first.

-- ---- what counts

-- the form in which a member is known to hold the entry `own` of the leader `me` at an index: the leader, in its own; any other,
-- in that of its slot there, where this has the term and the head of the own one
abbrev pub form_shown : (me index : ℕ) → (own : Entry) → List Page → ℕ → Option Form
form_shown me index own pages = usable_form me own (λ member. latest_slot member pages index)

-- ---- the value

-- where a preparation that has seen enough would have the value from, if it would have it
abbrev pub source_in : Verdict → Option Source
source_in (Rebuild source) = Some source
source_in Wait = None
source_in Cut = None

-- by the members in these forms: from the lowest that holds it whole, else from as many parts as are needed, those of the lowest
abbrev pub source_of_forms : Shape → (own : Entry) → (form : ℕ → Option Form) → Option Source
source_of_forms shape own form = source_in (verdict_of_forms shape own form)

-- Gathered: where the value of the entry `own` at an index is had from, if it is, by these pages
abbrev pub gathered : Shape → (me index : ℕ) → (own : Entry) → List Page → Option Source
gathered shape me index own pages = source_of_forms shape own (form_shown me index own pages)

-- and that value
abbrev pub gathered_value : Shape → (me index : ℕ) → (own : Entry) → List Page → Option (List ℕ)
gathered_value shape me index own pages = option_map value_of (gathered shape me index own pages)

-- ---- what is answered

-- a value that comes from there, exactly where there is one
abbrev pub IsGiven : Option Source → Option (List ℕ) → Type 0
IsGiven None None = Unit {0}
IsGiven (Some source) (Some value) = IsValue source value
IsGiven _ _ = ⊥

-- of these members none holds the value whole, and too few hold parts of it
pub record AreTooFew (shape : Shape) (form : ℕ → Option Form) : Type 0 where
  pub no_whole : first_whole form (members shape) ≡ None
  pub few_parts : length (parts_of form (members shape)) < shape.need
