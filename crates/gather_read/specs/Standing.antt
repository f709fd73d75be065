-- When what is kept stands for the pages of a want.
use Rattle.std.specs.Prelude.{◌≡◌, ℕ, List, Option, Some}
use Rattle.craft_base.specs.Shape.{Shape}
use Rattle.craft_base.specs.declared.command.Entry.{Entry}
use Rattle.craft_base.specs.declared.command.Form.{Form}
use Rattle.gather_read.specs.Gathered.{source_of_forms}
use Rattle.gather_read.specs.Keeping.{kept_slot}
use Rattle.gather_read.specs.declared.gather.Gather.{Gather}
use Rattle.leader_prep.specs.Pages.{Page, joined, latest_slot}
use Rattle.leader_prep.specs.Verdicts.{Source, usable_form}

-- the form in which a member is known to hold the entry
abbrev pub kept_form : Gather → ℕ → Option Form
kept_form gather = usable_form gather.me gather.own.entry (kept_slot gather.slots)

abbrev pub kept_source : Gather → Option Source
kept_source gather = source_of_forms gather.shape gather.own.entry (kept_form gather)

-- It stands for the want of that member of a cluster of that shape, for an index at which its own entry is that one, with these
-- pages, the latest first.
pub record Stands (gather : Gather) (shape : Shape) (me index : ℕ) (own : Entry) (pages : List Page) : Type 0 where
  pub same_shape : gather.shape ≡ shape
  pub same_me : gather.me ≡ me
  pub same_index : gather.index ≡ index
  pub same_own : gather.own.entry ≡ own
  pub slots : (member : ℕ) → kept_slot gather.slots member ≡ latest_slot member pages index

-- Whatever pages it stood for, it now stands for these with one more, where this joins.
abbrev pub Joins : (old new : Gather) → Page → Type 0
Joins old new page =
    (shape : Shape) (me index : ℕ) (own : Entry) (pages : List Page) → Stands old shape me index own pages
    → Stands new shape me index own (joined (Some index) page pages)
