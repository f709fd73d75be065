-- What is kept once a page joins.
use Rattle.std.proofs.Common.{◌≡◌, ℕ, ◌-◌, List, ◌∷◌, Bool, true, false, Option, None, Some, refl, ap, ◌∙◌}
use Rattle.std.specs.Prelude.{◌==◌, if◌then◌else◌, nat_le, slice_get}
use Rattle.std.specs.Option.{option_or}
use Rattle.std.proofs.Math.Path.{fun_ext}
use Rattle.craft_base.specs.Shape.{Shape}
use Rattle.craft_base.specs.declared.command.Entry.{Entry}
use Rattle.entry_frames.specs.Views.{Viewed}
use Rattle.gather_read.specs.Gathered.{gathered, source_of_forms}
use Rattle.gather_read.specs.Keeping.{kept_slot}
use Rattle.gather_read.specs.Standing.{Joins, Stands, kept_form, kept_source}
use Rattle.gather_read.specs.declared.gather.Gather.{Gather}
use Rattle.leader_prep.specs.Pages.{Page, joined, latest_slot, slot_of}
use Rattle.leader_prep.specs.Verdicts.{usable_form}

-- a page that begins past an index has no slot there, so that it makes no difference whether it joins
latest_joined : (page : Page) (pages : List Page) (member index : ℕ)
    → option_or (slot_of member page index) (latest_slot member pages index) ≡ latest_slot member (joined (Some index) page pages) index
latest_joined page pages member index = by (nat_le page.start index) refl where
  none_past : (same : Bool) → option_or (if same then (if false then slice_get page.slots 0 else None) else None) (latest_slot member pages index) ≡ latest_slot member pages index
  none_past true = refl
  none_past false = refl

  by : (low : Bool) → nat_le page.start index ≡ low
      → option_or (slot_of member page index) (latest_slot member pages index) ≡ latest_slot member (if low then page ∷ pages else pages) index
  by true e = refl
  by false e =
      ap (λ (b : Bool). option_or (if page.sender == member then (if b then slice_get page.slots (index - page.start) else None) else None) (latest_slot member pages index)) e
      ∙ none_past (page.sender == member)

pub stands_after : (old new : Gather) (page : Page) → new.shape ≡ old.shape → new.me ≡ old.me → new.index ≡ old.index → new.own ≡ old.own
    → ((member : ℕ) → kept_slot new.slots member ≡ option_or (slot_of member page old.index) (kept_slot old.slots member))
    → Joins old new page
stands_after old new page shape_is me_is index_is own_is keeps shape me index own pages stands = record {
  same_shape = shape_is ∙ stands.same_shape;
  same_me = me_is ∙ stands.same_me;
  same_index = index_is ∙ stands.same_index;
  same_own = ap (λ (v : Viewed). v.entry) own_is ∙ stands.same_own;
  slots = λ member.
      keeps member ∙ ap (λ (i : ℕ). option_or (slot_of member page i) (kept_slot old.slots member)) stands.same_index
      ∙ ap (option_or (slot_of member page index)) (stands.slots member) ∙ latest_joined page pages member index;
}

-- what is kept gives what the pages give
pub gathers_as : (gather : Gather) (shape : Shape) (me index : ℕ) (own : Entry) (pages : List Page) → Stands gather shape me index own pages
    → kept_source gather ≡ gathered shape me index own pages
gathers_as gather shape me index own pages stands =
    ap (λ (s : Shape). source_of_forms s gather.own.entry (kept_form gather)) stands.same_shape
    ∙ ap (λ (e : Entry). source_of_forms shape e (usable_form gather.me e (kept_slot gather.slots))) stands.same_own
    ∙ ap (λ (m : ℕ). source_of_forms shape own (usable_form m own (kept_slot gather.slots))) stands.same_me
    ∙ ap (λ (slot : ℕ → Option Entry). source_of_forms shape own (usable_form me own slot)) (fun_ext stands.slots)
