-- A value of a message that comes in place of a part.
use Rattle.std.proofs.Common.{◌≡◌, ℕ, ◌+◌, ◌-◌, List, Some, ap, sym, ◌∙◌}
use Rattle.std.specs.Prelude.{slice_get}
use Rattle.craft_base.specs.declared.command.Entry.{Entry}
use Rattle.entry_frames.specs.Entries.{form_bytes}
use Rattle.entry_frames.specs.Logs.{viewed_with}
use Rattle.entry_frames.specs.Views.{Viewed}
use Rattle.full_append.specs.Plans.{value_at, value_of_entry}
use Rattle.full_append.proofs.Lists.{viewed_some}

-- it is that of the entry there
pub value_is :
    (k prev index place : ℕ) (es : List Entry) (v : Viewed) → place ≡ index - (prev + 1) → Some v ≡ viewed_with k (slice_get es place) → form_bytes v.entry.form ≡ value_at prev es index
value_is k prev index place es v at' is =
    sym (ap value_of_entry (ap (slice_get es) (sym at') ∙ viewed_some k (slice_get es place) v is))
