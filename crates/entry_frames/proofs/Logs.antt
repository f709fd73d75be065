-- A log that is kept as views of its entries.
use Rattle.std.proofs.Common.{◌≡◌, ℕ, suc, List, map, Option, None, Some, sym, ap, ◌∙◌}
use Rattle.std.specs.Prelude.{option_map, slice_get}
use Rattle.std.proofs.lemmas.Option.{slice_get-map}
use Rattle.craft_base.specs.declared.command.Entry.{Entry}
use Rattle.entry_frames.specs.Logs.{entry_at, viewed_with}
use Rattle.entry_frames.specs.Views.{Viewed}

abbrev entries_of : List Viewed → List Entry
entries_of views = map (λ v. v.entry) views

entry_at_of : (views : List Viewed) (index place : ℕ) → index ≡ suc place → entry_at (entries_of views) index ≡ option_map (λ (v : Viewed). v.entry) (slice_get views place)
entry_at_of views index place is = ap (entry_at (entries_of views)) is ∙ slice_get-map (λ (v : Viewed). v.entry) views place

-- what an index shows, where there is a view at its place, and where there is none
pub found_at : (views : List Viewed) (index place : ℕ) (v : Viewed) → index ≡ suc place → slice_get views place ≡ Some v → entry_at (entries_of views) index ≡ Some v.entry
found_at views index place v is found = entry_at_of views index place is ∙ ap (option_map (λ (x : Viewed). x.entry)) found

pub none_at : (views : List Viewed) (index place : ℕ) → index ≡ suc place → slice_get views place ≡ None → entry_at (entries_of views) index ≡ None
none_at views index place is none = entry_at_of views index place is ∙ ap (option_map (λ (x : Viewed). x.entry)) none

abbrev some_view : Entry → ℕ → Option Viewed
some_view entry k = Some (record { k = k; entry = entry })

pub viewed_at : (k : ℕ) (views : List Viewed) (index place : ℕ) (v : Viewed) → index ≡ suc place → slice_get views place ≡ Some v → v.k ≡ k
    → Some v ≡ viewed_with k (entry_at (entries_of views) index)
viewed_at k views index place v is found same = ap (some_view v.entry) same ∙ sym (ap (viewed_with k) (found_at views index place v is found))
