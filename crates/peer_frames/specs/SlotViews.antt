-- The entries that views show.
use Rattle.std.specs.Prelude.{◌≡◌, ℕ, List, [], ◌∷◌, map}
use Rattle.craft_base.specs.declared.command.Entry.{Entry}
use Rattle.entry_frames.specs.Views.{Viewed}

abbrev pub entries_of_views : List Viewed → List Entry
entries_of_views views = map (λ view. view.entry) views

-- each is one of a cluster with that k
abbrev pub AllHaveK : ℕ → List Viewed → Type 0
AllHaveK k [] = Unit {0}
AllHaveK k (view ∷ views) = (view.k ≡ k) × AllHaveK k views
