-- What a clock shows.
use Rattle.std.specs.Prelude.{◌≡◌, ℕ, List, ◌∷◌, None, Some, Option, ⊤}

-- the readings after one was shown: the last one repeats
abbrev pub after_reading : List ℕ → List ℕ
after_reading (reading ∷ next ∷ rest) = next ∷ rest
after_reading readings = readings

-- the first of the readings still to come was shown, where they are told
abbrev pub ShowsFirst : Option (List ℕ) → Option (List ℕ) → ℕ → Type 0
ShowsFirst None new reading = ⊤
ShowsFirst (Some readings) new reading = ((rest : List ℕ) × (readings ≡ reading ∷ rest)) × (new ≡ Some (after_reading readings))
