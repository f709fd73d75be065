-- What a call takes of the bytes that it is given, where the bytes taken are known.
use Rattle.std.specs.Prelude.{ℕ, ◌≤◌, List, length, take, MatchResult, Option, Result}
use Rattle.std.specs.Io.KnownBytes.{Appends}

-- some first part of the bytes was taken, perhaps none of them or all
abbrev pub AppendsPrefix : Option (List ℕ) → Option (List ℕ) → List ℕ → Type 0
AppendsPrefix old new bytes = (n : ℕ) × (n ≤ length bytes) × Appends old new (take n bytes)

-- a write that answers n took the first n bytes, and one that fails took some first part
abbrev pub WriteTakes : {E : Type 0} → Option (List ℕ) → Option (List ℕ) → Result ℕ E → List ℕ → Type 0
WriteTakes old new result bytes = MatchResult result (λ n. Appends old new (take n bytes)) (λ _. AppendsPrefix old new bytes)
