-- What reading takes of the bytes of a source, where it tells them.
use Rattle.std.specs.Prelude.{◌≡◌, ◌⊎◌, ◌<◌, ◌+◌, ℕ, List, [], ◌∷◌, ◌++◌, length, Bool, false, ◌&&◌, ◌==◌, nat_le, Option, None, Some}
use Rattle.std.specs.List.{list_any}
use Rattle.std.specs.Io.KnownBytes.{Consumes, IsAtEnd}
use Rattle.world_model.specs.Schedule.{TextLine, longest_line}
use Rattle.line_input.specs.declared.line.LineEnd.{LineEnd}
use Rattle.line_input.specs.declared.line.LineEnd.TheVariants.{LineFeed, End, Broken}

-- a byte was taken, or the source is at its end
abbrev pub TakesByte : Option (List ℕ) → Option (List ℕ) → Option ℕ → Type 0
TakesByte old new None = Consumes old new [] × IsAtEnd new
TakesByte old new (Some byte) = Consumes old new (byte ∷ [])

-- no line feed is among the bytes
abbrev pub HasNoLineFeed : List ℕ → Type 0
HasNoLineFeed text = list_any (λ byte. byte == 10) text ≡ false

-- whether a line has its line feed and isn't longer than a line may be, with it
abbrev pub is_whole : TextLine → Bool
is_whole line = line.ended && nat_le (length line.text + 1) longest_line

-- A line was taken with its line feed; or nothing was, at the end of the input; or the input ended within the line,
-- or no line feed is among its first 70,000 bytes.
abbrev pub TakesLine : Option (List ℕ) → Option (List ℕ) → List ℕ → LineEnd → Type 0
TakesLine old new text LineFeed = Consumes old new (text ++ 10 ∷ []) × HasNoLineFeed text × (length text < longest_line)
TakesLine old new text End = Consumes old new [] × IsAtEnd new
TakesLine old new text Broken =
    Consumes old new text × HasNoLineFeed text × ((IsAtEnd new × (0 < length text)) ⊎ (length text ≡ longest_line))

-- a piece of a line was taken, and no line feed
abbrev pub TakesUnfinished : Option (List ℕ) → Option (List ℕ) → Type 0
TakesUnfinished old new = (text : List ℕ) × Consumes old new text × HasNoLineFeed text
