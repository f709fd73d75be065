use Rattle.std.proofs.Common.{◌≡◌, ◌++◌, drop}
use Rattle.std.specs.Prelude.{map, string_bytes}
use Rattle.std.specs.Option.{option_map}
use Rattle.command_words.specs.Places.{all_places}
use Rattle.command_words.proofs.reading.places_in.Given as goal

-- the places so far, and those of the words that are left, are all places
abbrev pub invariant-loop-word : goal.invariant-loop-word
invariant-loop-word l =
    option_map (λ more. l.list.items ++ more) (all_places (map string_bytes (drop l.word-index l.words))) ≡ all_places (map string_bytes l.words)
