-- Where the members of a cluster listen, as words: a place is `a.b.c.d:port`.
use Rattle.std.specs.Prelude.{ℕ, ◌+◌, ◌*◌, List, [], ◌∷◌, length, Option, None, Some, ◌==◌, if◌then◌else◌}
use Rattle.std.specs.List.{slice_split}
use Rattle.craft_base.specs.Shape.{Shape, members_of}
use Rattle.world_model.specs.Calls.{number_within}
use Rattle.world_model.specs.Numbers.{number_of}

-- the place of an address of four numbers, and a port
abbrev pub place_from : (a b c d port : ℕ) → ℕ
place_from a b c d port = (((a * 256 + b) * 256 + c) * 256 + d) * 65536 + port

abbrev pub place_with : (a b c d port : Option ℕ) → Option ℕ
place_with (Some a) (Some b) (Some c) (Some d) (Some port) = Some (place_from a b c d port)
place_with _ _ _ _ _ = None

-- a number of an address
abbrev pub octet_in : List ℕ → Option ℕ
octet_in word = number_within 0 255 (number_of word)

-- an address is four numbers between points; a port is 1 to 65535
abbrev pub place_of_octets : List (List ℕ) → (port : List ℕ) → Option ℕ
place_of_octets (a ∷ b ∷ c ∷ d ∷ []) port = place_with (octet_in a) (octet_in b) (octet_in c) (octet_in d) (number_within 1 65535 (number_of port))
place_of_octets _ port = None

abbrev pub place_of_words : (address port : List ℕ) → Option ℕ
place_of_words address port = place_of_octets (slice_split (λ byte. byte == 46) address) port

-- an address and a port, with a colon between them
abbrev pub place_of_halves : List (List ℕ) → Option ℕ
place_of_halves (address ∷ port ∷ []) = place_of_words address port
place_of_halves _ = None

abbrev pub place_in : List ℕ → Option ℕ
place_in word = place_of_halves (slice_split (λ byte. byte == 58) word)

-- ---- of a cluster

abbrev pub place_before : Option ℕ → Option (List ℕ) → Option (List ℕ)
place_before (Some place) (Some places) = Some (place ∷ places)
place_before _ _ = None

-- what each word spells, where each is a place
abbrev pub all_places : List (List ℕ) → Option (List ℕ)
all_places [] = Some []
all_places (word ∷ words) = place_before (place_in word) (all_places words)

-- one place for each member
abbrev pub places_in : Shape → List (List ℕ) → Option (List ℕ)
places_in shape words = if length words == members_of shape then all_places words else None
