-- What the definitions come to, in other words.
use Rattle.std.specs.Prelude.{◌≡◌, ◌+◌, ◌<◌, ◌≤◌, ℕ, List, [], ◌∷◌, length, map, take, true, false, Some, slice_get}
use Rattle.std.specs.List.{list_all}
use Rattle.craft_base.specs.Knowledge.{Heard, is_held_whole, next_index}
use Rattle.craft_base.specs.declared.command.Entry.{Entry}
use Rattle.entry_frames.specs.Entries.{is_whole}
use Rattle.entry_frames.specs.MessageFields.{entry_size}

-- how many bytes these entries have together
abbrev pub bytes_of : (k : ℕ) → List Entry → ℕ
bytes_of k [] = 0
bytes_of k (entry ∷ entries) = entry_size k entry + bytes_of k entries

-- a batch of a list of entries, where there are so many places and there is room for so many bytes, and `send` tells how an entry goes
pub record IsAsMuch (k places room : ℕ) (send : Entry → Entry) (entries batch : List Entry) : Type 0 where
  -- it has the first of them, in order, each as it goes
  pub in_order : batch ≡ map send (take (length batch) entries)
  -- each of these is held whole
  pub held : list_all (λ entry. is_whole entry.form) (take (length batch) entries) ≡ true
  -- they have places, and room as they go
  pub few : length batch ≤ places
  pub small : bytes_of k batch ≤ room
  -- and where the next one is held whole and has a place, it has no room
  pub most : (entry : Entry) → slice_get entries (length batch) ≡ Some entry → is_whole entry.form ≡ true → length batch < places
      → room < bytes_of k batch + entry_size k (send entry)

-- From where on entries go to a member in Complete mode: not behind the index from which they go in Coded mode, and as late as the
-- member is known to hold whole all that isn't committed before it.
pub record IsStart (member commit : ℕ) (log : List Entry) (heard : List Heard) (first start : ℕ) : Type 0 where
  pub no_later : start ≤ next_index member heard first
  pub held : (index : ℕ) → commit < index → index ≤ length log → index < start → is_held_whole member index heard ≡ true
  pub lacks : (start < next_index member heard first) → (commit < start) × (start ≤ length log) × (is_held_whole member start heard ≡ false)
