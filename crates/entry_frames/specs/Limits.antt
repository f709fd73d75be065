-- How great the numbers of a log and of its entries can be.
use Rattle.std.specs.Prelude.{ℕ, ◌^◌}

-- the greatest term, client's number, request's number and expected version
abbrev pub greatest : ℕ
greatest = 2 ^ 62

-- the greatest index of a log, and so the greatest version
abbrev pub last_place : ℕ
last_place = 1_000_000

-- the most bytes of a value
abbrev pub longest_value : ℕ
longest_value = 32_768

-- the most entries of a message, and the most bytes of them together
abbrev pub most_entries : ℕ
most_entries = 8

abbrev pub most_entry_bytes : ℕ
most_entry_bytes = 56_000
