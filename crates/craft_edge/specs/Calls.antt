-- The calls of a device in memory: their numbers, those that are to fail, and those that failed.
use Rattle.std.specs.Prelude.{ℕ, Bool, List, ◌+◌, ◌-◌, ◌^◌, ◌==◌, min, if◌then◌else◌}
use Rattle.std.specs.List.{list_any}

-- one more, but no more than the last number of 64 bits, where a count stands still
abbrev pub counted : ℕ → ℕ
counted n = min (n + 1) (2 ^ 64 - 1)

-- the numbers of the calls that are to fail, how many calls were made, and how many of them failed
pub record CallBook : Type 0 where
  pub fail : List ℕ
  pub made : ℕ
  pub faults : ℕ

-- the next call is listed to fail; calls are numbered from 1
abbrev pub next_fails : CallBook → Bool
next_fails book = list_any (λ n. n == counted book.made) book.fail

-- after one call more, which failed or didn't
abbrev pub after_call : CallBook → Bool → CallBook
after_call book failed = record {
  fail = book.fail;
  made = counted book.made;
  faults = if failed then counted book.faults else book.faults;
}
