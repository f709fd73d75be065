-- What is said of the map in other words: it takes each number of a client once.
use Rattle.std.specs.Prelude.{◌≡◌, ◌≤◌, ℕ, Bool, true, false, not, ◌||◌, nat_lt, List, Option, None, Some}
use Rattle.craft_base.specs.declared.command.Head.{Head}
use Rattle.kv_apply.specs.Commands.{exceeds, greatest_number, is_asked, is_of, map_outcome}
use Rattle.kv_apply.specs.declared.outcome.Kept.{Kept}
use Rattle.kv_apply.specs.declared.outcome.Kept.TheVariants as keeps
use Rattle.kv_apply.specs.declared.outcome.Outcome.{Outcome}
use Rattle.kv_apply.specs.declared.outcome.Outcome.TheVariants.{Done, Differs, Gone, Found, Nothing, Old}

-- whether a command has a number below n, where it is one of that client
abbrev pub is_below : (client n : ℕ) → Head → Bool
is_below client n h = not (is_of client h) || nat_lt h.seq n

-- whether a number is below another, if there is another
abbrev pub is_outrun : ℕ → Option ℕ → Bool
is_outrun n None = false
is_outrun n (Some m) = nat_lt n m

-- What is kept for a number of a client: nothing yet, exactly where the client has no number or a smaller one; the outcome of the
-- effective command with it, exactly where it is the client's greatest; and that it is old, exactly where there is a greater one.
abbrev pub IsKept : (client seq : ℕ) → List Head → Kept → Type 0
IsKept client seq heads keeps.New = exceeds seq (greatest_number client heads) ≡ true
IsKept client seq heads (keeps.Same outcome) = (greatest_number client heads ≡ Some seq) × (map_outcome client seq heads ≡ Some outcome)
IsKept client seq heads keeps.Old = is_outrun seq (greatest_number client heads) ≡ true

-- What a command is answered, by all commands up to it: a Noop nothing; Old where a command of its client has a greater number; and
-- else the outcome of the effective command of its client with its number, which is itself or came before.
pub record IsAnswer (h : Head) (heads : List Head) (answered : Outcome) : Type 0 where
  pub noop : is_asked h ≡ false → answered ≡ Nothing
  pub old : is_asked h ≡ true → is_outrun h.seq (greatest_number h.client heads) ≡ true → answered ≡ Old
  pub told : is_asked h ≡ true → is_outrun h.seq (greatest_number h.client heads) ≡ false → map_outcome h.client h.seq heads ≡ Some answered

-- the versions that an outcome tells are indexes of so many commands; or 0, for an absent key that differs from what was expected
abbrev pub TellsIndexes : ℕ → Outcome → Type 0
TellsIndexes count (Done version) = (1 ≤ version) × (version ≤ count)
TellsIndexes count (Differs version) = version ≤ count
TellsIndexes count (Gone was_there) = Unit {0}
TellsIndexes count (Found version) = (1 ≤ version) × (version ≤ count)
TellsIndexes count Nothing = Unit {0}
TellsIndexes count Old = Unit {0}
