-- Logs as the protocol sees them: a slot for each entry, with the entry's term and the form that the member holds it in.
use Rattle.std.specs.Prelude.{◌≡◌, ℕ, zero, suc, ◌<◌, ◌≤◌, Bool, true, false, List, length, Option, Some, None, slice_get, ◌&&◌, nat_eq, nat_le}

-- how a member holds an entry: with its whole value, or with a part of it
pub data Mark : Type 0 where
  Whole : Mark
  Part : Mark

-- an entry in a log: the term in which it was proposed, and how it is held
pub record Slot : Type 0 where
  pub term : ℕ
  pub mark : Mark

-- the slot at an index, of which the first is 1
abbrev pub slot_at : List Slot → ℕ → Option Slot
slot_at log zero = None
slot_at log (suc i) = slice_get log i

-- a slot's term, and 0 where there is none
abbrev pub term_of : Option Slot → ℕ
term_of (Some s) = s.term
term_of None = 0

-- the mark is that of a whole value
abbrev pub is_whole_mark : Mark → Bool
is_whole_mark Whole = true
is_whole_mark Part = false

-- there is a slot, and it is whole
abbrev pub is_whole : Option Slot → Bool
is_whole (Some s) = is_whole_mark s.mark
is_whole None = false

-- the term of the entry at an index; 0 where there is none
unfoldable pub term_at : List Slot → ℕ → ℕ
term_at log i = term_of (slot_at log i)

-- whether the entry at an index is held whole
unfoldable pub whole_at : List Slot → ℕ → Bool
whole_at log i = is_whole (slot_at log i)

-- the log's last term; 0 in an empty log
abbrev pub last_term : List Slot → ℕ
last_term log = term_at log (length log)

-- the log has an entry of term a at the index
pub record Has (log : List Slot) (index a : ℕ) : Type 0 where
  pub from : 0 < index
  pub within : index ≤ length log
  pub here : term_at log index ≡ a

-- two logs reach to n, and have the same entries up to it (an entry is known by its term and index)
pub record Agree (one other : List Slot) (n : ℕ) : Type 0 where
  pub left : n ≤ length one
  pub right : n ≤ length other
  pub same : (i : ℕ) → i ≤ n → term_at one i ≡ term_at other i

-- two logs have the same entries, in whatever form each holds them
pub record Same (one other : List Slot) : Type 0 where
  pub long : length one ≡ length other
  pub agree : Agree one other (length one)

-- one log is the beginning of the other
abbrev pub IsFront : List Slot → List Slot → Type 0
IsFront one other = Agree one other (length one)

-- what is whole in the one, up to n, is whole in the other
abbrev pub KeepsWhole : List Slot → List Slot → ℕ → Type 0
KeepsWhole one other n = (i : ℕ) → i ≤ n → whole_at one i ≡ true → whole_at other i ≡ true

-- the test whether the log has an entry of term a at the index
abbrev pub has : List Slot → ℕ → ℕ → Bool
has log index a = nat_le index (length log) && nat_eq (term_at log index) a

-- each leader's log is a beginning of what it is now
abbrev pub Extends : (ℕ → List Slot) → (ℕ → List Slot) → Type 0
Extends old new = (t : ℕ) → IsFront (old t) (new t)
