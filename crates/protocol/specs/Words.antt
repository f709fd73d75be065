-- The words in which the moves and the invariants speak of a history.
use Rattle.std.specs.Prelude.{◌≡◌, ℕ, ◌+◌, ◌<◌, ◌≤◌, ◌⊎◌, Bool, true, false, ◌||◌, List, Option, Some, None, nat_eq, nat_le}
use Rattle.protocol.specs.Counting.{count, members}
use Rattle.protocol.specs.Logs.{Slot, Has, Agree, term_at, whole_at}
use Rattle.protocol.specs.History.{History, Cut}

-- the vote is for c
abbrev pub is_for : ℕ → Option ℕ → Bool
is_for c None = false
is_for c (Some d) = nat_eq d c

-- how many members voted for c in the term
abbrev pub votes : ℕ → History → ℕ → ℕ → ℕ
votes F h t c = count (λ j. is_for c (h.voted t j)) (members F)

-- the member said in the term that its log is the leader's up to the index
abbrev pub reaches : History → ℕ → ℕ → ℕ → Bool
reaches h t i j = nat_le i (h.ack t j)

-- the member holds the index as the term's leader has it, or may still come to say so
abbrev pub may_hold : History → ℕ → ℕ → ℕ → Bool
may_hold h t i j = nat_le i (h.ack t j) || nat_le (h.term j) t

-- the same of holding it whole
abbrev pub may_hold_whole : History → ℕ → ℕ → ℕ → Bool
may_hold_whole h t i j = h.held t j i || nat_le (h.term j) t

-- enough for an entry of this need: F + 1 members with the whole value, or so many with a part that any F + 1 members
-- have as many among them as it needs
abbrev pub Quorum : ℕ → (ℕ → Bool) → (ℕ → Bool) → ℕ → Type 0
Quorum F whole any need = (F + 1 ≤ count whole (members F)) ⊎ (F + need ≤ count any (members F))

-- the need of the entry that the term's leader has at the index
abbrev pub need_at : History → ℕ → ℕ → ℕ
need_at h t i = h.need (term_at (h.led t) i) i

-- the term's leader counted enough acknowledgements for each index up to n, an entry of its own term
abbrev pub Counted : ℕ → History → ℕ → ℕ → Type 0
Counted F h t n =
    record {
      own : Has (h.led t) n t;
      above : h.base t < n;
      each : (i : ℕ) → h.base t < i → i ≤ n → Quorum F (λ j. h.held t j i) (reaches h t i) (need_at h t i);
    }

-- the term's leader may still count enough for each index up to n, an entry of its own term. It only turns false
abbrev pub Open : ℕ → History → ℕ → ℕ → Type 0
Open F h t n =
    record {
      own : Has (h.led t) n t;
      above : h.base t < n;
      each : (i : ℕ) → h.base t < i → i ≤ n → Quorum F (may_hold_whole h t i) (may_hold h t i) (need_at h t i);
    }

-- no term after t, up to the bound, has a leader that began to lead
abbrev pub Quiet : History → ℕ → ℕ → Type 0
Quiet h t bound = (u : ℕ) → t < u → u ≤ bound → h.began u ≡ false

-- the log has what member j acknowledged in term t, as far as n, and holds whole what j said that it holds whole
pub record Stores (led : List Slot) (ack : ℕ) (held : ℕ → Bool) (n : ℕ) (log : List Slot) : Type 0 where
  pub agree : (m : ℕ) → m ≤ n → m ≤ ack → Agree log led m
  pub whole : (i : ℕ) → i ≤ n → held i ≡ true → whole_at log i ≡ true

-- the first n entries of the log are among those that a leader of a term up to the bound committed by counting
abbrev pub Decided : History → ℕ → ℕ → List Slot → Type 0
Decided h bound n log = (t : ℕ) × (t ≤ bound) × (n ≤ h.decided t) × Agree log (h.led t) n

-- the entry of term a at the index went out of a log
abbrev pub IsLost : Cut → ℕ → ℕ → Type 0
IsLost cut index a = Has cut.before index a × (Has cut.after index a → ⊥)
