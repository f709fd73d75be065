-- What the protocol promises of every run of moves from the start.
use Rattle.std.specs.Prelude.{◌≡◌, ℕ, ◌+◌, ◌<◌, ◌≤◌, ◌⊎◌, ◌≢◌, Bool, true, false, ◌&&◌, List}
use Rattle.protocol.specs.Counting.{count, members}
use Rattle.protocol.specs.Logs.{Slot, Has, Agree, has, term_at, whole_at}
use Rattle.protocol.specs.History.{History, Leading, Cut, IsIn}
use Rattle.protocol.specs.Moves.{Move, Moves, Reached, after}
use Rattle.protocol.specs.Words.{IsLost}
use Rattle.protocol.specs.Growth.{Grows, Untouched, mover}

-- a term is won by one member at most
abbrev pub OneWinner : Type 0
OneWinner = (F : ℕ) (h : History) → Reached F h → (term u v : ℕ) → h.won term u ≡ true → h.won term v ≡ true → u ≡ v

-- of two members that lead, the terms differ
abbrev pub OneLeader : Type 0
OneLeader =
    (F : ℕ) (h : History) → Reached F h → (j k : ℕ) → h.role j ≡ Leading → h.role k ≡ Leading → h.term j ≡ h.term k → j ≡ k

-- the log's first n entries are a decided front: a leader has them, and counted a quorum for each up to there or further
abbrev pub IsDecidedFront : History → List Slot → ℕ → Type 0
IsDecidedFront h log n = (t : ℕ) × (n ≤ h.decided t) × Agree log (h.led t) n

-- two decided fronts, one decided now or earlier than the other, are the same as far as both go: one is a front of the other
abbrev pub FrontsAgree : Type 0
FrontsAgree =
    (F : ℕ) (g h : History) → Reached F g → Moves F g h → (one other : List Slot) (n m k : ℕ) →
    IsDecidedFront g one n → IsDecidedFront h other m → k ≤ n → k ≤ m → Agree one other k

-- a decided front is one for ever
abbrev pub FrontsStay : Type 0
FrontsStay =
    (F : ℕ) (g h : History) → Reached F g → Moves F g h → (log : List Slot) (n : ℕ) → IsDecidedFront g log n → IsDecidedFront h log n

-- whichever F + 1 members are asked, each entry of a decided front stands whole in one of their logs, or in as many of
-- their logs as it needs parts
abbrev pub IsRebuilt : Type 0
IsRebuilt =
    (F : ℕ) (h : History) → Reached F h → (who : ℕ → Bool) → F + 1 ≤ count who (members F) →
    (log : List Slot) (n i : ℕ) → IsDecidedFront h log n → 0 < i → i ≤ n →
    ((j : ℕ) × (j < members F) × (who j ≡ true) × Has (h.log j) i (term_at log i) × (whole_at (h.log j) i ≡ true))
    ⊎ (h.need (term_at log i) i ≤ count (λ j. who j && has (h.log j) i (term_at log i)) (members F))

-- an entry that was cut at a term isn't in a front that a leader of a term up to it decides later
abbrev pub CutStaysUndecided : Type 0
CutStaysUndecided =
    (F : ℕ) (g h : History) → Reached F g → Moves F g h → (cut : Cut) (i a t : ℕ) → IsIn cut g.cuts → IsLost cut i a →
    t ≤ cut.term → i ≤ h.decided t → Has (h.led t) i a → ⊥

-- and no entry is cut that such a leader decided before
abbrev pub DecidedStaysUncut : Type 0
DecidedStaysUncut =
    (F : ℕ) (g h : History) → Reached F g → Moves F g h → (cut : Cut) (i a t : ℕ) → IsIn cut h.cuts → IsLost cut i a →
    t ≤ cut.term → i ≤ g.decided t → Has (g.led t) i a → ⊥

-- what a member committed is a decided front
abbrev pub CommitsAreDecided : Type 0
CommitsAreDecided = (F : ℕ) (h : History) → Reached F h → (j : ℕ) → IsDecidedFront h (h.log j) (h.commit j)

-- it only grows, and stays in the member's log
abbrev pub CommitsGrow : Type 0
CommitsGrow =
    (F : ℕ) (g h : History) → Reached F g → Moves F g h → (j : ℕ) →
    (g.commit j ≤ h.commit j) × Agree (g.log j) (h.log j) (g.commit j)

-- history only grows
abbrev pub HistoryGrows : Type 0
HistoryGrows = (F : ℕ) (g h : History) → Reached F g → Moves F g h → Grows g h

-- a move touches no other member
abbrev pub OthersStay : Type 0
OthersStay = (h : History) (move : Move) (k : ℕ) → k ≢ mover move → Untouched h (after h move) k

-- the moves lead somewhere: three members decide an entry of which one has the value and two have parts
abbrev pub SomeRunDecides : Type 0
SomeRunDecides =
    (h : History) × Reached 1 h × (h.decided 1 ≡ 1) × (h.need 1 1 ≡ 2)
    × (whole_at (h.log 0) 1 ≡ true) × (whole_at (h.log 1) 1 ≡ false) × (whole_at (h.log 2) 1 ≡ false)

-- and a leader cuts an entry of which it can't find enough parts
abbrev pub SomeRunCuts : Type 0
SomeRunCuts = (h : History) × Reached 1 h × (h.role 1 ≡ Leading) × (cut : Cut) × IsIn cut h.cuts × IsLost cut 1 1
