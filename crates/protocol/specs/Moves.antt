-- What may happen next, each move by its property and not by the rule that makes it. Sending is no move: an append of a term
-- carries a stretch of that term's `led`, which only grows, and a commit index that the leader had.
use Rattle.std.specs.Prelude.{◌≡◌, ℕ, suc, ◌+◌, ◌<◌, ◌≤◌, ◌≢◌, ◌⊎◌, Bool, true, false, ◌&&◌, ◌||◌, max, List, ◌∷◌, length, Some, None}
use Rattle.protocol.specs.Counting.{count, members, put, put_at}
use Rattle.protocol.specs.Logs.{Slot, Has, has, Agree, Same, IsFront, KeepsWhole, last_term, term_at, whole_at}
use Rattle.protocol.specs.History.{History, Follower, Candidate, Preparing, Leading, IsIn, start}
use Rattle.protocol.specs.Words.{votes, need_at, reaches, Quorum}

pub data Move : Type 0 where
  -- a member hears of a higher term
  Raise : (member term : ℕ) → Move
  -- a member begins an election for the next term, and votes for itself
  Stand : (member : ℕ) → Move
  -- a member votes for a candidate of its term
  Cast : (member candidate : ℕ) → Move
  -- a candidate has the votes of more than half of the members
  Win : (member : ℕ) → Move
  -- parts in a member's log become whole values
  Rebuild : (member : ℕ) (log : List Slot) → Move
  -- a member that won begins to lead with this log
  Begin : (member : ℕ) (log : List Slot) → Move
  -- a leader adds an entry with this need
  Propose : (member : ℕ) (log : List Slot) (need : ℕ) → Move
  -- a member takes an append of its term, after which this is its log
  Accept : (member : ℕ) (log : List Slot) → Move
  -- a member says how far its log is the leader's, and which of it is whole. A leader says it of its own log
  Acknowledge : (member reach : ℕ) (whole : ℕ → Bool) → Move
  -- a member shows its log, from an index on, to the leader of its term. A leader shows its own to itself
  Answer : (member start : ℕ) → Move
  -- a leader commits by counting
  Decide : (member index : ℕ) → Move
  -- a member commits what its leader committed
  Learn : (member index : ℕ) → Move
  -- a member comes back with what it keeps
  Restart : (member : ℕ) → Move

-- the candidate's log ends in a later term, or in the same term and is no shorter
abbrev pub IsUpToDate : List Slot → List Slot → Type 0
IsUpToDate candidate voter =
    (last_term voter < last_term candidate)
    ⊎ ((last_term voter ≡ last_term candidate) × (length voter ≤ length candidate))

-- `log` is the leader's without its entries from an index on, which the answers of F + 1 members show to be lost
pub record ShowsLoss (F : ℕ) (h : History) (leader : ℕ) (log : List Slot) : Type 0 where
  pub index : ℕ
  pub above : h.commit leader < index
  pub within : index ≤ length (h.log leader)
  pub shorter : suc (length log) ≡ index
  pub front : IsFront log (h.log leader)
  pub marks : KeepsWhole (h.log leader) log (length log)
  -- these members showed a slot at the index, or that their logs end before it
  pub covers : ℕ → Bool
  pub seen : ℕ → List Slot
  pub enough : F + 1 ≤ count covers (members F)
  pub showed :
      (j : ℕ) → j < members F → covers j ≡ true →
      (start : ℕ) × (start ≤ index) × IsIn (record { term = h.term leader; member = j; start = start; slots = seen j }) h.answers
  -- none of them has the entry whole, and fewer than its need have it
  pub no_whole :
      (j : ℕ) → j < members F → covers j ≡ true →
      has (seen j) index (term_at (h.log leader) index) ≡ true → whole_at (seen j) index ≡ false
  pub few :
      count (λ j. covers j && has (seen j) index (term_at (h.log leader) index)) (members F)
      < h.need (term_at (h.log leader) index) index

-- the log with which a member begins to lead: its own, or what is left of it
abbrev pub BeginsWith : ℕ → History → ℕ → List Slot → Type 0
BeginsWith F h leader log =
    (Same (h.log leader) log × KeepsWhole (h.log leader) log (length log)) ⊎ ShowsLoss F h leader log

-- the leader's log with one whole entry of its term behind it
pub record Adds (h : History) (leader : ℕ) (log : List Slot) : Type 0 where
  pub longer : length log ≡ suc (length (h.log leader))
  pub front : IsFront (h.log leader) log
  pub newest : last_term log ≡ h.term leader
  pub whole : whole_at log (length log) ≡ true
  pub marks : KeepsWhole (h.log leader) log (length (h.log leader))

-- how a log may change by what a leader's log holds: not at all, by entries at its end, or, where the two differ at an
-- index that is among those that came, to a front of the leader's
pub data Taken (old new led : List Slot) : Type 0 where
  Kept : Same old new → Taken old new led
  Longer : IsFront old new → IsFront new led → Taken old new led
  Replaced :
      (index : ℕ) → index ≤ length old → index ≤ length new → term_at old index ≢ term_at new index →
      IsFront new led → Taken old new led

-- what an append of the member's term makes of its log: what it shares with the leader's log stays, and stays whole
pub record Takes (h : History) (member : ℕ) (log : List Slot) : Type 0 where
  pub began : h.began (h.term member) ≡ true
  pub taken : Taken (h.log member) log (h.led (h.term member))
  pub marks :
      (i : ℕ) → Agree (h.log member) (h.led (h.term member)) i →
      whole_at (h.log member) i ≡ true → whole_at log i ≡ true

-- for each index from the leader's commit index up to n, enough members acknowledged it
abbrev pub Counts : ℕ → History → ℕ → ℕ → Type 0
Counts F h leader n =
    (i : ℕ) → h.commit leader < i → i ≤ n →
    Quorum F (λ j. h.held (h.term leader) j i) (reaches h (h.term leader) i) (need_at h (h.term leader) i)

-- when a move may be made
abbrev pub Allowed : ℕ → History → Move → Type 0
Allowed F h (Raise j t) = h.term j < t
Allowed F h (Stand j) = Unit {0}
Allowed F h (Cast j c) =
    ((h.vote j ≡ None) ⊎ (h.vote j ≡ Some c))
    × (h.voted (h.term j) c ≡ Some c)
    × IsUpToDate (h.stood (h.term j) c) (h.log j)
Allowed F h (Win u) = (h.role u ≡ Candidate) × (F + 1 ≤ votes F h (h.term u) u)
Allowed F h (Rebuild j log) = Same (h.log j) log × KeepsWhole (h.log j) log (length log)
Allowed F h (Begin u log) = (h.role u ≡ Preparing) × BeginsWith F h u log
Allowed F h (Propose u log need) =
    (h.role u ≡ Leading) × Adds h u log × (0 < need) × (need ≤ F + 1)
Allowed F h (Accept j log) = Takes h j log
Allowed F h (Acknowledge j reach whole) =
    Agree (h.log j) (h.led (h.term j)) reach
    × ((i : ℕ) → whole i ≡ true → (i ≤ reach) × (whole_at (h.log j) i ≡ true))
Allowed F h (Answer j from) = Unit {0}
Allowed F h (Decide u n) =
    (h.role u ≡ Leading)
    × Has (h.led (h.term u)) n (h.term u)
    × (h.commit u < n)
    × Counts F h u n
Allowed F h (Learn j n) =
    (h.commit j < n)
    × Agree (h.log j) (h.led (h.term j)) n
    × ((n ≤ h.base (h.term j)) ⊎ (n ≤ h.decided (h.term j)))
Allowed F h (Restart j) = Unit {0}

-- what it makes of the history
abbrev pub after : History → Move → History
after h (Raise j t) =
    record h { term = put j t h.term; vote = put j None h.vote; role = put j Follower h.role }
after h (Stand j) =
    record h {
      term = put j (suc (h.term j)) h.term;
      vote = put j (Some j) h.vote;
      role = put j Candidate h.role;
      voted = put_at (suc (h.term j)) j (Some j) h.voted;
      stood = put_at (suc (h.term j)) j (h.log j) h.stood;
    }
after h (Cast j c) =
    record h { vote = put j (Some c) h.vote; voted = put_at (h.term j) j (Some c) h.voted }
after h (Win u) =
    record h { role = put u Preparing h.role; won = put_at (h.term u) u true h.won }
after h (Rebuild j log) = record h { log = put j log h.log }
after h (Begin u log) =
    record h {
      role = put u Leading h.role;
      log = put u log h.log;
      began = put (h.term u) true h.began;
      led = put (h.term u) log h.led;
      base = put (h.term u) (h.commit u) h.base;
      cuts = record { term = h.term u; before = h.log u; after = log } ∷ h.cuts;
    }
after h (Propose u log need) =
    record h {
      log = put u log h.log;
      led = put (h.term u) log h.led;
      need = put_at (h.term u) (length log) need h.need;
    }
after h (Accept j log) =
    record h {
      role = put j Follower h.role;
      log = put j log h.log;
      cuts = record { term = h.term j; before = h.log j; after = log } ∷ h.cuts;
    }
after h (Acknowledge j reach whole) =
    record h {
      ack = put_at (h.term j) j (max (h.ack (h.term j) j) reach) h.ack;
      held = put_at (h.term j) j (λ i. h.held (h.term j) j i || whole i) h.held;
    }
after h (Answer j from) =
    record h { answers = record { term = h.term j; member = j; start = from; slots = h.log j } ∷ h.answers }
after h (Decide u n) =
    record h { commit = put u n h.commit; decided = put (h.term u) n h.decided }
after h (Learn j n) = record h { commit = put j n h.commit }
after h (Restart j) = record h { role = put j Follower h.role }

-- the second history comes of the first by moves, each allowed where it is made
pub data Moves (F : ℕ) (g : History) : History → Type 0 where
  None_yet : Moves F g g
  Then : (h : History) (move : Move) → Allowed F h move → Moves F g h → Moves F g (after h move)

-- the history of some run
abbrev pub Reached : ℕ → History → Type 0
Reached F h = Moves F start h
