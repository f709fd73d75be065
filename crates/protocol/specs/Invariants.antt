-- What every run keeps true, in groups that speak of few parts of a history, so that a move passes most groups on as they are.
use Rattle.std.specs.Prelude.{◌≡◌, ℕ, ◌+◌, ◌<◌, ◌≤◌, ◌⊎◌, true, false, List, length, Some, None}
use Rattle.protocol.specs.Logs.{Slot, Has, Agree, Same, term_at}
use Rattle.protocol.specs.History.{History, Candidate, Preparing, Leading, Shown, Cut, IsIn}
use Rattle.protocol.specs.Words.{votes, may_hold, Counted, Open, Quiet, Stores, Decided, IsLost}

-- votes: one for each member and term
abbrev pub Votes : ℕ → History → Type 0
Votes F h =
    record {
      -- a member's vote is that of its term
      present : (j : ℕ) → h.vote j ≡ h.voted (h.term j) j;
      -- of a later term it has none
      later : (t j : ℕ) → h.term j < t → h.voted t j ≡ None;
      -- who has a vote stood, and voted for itself
      candidate : (t j c : ℕ) → h.voted t j ≡ Some c → h.voted t c ≡ Some c;
      -- who won has more than half
      won : (t u : ℕ) → h.won t u ≡ true → F + 1 ≤ votes F h t u;
      -- a candidate stood and hasn't won; who prepares or leads won
      standing : (j : ℕ) → h.role j ≡ Candidate → (h.voted (h.term j) j ≡ Some j) × (h.won (h.term j) j ≡ false);
      preparing : (j : ℕ) → h.role j ≡ Preparing → h.won (h.term j) j ≡ true;
      leading : (j : ℕ) → h.role j ≡ Leading → h.won (h.term j) j ≡ true;
    }

-- each entry of the log was in the log of its term's leader, with the same entries below it; terms don't fall
pub record IsSound (led : ℕ → List Slot) (log : List Slot) : Type 0 where
  pub matches : (i : ℕ) → 0 < i → i ≤ length log → Agree log (led (term_at log i)) i
  pub rises : (i k : ℕ) → 0 < i → i ≤ k → k ≤ length log → term_at log i ≤ term_at log k

-- no entry's term is above the bound
abbrev pub Below : List Slot → ℕ → Type 0
Below log bound = (i : ℕ) → 0 < i → i ≤ length log → term_at log i ≤ bound

-- logs are sound, and a leader's own log is the one that history has for its term
abbrev pub Logs : History → Type 0
Logs h =
    record {
      log : (j : ℕ) → IsSound h.led (h.log j) × Below (h.log j) (h.term j);
      led : (t : ℕ) → IsSound h.led (h.led t) × Below (h.led t) t;
      stood :
          (t c : ℕ) → h.voted t c ≡ Some c →
          IsSound h.led (h.stood t c) × ((i : ℕ) → 0 < i → i ≤ length (h.stood t c) → term_at (h.stood t c) i < t);
      -- a leader that didn't begin has nothing, and one that began won
      silent : (t : ℕ) → h.began t ≡ false → length (h.led t) ≡ 0;
      began : (t : ℕ) → h.began t ≡ true → (u : ℕ) × (h.won t u ≡ true);
      -- a candidate's log is the one with which it stood
      standing : (j : ℕ) → h.role j ≡ Candidate → Same (h.stood (h.term j) j) (h.log j);
      preparing : (j : ℕ) → h.role j ≡ Preparing → h.began (h.term j) ≡ false;
      leading : (j : ℕ) → h.role j ≡ Leading → (h.began (h.term j) ≡ true) × Same (h.log j) (h.led (h.term j));
    }

-- acknowledgements and answers come from a member's own term, and go no further than the leader's log
abbrev pub Acks : History → Type 0
Acks h =
    record {
      later : (t j : ℕ) → h.term j < t → h.ack t j ≡ 0;
      within : (t j : ℕ) → h.ack t j ≤ length (h.led t);
      held : (t j i : ℕ) → h.held t j i ≡ true → (0 < i) × (i ≤ h.ack t j);
      shown : (a : Shown) → IsIn a h.answers → a.term ≤ h.term a.member;
      need : (a i : ℕ) → 0 < h.need a i;
    }

-- what may still be committed is known wherever it could be lost
abbrev pub Core : ℕ → History → Type 0
Core F h =
    record {
      -- the leaders of later terms have it
      led : (t u n : ℕ) → t < u → Open F h t n → h.began u ≡ true → Has (h.led u) n t;
      -- who prepares to lead has it
      preparing : (t n u : ℕ) → h.role u ≡ Preparing → t < h.term u → Open F h t n → Has (h.log u) n t;
      -- a member that may hold it voted for no candidate without it
      ballots :
          (t u n j c : ℕ) → t < u → Open F h t n → h.voted u j ≡ Some c → may_hold h t n j ≡ true → Has (h.stood u c) n t;
      -- what a member acknowledged of it is still in its log
      stored :
          (t n j : ℕ) → t ≤ h.term j → Open F h t n ⊎ Quiet h t (h.term j) →
          Stores (h.led t) (h.ack t j) (h.held t j) n (h.log j);
      -- and was in each log that it showed
      shown :
          (a : Shown) → IsIn a h.answers → (t n : ℕ) → t < a.term → Open F h t n ⊎ Quiet h t a.term →
          Stores (h.led t) (h.ack t a.member) (h.held t a.member) n a.slots;
    }

-- what was committed
abbrev pub Commits : ℕ → History → Type 0
Commits F h =
    record {
      counted : (t : ℕ) → 0 < h.decided t → Counted F h t (h.decided t);
      -- a leader began with what a leader of a lower term committed
      base : (t : ℕ) → 0 < h.base t → (u : ℕ) × (u < t) × (h.base t ≤ h.decided u) × Agree (h.led t) (h.led u) (h.base t);
      commit : (j : ℕ) → Decided h (h.term j) (h.commit j) (h.log j);
      silent : (t : ℕ) → h.began t ≡ false → (h.base t ≡ 0) × (h.decided t ≡ 0);
      -- a leader's commit index is its base, or what it decided since
      leading :
          (j : ℕ) → h.role j ≡ Leading →
          ((h.commit j ≡ h.base (h.term j)) × (h.decided (h.term j) ≡ 0))
          ⊎ ((h.commit j ≡ h.decided (h.term j)) × (h.base (h.term j) < h.commit j));
    }

-- what went out of logs was never committed, and won't be
abbrev pub Cuts : ℕ → History → Type 0
Cuts F h =
    (cut : Cut) → IsIn cut h.cuts → (index a : ℕ) → IsLost cut index a →
    record {
      began : h.began cut.term ≡ true;
      led : Has (h.led cut.term) index a → ⊥;
      beyond : length (h.led cut.term) < index → a < cut.term;
      open_front : (t n : ℕ) → t < cut.term → Open F h t n → index ≤ n → Has (h.led t) index a → ⊥;
    }

-- all that every run keeps
abbrev pub Sound : ℕ → History → Type 0
Sound F h =
    record { votes : Votes F h; logs : Logs h; acks : Acks h; core : Core F h; commits : Commits F h; cuts : Cuts F h }
