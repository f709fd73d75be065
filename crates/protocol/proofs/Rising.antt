-- What terms that rise keep.
use Rattle.std.proofs.Common.{◌≡◌, ℕ, suc, ◌<◌, ◌≤◌, ◌⊎◌, true, List, length, Some, None, inl, inr, arith, le_trans, le_refl}
use Rattle.std.proofs.lemmas.Bool.{cases_lt, ne_eqb}
use Rattle.protocol.specs.Counting.{put, put_at}
use Rattle.protocol.specs.Logs.{Slot, Has, term_at}
use Rattle.protocol.specs.History.{History, Follower, Candidate, Preparing, Leading, Shown, IsIn}
use Rattle.protocol.specs.Words.{may_hold, Open, Quiet, Stores, Decided}
use Rattle.protocol.specs.Moves.{Raise, Stand, after, Restart}
use Rattle.protocol.specs.Invariants.{Acks, Core, Cuts, Sound, IsSound, Below}
use Rattle.protocol.proofs.Counting.{Equal, Apart, same_or_other, put_at_all, put_at_both, put_elsewhere, test_same, cond_same}
use Rattle.protocol.proofs.Logs.{same_refl, stores_none}
use Rattle.protocol.proofs.Opening.{open_term, may_term_of, quiet_less, may_acked, acked_has}
use Rattle.protocol.proofs.Votes.{raise_votes, stand_votes, follow_votes}

-- a member's term rises, and no other changes
pub rises : (h : History) (j t : ℕ) → h.term j ≤ t → (k : ℕ) → h.term k ≤ put j t h.term k
rises h j t le k = elim (same_or_other k j) [ Equal e q ↦ rw (e, q) le | Apart e n ↦ rw e (le_refl _) ]

rising_acks : (h : History) (term : ℕ → ℕ) → ((k : ℕ) → h.term k ≤ term k) → Acks h → Acks (record h { term = term })
rising_acks h term up s = record {
  later = λ t j lt. s.later t j (omega (arith, up j));
  within = s.within;
  held = s.held;
  shown = λ a among. le_trans (s.shown a among) (up a.member);
  need = s.need;
}

-- what was acknowledged or shown stays, in a log that doesn't change
rising_stored :
    (F : ℕ) (h : History) (term : ℕ → ℕ) → ((k : ℕ) → h.term k ≤ term k) → Acks h → Core F h →
    (t n j : ℕ) → t ≤ term j → Open F (record h { term = term }) t n ⊎ Quiet h t (term j) →
    Stores (h.led t) (h.ack t j) (h.held t j) n (h.log j)
rising_stored F h term up acks s t n j le live = elim (cases_lt (h.term j) t) [
  | inl lt ↦ stores_none (h.led t) (h.ack t j) (h.held t j) n (h.log j) (acks.later t j lt) (acks.held t j)
  | inr past ↦ s.stored t n j past (elim live [
    | inl o ↦ inl (open_term F h term up t n o)
    | inr q ↦ inr (quiet_less h t (h.term j) (term j) (up j) q)
  ])
]

rising_shown :
    (F : ℕ) (h : History) (term : ℕ → ℕ) → ((k : ℕ) → h.term k ≤ term k) → Core F h →
    (a : Shown) → IsIn a h.answers → (t n : ℕ) → t < a.term → Open F (record h { term = term }) t n ⊎ Quiet h t a.term →
    Stores (h.led t) (h.ack t a.member) (h.held t a.member) n a.slots
rising_shown F h term up s a among t n lt live =
    s.shown a among t n lt (elim live [ inl o ↦ inl (open_term F h term up t n o) | inr q ↦ inr q ])

rising_cuts : (F : ℕ) (h : History) (term : ℕ → ℕ) → ((k : ℕ) → h.term k ≤ term k) → Cuts F h → Cuts F (record h { term = term })
rising_cuts F h term up s cut among index a lost =
    let c = s cut among index a lost in
    record {
      began = c.began;
      led = c.led;
      beyond = c.beyond;
      open_front = λ t n lt o. c.open_front t n lt (open_term F h term up t n o);
    }

rising_commit :
    (h : History) (term : ℕ → ℕ) → ((k : ℕ) → h.term k ≤ term k) → ((j : ℕ) → Decided h (h.term j) (h.commit j) (h.log j)) →
    (j : ℕ) → Decided h (term j) (h.commit j) (h.log j)
rising_commit h term up s j = let d = s j in (d.0, le_trans d.1 (up j), d.2, d.3)

rising_below : (log : List Slot) (a b : ℕ) → a ≤ b → Below log a → Below log b
rising_below log a b le s i from within = le_trans (s i from within) le

pub raise_keeps : (F : ℕ) (h : History) (j t : ℕ) → h.term j < t → Sound F h → Sound F (after h (Raise j t))
raise_keeps F h j t lt s =
    let up : (k : ℕ) → h.term k ≤ put j t h.term k = rises h j t (omega arith) in
    record {
      votes = raise_votes F h j t lt s.votes;
      logs = record {
        log = λ k. ((s.logs.log k).0, rising_below (h.log k) (h.term k) (put j t h.term k) (up k) (s.logs.log k).1);
        led = s.logs.led;
        stood = s.logs.stood;
        silent = s.logs.silent;
        began = s.logs.began;
        standing = λ k e. let r = put_elsewhere j Follower h.role k Candidate (λ c. cc) e in rw (ne_eqb k j r.0) (s.logs.standing k r.1);
        preparing = λ k e. let r = put_elsewhere j Follower h.role k Preparing (λ c. cc) e in rw (ne_eqb k j r.0) (s.logs.preparing k r.1);
        leading = λ k e. let r = put_elsewhere j Follower h.role k Leading (λ c. cc) e in rw (ne_eqb k j r.0) (s.logs.leading k r.1);
      };
      acks = rising_acks h (put j t h.term) up s.acks;
      core = record {
        led = λ a u n less o. s.core.led a u n less (open_term F h (put j t h.term) up a n o);
        preparing = λ a n k e.
            let r = put_elsewhere j Follower h.role k Preparing (λ c. cc) e in
            rw (ne_eqb k j r.0) (λ less o. s.core.preparing a n k r.1 less (open_term F h (put j t h.term) up a n o));
        ballots = λ a u n k c less o v m.
            s.core.ballots a u n k c less (open_term F h (put j t h.term) up a n o) v (may_term_of h (put j t h.term) up a n k m);
        stored = rising_stored F h (put j t h.term) up s.acks s.core;
        shown = rising_shown F h (put j t h.term) up s.core;
      };
      commits = record {
        counted = s.commits.counted;
        base = s.commits.base;
        commit = rising_commit h (put j t h.term) up s.commits.commit;
        silent = s.commits.silent;
        leading = λ k e. let r = put_elsewhere j Follower h.role k Leading (λ c. cc) e in rw (ne_eqb k j r.0) (s.commits.leading k r.1);
      };
      cuts = rising_cuts F h (put j t h.term) up s.cuts;
    }

pub restart_keeps : (F : ℕ) (h : History) (j : ℕ) → Sound F h → Sound F (after h (Restart j))
restart_keeps F h j s = record {
  votes = follow_votes F h j s.votes;
  logs = record {
    log = s.logs.log;
    led = s.logs.led;
    stood = s.logs.stood;
    silent = s.logs.silent;
    began = s.logs.began;
    standing = λ k e. let r = put_elsewhere j Follower h.role k Candidate (λ c. cc) e in s.logs.standing k r.1;
    preparing = λ k e. let r = put_elsewhere j Follower h.role k Preparing (λ c. cc) e in s.logs.preparing k r.1;
    leading = λ k e. let r = put_elsewhere j Follower h.role k Leading (λ c. cc) e in s.logs.leading k r.1;
  };
  acks = s.acks;
  core = record {
    led = s.core.led;
    preparing = λ a n k e. let r = put_elsewhere j Follower h.role k Preparing (λ c. cc) e in s.core.preparing a n k r.1;
    ballots = s.core.ballots;
    stored = s.core.stored;
    shown = s.core.shown;
  };
  commits = record {
    counted = s.commits.counted;
    base = s.commits.base;
    commit = s.commits.commit;
    silent = s.commits.silent;
    leading = λ k e. let r = put_elsewhere j Follower h.role k Leading (λ c. cc) e in s.commits.leading k r.1;
  };
  cuts = s.cuts;
}

-- a ballot for oneself is as good as the log
stand_ballots :
    (F : ℕ) (h : History) (j : ℕ) → Sound F h → (a u n k c : ℕ) → a < u → Open F (after h (Stand j)) a n →
    put_at (suc (h.term j)) j (Some j) h.voted u k ≡ Some c → may_hold (after h (Stand j)) a n k ≡ true →
    Has (put_at (suc (h.term j)) j (h.log j) h.stood u c) n a
stand_ballots F h j s a u n k c less o =
    let up : (k : ℕ) → h.term k ≤ put j (suc (h.term j)) h.term k = rises h j (suc (h.term j)) (omega arith) in
    let before : Open F h a n = open_term F h (put j (suc (h.term j)) h.term) up a n o in
    let none : h.voted (suc (h.term j)) j ≡ None = s.votes.later (suc (h.term j)) j (omega arith) in
    put_at_all (λ u k x. a < u → x ≡ Some c → may_hold (after h (Stand j)) a n k ≡ true → Has (put_at (suc (h.term j)) j (h.log j) h.stood u c) n a)
    (suc (h.term j)) j (Some j) h.voted
    (λ less e m.
    let q : j ≡ c = cc in
    let reach : n ≤ h.ack a j =
    may_acked (after h (Stand j)) a n j (rw (test_same j) less) m in
    rw (← q, test_same (suc (h.term j)), test_same j) (acked_has F h s.core a n j (omega arith) before reach))
    (λ u k apart less e m.
    let old : Has (h.stood u c) n a =
    s.core.ballots a u n k c less before e (may_term_of h (put j (suc (h.term j)) h.term) up a n k m) in
    put_at_all (λ u d log. h.voted u d ≡ Some d → Has (h.stood u d) n a → Has log n a) (suc (h.term j)) j (h.log j) h.stood
    (λ own has. absurd (cc)) (λ u d apart own has. has) u c (s.votes.candidate u k c e) old)
    u k less

pub stand_keeps : (F : ℕ) (h : History) (j : ℕ) → Sound F h → Sound F (after h (Stand j))
stand_keeps F h j s =
    let term : ℕ → ℕ = put j (suc (h.term j)) h.term in
    let up : (k : ℕ) → h.term k ≤ put j (suc (h.term j)) h.term k = rises h j (suc (h.term j)) (omega arith) in
    record {
      votes = stand_votes F h j s.votes;
      logs = record {
        log = λ k. ((s.logs.log k).0, rising_below (h.log k) (h.term k) (term k) (up k) (s.logs.log k).1);
        led = s.logs.led;
        stood =
            put_at_both (λ u c x log. x ≡ Some c → IsSound h.led log × ((i : ℕ) → 0 < i → i ≤ length log → term_at log i < u))
            (suc (h.term j)) j (Some j) h.voted (h.log j) h.stood
            (λ e. ((s.logs.log j).0, λ i from le. omega (arith, (s.logs.log j).1 i from le)))
            (λ u c apart. s.logs.stood u c);
        silent = s.logs.silent;
        began = s.logs.began;
        standing = λ k. elim (same_or_other k j) [
          | Equal e q ↦ rw (e, test_same (suc (h.term j)), q) (λ r. same_refl (h.log j))
          | Apart e n ↦ rw (e, cond_same) (s.logs.standing k)
        ];
        preparing = λ k e. let r = put_elsewhere j Candidate h.role k Preparing (λ c. cc) e in rw (ne_eqb k j r.0) (s.logs.preparing k r.1);
        leading = λ k e. let r = put_elsewhere j Candidate h.role k Leading (λ c. cc) e in rw (ne_eqb k j r.0) (s.logs.leading k r.1);
      };
      acks = rising_acks h term up s.acks;
      core = record {
        led = λ a u n less o. s.core.led a u n less (open_term F h term up a n o);
        preparing = λ a n k e.
            let r = put_elsewhere j Candidate h.role k Preparing (λ c. cc) e in
            rw (ne_eqb k j r.0) (λ less o. s.core.preparing a n k r.1 less (open_term F h term up a n o));
        ballots = stand_ballots F h j s;
        stored = rising_stored F h term up s.acks s.core;
        shown = rising_shown F h term up s.core;
      };
      commits = record {
        counted = s.commits.counted;
        base = s.commits.base;
        commit = rising_commit h term up s.commits.commit;
        silent = s.commits.silent;
        leading = λ k e. let r = put_elsewhere j Candidate h.role k Leading (λ c. cc) e in rw (ne_eqb k j r.0) (s.commits.leading k r.1);
      };
      cuts = rising_cuts F h term up s.cuts;
    }
