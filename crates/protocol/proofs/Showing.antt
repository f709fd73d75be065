-- Parts that become whole, logs that are shown to a leader, and commits that are learnt.
use Rattle.std.proofs.Common.{◌≡◌, ℕ, ◌<◌, ◌≤◌, ◌⊎◌, Bool, true, List, length, inl, inr, arith, le_trans, le_refl}
use Rattle.protocol.specs.Logs.{Slot, Has, Same, KeepsWhole}
use Rattle.protocol.specs.History.{History, Candidate, Preparing, Leading}
use Rattle.protocol.specs.Words.{Open, Quiet, Stores, Decided}
use Rattle.protocol.specs.Moves.{Rebuild, Answer, Learn, Allowed, after}
use Rattle.protocol.specs.Invariants.{Sound, IsSound, Below}
use Rattle.protocol.proofs.Counting.{put_all}
use Rattle.protocol.proofs.Logs.{same_sym, same_trans, same_agrees, same_has, sound_same, below_same, agree_trans, agree_less}

-- the same entries, in forms as good
stores_same :
    {led log new : List Slot} {ack n : ℕ} {held : ℕ → Bool} → Same log new → KeepsWhole log new (length new) →
    ((i : ℕ) → held i ≡ true → (0 < i) × (i ≤ ack)) → Stores led ack held n log → Stores led ack held n new
stores_same e kept within s = record {
  agree = λ m le lm. same_agrees e (s.agree m le lm);
  whole = λ i le h.
      let a = s.agree i le (within i h).1 in
      let left = a.left in
      let long = e.long in
      kept i (omega arith) (s.whole i le h);
}

pub rebuild_keeps :
    (F : ℕ) (h : History) (j : ℕ) (log : List Slot) → Allowed F h (Rebuild j log) → Sound F h → Sound F (after h (Rebuild j log))
rebuild_keeps F h j log a s = record {
  votes = s.votes;
  logs = record {
    log = put_all (λ k l. IsSound h.led l × Below l (h.term k)) j log h.log
        (sound_same a.0 (s.logs.log j).0, below_same (h.term j) a.0 (s.logs.log j).1) (λ k n. s.logs.log k);
    led = s.logs.led;
    stood = s.logs.stood;
    silent = s.logs.silent;
    began = s.logs.began;
    standing = put_all (λ k l. h.role k ≡ Candidate → Same (h.stood (h.term k) k) l) j log h.log
        (λ e. same_trans (s.logs.standing j e) a.0) (λ k n. s.logs.standing k);
    preparing = s.logs.preparing;
    leading = put_all (λ k l. h.role k ≡ Leading → (h.began (h.term k) ≡ true) × Same l (h.led (h.term k))) j log h.log
        (λ e. let r = s.logs.leading j e in (r.0, same_trans (same_sym a.0) r.1)) (λ k n. s.logs.leading k);
  };
  acks = s.acks;
  core = record {
    led = s.core.led;
    preparing = λ t n. put_all (λ k l. h.role k ≡ Preparing → t < h.term k → Open F h t n → Has l n t) j log h.log
        (λ e lt o. same_has n t a.0 (s.core.preparing t n j e lt o)) (λ k apart. s.core.preparing t n k);
    ballots = s.core.ballots;
    stored = λ t n. put_all
        (λ k l. t ≤ h.term k → Open F h t n ⊎ Quiet h t (h.term k) → Stores (h.led t) (h.ack t k) (h.held t k) n l) j log h.log
        (λ le live. stores_same a.0 a.1 (s.acks.held t j) (s.core.stored t n j le live)) (λ k apart. s.core.stored t n k);
    shown = s.core.shown;
  };
  commits = record {
    counted = s.commits.counted;
    base = s.commits.base;
    commit = put_all (λ k l. Decided h (h.term k) (h.commit k) l) j log h.log
        (let d = s.commits.commit j in (d.0, d.1, d.2, same_agrees a.0 d.3)) (λ k n. s.commits.commit k);
    silent = s.commits.silent;
    leading = s.commits.leading;
  };
  cuts = s.cuts;
}

pub answer_keeps : (F : ℕ) (h : History) (j from : ℕ) → Sound F h → Sound F (after h (Answer j from))
answer_keeps F h j from s = record {
  votes = s.votes;
  logs = s.logs;
  acks = record {
    later = s.acks.later;
    within = s.acks.within;
    held = s.acks.held;
    shown = λ a among. elim among [ inl e ↦ rw e (le_refl _) | inr old ↦ s.acks.shown a old ];
    need = s.acks.need;
  };
  core = record {
    led = s.core.led;
    preparing = s.core.preparing;
    ballots = s.core.ballots;
    stored = s.core.stored;
    shown = λ a among. elim among [
      | inl e ↦ rw e (λ t n lt live. s.core.stored t n j (omega arith) live)
      | inr old ↦ s.core.shown a old
    ];
  };
  commits = s.commits;
  cuts = s.cuts;
}

-- what a leader committed, by counting or before it began, lies within a front that was counted
learn_decided :
    (F : ℕ) (h : History) (j n : ℕ) → Allowed F h (Learn j n) → Sound F h → Decided h (h.term j) n (h.log j)
learn_decided F h j n a s = elim a.2 [
  | inl began ↦
      let first = a.0 in
      let b = s.commits.base (h.term j) (omega arith) in
      let under = b.1 in
      (b.0, omega arith, le_trans began b.2, agree_trans a.1 (agree_less n began b.3))
  | inr counted ↦ (h.term j, le_refl _, counted, a.1)
]

-- and a leader knows of no more than it committed
learn_leads :
    (F : ℕ) (h : History) (j n : ℕ) → Allowed F h (Learn j n) → Sound F h → h.role j ≡ Leading → ⊥
learn_leads F h j n a s e =
    let first = a.0 in
    elim (s.commits.leading j e) [
      | inl still ↦ let b = still.0 in let d = still.1 in elim a.2 [ inl x ↦ omega arith | inr y ↦ omega arith ]
      | inr moved ↦ let b = moved.0 in let d = moved.1 in elim a.2 [ inl x ↦ omega arith | inr y ↦ omega arith ]
    ]

pub learn_keeps : (F : ℕ) (h : History) (j n : ℕ) → Allowed F h (Learn j n) → Sound F h → Sound F (after h (Learn j n))
learn_keeps F h j n a s = record {
  votes = s.votes;
  logs = s.logs;
  acks = s.acks;
  core = s.core;
  commits = record {
    counted = s.commits.counted;
    base = s.commits.base;
    commit = put_all (λ k c. Decided h (h.term k) c (h.log k)) j n h.commit (learn_decided F h j n a s) (λ k apart. s.commits.commit k);
    silent = s.commits.silent;
    leading = put_all
        (λ k c. h.role k ≡ Leading →
        ((c ≡ h.base (h.term k)) × (h.decided (h.term k) ≡ 0)) ⊎ ((c ≡ h.decided (h.term k)) × (h.base (h.term k) < c))) j n h.commit
        (λ e. absurd (learn_leads F h j n a s e)) (λ k apart. s.commits.leading k);
  };
  cuts = s.cuts;
}
