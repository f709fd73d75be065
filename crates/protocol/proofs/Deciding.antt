-- Acknowledgements, and the leader that counts them.
use Rattle.std.proofs.Common.{◌≡◌, ℕ, ◌<◌, ◌≤◌, ◌⊎◌, ◌≢◌, Bool, true, false, ◌||◌, nat_le, max, List, length, refl, sym, ◌∙◌, subst, inl, inr, arith, le_trans, le_refl}
use Rattle.std.proofs.lemmas.Bool.{cases_lt, or_cases, or_left, or_right, leb-true, le-leb, ne_eqb, true≢false}
use Rattle.protocol.specs.Counting.{put}
use Rattle.protocol.specs.Logs.{Slot, whole_at}
use Rattle.protocol.specs.History.{History}
use Rattle.protocol.specs.Words.{reaches, may_hold, may_hold_whole, need_at, Counted, Open, Quiet, Stores, Decided}
use Rattle.protocol.specs.Moves.{Acknowledge, Decide, Allowed, after}
use Rattle.protocol.specs.Invariants.{Acks, Core, Sound}
use Rattle.protocol.proofs.Counting.{Equal, Apart, same_or_other, put_all, put_at_all, put_at_both, test_same}
use Rattle.protocol.proofs.Logs.{whole_at-zero, agree_less, front_to}
use Rattle.protocol.proofs.Opening.{quorum_more}
use Rattle.protocol.proofs.Votes.{one_winner}

-- who acknowledges was counted among those that may
may_ack :
    (h : History) (j reach : ℕ) (whole : ℕ → Bool) (t n k : ℕ) →
    may_hold (after h (Acknowledge j reach whole)) t n k ≡ true → may_hold h t n k ≡ true
may_ack h j reach whole t n k =
    put_at_all (λ t k x. (nat_le n x || nat_le (h.term k) t) ≡ true → may_hold h t n k ≡ true)
    (h.term j) j (max (h.ack (h.term j) j) reach) h.ack
    (λ e. or_right (nat_le n (h.ack (h.term j) j)) _ (le-leb (h.term j) (h.term j) (le_refl _)))
    (λ t k apart e. e) t k

may_ack_whole :
    (h : History) (j reach : ℕ) (whole : ℕ → Bool) (t i k : ℕ) →
    may_hold_whole (after h (Acknowledge j reach whole)) t i k ≡ true → may_hold_whole h t i k ≡ true
may_ack_whole h j reach whole t i k =
    put_at_all (λ t k f. (f i || nat_le (h.term k) t) ≡ true → may_hold_whole h t i k ≡ true)
    (h.term j) j (λ i. h.held (h.term j) j i || whole i) h.held
    (λ e. or_right (h.held (h.term j) j i) _ (le-leb (h.term j) (h.term j) (le_refl _)))
    (λ t k apart e. e) t k

-- acknowledgements open nothing
open_ack :
    (F : ℕ) (h : History) (j reach : ℕ) (whole : ℕ → Bool) (t n : ℕ) →
    Open F (after h (Acknowledge j reach whole)) t n → Open F h t n
open_ack F h j reach whole t n o = record {
  own = o.own;
  above = o.above;
  each = λ i lt le.
      quorum_more F (may_hold_whole (after h (Acknowledge j reach whole)) t i) (may_hold_whole h t i)
      (may_hold (after h (Acknowledge j reach whole)) t i) (may_hold h t i) (need_at h t i)
      (may_ack_whole h j reach whole t i) (may_ack h j reach whole t i) (o.each i lt le);
}

-- and what was counted stays counted
counted_ack :
    (F : ℕ) (h : History) (j reach : ℕ) (whole : ℕ → Bool) (t n : ℕ) →
    Counted F h t n → Counted F (after h (Acknowledge j reach whole)) t n
counted_ack F h j reach whole t n c = record {
  own = c.own;
  above = c.above;
  each = λ i lt le.
      quorum_more F (λ k. h.held t k i) (λ k. (after h (Acknowledge j reach whole)).held t k i)
      (reaches h t i) (reaches (after h (Acknowledge j reach whole)) t i) (need_at h t i)
      (λ k. put_at_all (λ t k f. h.held t k i ≡ true → f i ≡ true) (h.term j) j (λ i. h.held (h.term j) j i || whole i) h.held
      (λ e. or_left _ _ e) (λ t k apart e. e) t k)
      (λ k. put_at_all (λ t k x. nat_le i (h.ack t k) ≡ true → nat_le i x ≡ true) (h.term j) j (max (h.ack (h.term j) j) reach) h.ack
      (λ e. le-leb _ _ (let le : i ≤ h.ack (h.term j) j = leb-true _ _ e in omega arith)) (λ t k apart e. e) t k)
      (c.each i lt le);
}

ack_acks :
    (F : ℕ) (h : History) (j reach : ℕ) (whole : ℕ → Bool) → Allowed F h (Acknowledge j reach whole) → Acks h →
    Acks (after h (Acknowledge j reach whole))
ack_acks F h j reach whole a s = record {
  later = put_at_all (λ t k x. h.term k < t → x ≡ 0) (h.term j) j (max (h.ack (h.term j) j) reach) h.ack
      (λ lt. absurd (omega arith)) (λ t k apart. s.later t k);
  within = put_at_all (λ t k x. x ≤ length (h.led t)) (h.term j) j (max (h.ack (h.term j) j) reach) h.ack
      (let right = (a.0).right in let w = s.within (h.term j) j in omega arith) (λ t k apart. s.within t k);
  held = put_at_both (λ t k x f. (i : ℕ) → f i ≡ true → (0 < i) × (i ≤ x)) (h.term j) j
      (max (h.ack (h.term j) j) reach) h.ack (λ i. h.held (h.term j) j i || whole i) h.held
      (λ i e. elim (or_cases (h.held (h.term j) j i) (whole i) e) [
        | inl old ↦ let w = s.held (h.term j) j i old in (w.0, let le = w.1 in omega arith)
        | inr new ↦ let w = a.1 i new in (positive (h.log j) i w.1, let le = w.0 in omega arith)
      ])
      (λ t k apart. s.held t k);
  shown = s.shown;
  need = s.need;
}
  where
    positive : (log : List Slot) (i : ℕ) → whole_at log i ≡ true → 0 < i
    positive log i e = elim (same_or_other i 0) [
      | Equal x q ↦ absurd (true≢false (subst (λ (k : ℕ). true ≡ whole_at log k) q (sym e) ∙ whole_at-zero log))
      | Apart x n ↦ omega arith
    ]

-- what is acknowledged now is in the log now
ack_stored :
    (F : ℕ) (h : History) (j reach : ℕ) (whole : ℕ → Bool) → Allowed F h (Acknowledge j reach whole) → Core F h → (n : ℕ) →
    Stores (h.led (h.term j)) (max (h.ack (h.term j) j) reach) (λ i. h.held (h.term j) j i || whole i) n (h.log j)
ack_stored F h j reach whole a s n =
    let old : Stores (h.led (h.term j)) (h.ack (h.term j) j) (h.held (h.term j) j) n (h.log j) =
    s.stored (h.term j) n j (le_refl _) (inr (λ u lt ub. absurd (omega arith))) in
    record {
      agree = λ m le lm. elim (cases_lt (h.ack (h.term j) j) m) [
        | inl beyond ↦ agree_less m (omega arith) a.0
        | inr within ↦ old.agree m le within
      ];
      whole = λ i le e. elim (or_cases (h.held (h.term j) j i) (whole i) e) [
        | inl before ↦ old.whole i le before
        | inr new ↦ (a.1 i new).1
      ];
    }

pub ack_keeps :
    (F : ℕ) (h : History) (j reach : ℕ) (whole : ℕ → Bool) → Allowed F h (Acknowledge j reach whole) → Sound F h →
    Sound F (after h (Acknowledge j reach whole))
ack_keeps F h j reach whole a s =
    let opens : (t n : ℕ) → Open F (after h (Acknowledge j reach whole)) t n → Open F h t n = open_ack F h j reach whole in
    record {
      votes = s.votes;
      logs = s.logs;
      acks = ack_acks F h j reach whole a s.acks;
      core = record {
        led = λ t u n lt o. s.core.led t u n lt (opens t n o);
        preparing = λ t n u e lt o. s.core.preparing t n u e lt (opens t n o);
        ballots = λ t u n k c lt o v m. s.core.ballots t u n k c lt (opens t n o) v (may_ack h j reach whole t n k m);
        stored = λ t n k le live.
            let before : Open F h t n ⊎ Quiet h t (h.term k) = elim live [ inl o ↦ inl (opens t n o) | inr q ↦ inr q ] in
            put_at_both (λ t k x f. Stores (h.led t) (h.ack t k) (h.held t k) n (h.log k) → Stores (h.led t) x f n (h.log k)) (h.term j) j
            (max (h.ack (h.term j) j) reach) h.ack (λ i. h.held (h.term j) j i || whole i) h.held
            (λ old. ack_stored F h j reach whole a s.core n) (λ t k apart old. old) t k (s.core.stored t n k le before);
        shown = λ b among t n lt live.
            let before : Open F h t n ⊎ Quiet h t b.term = elim live [ inl o ↦ inl (opens t n o) | inr q ↦ inr q ] in
            let past : b.term ≤ h.term b.member = s.acks.shown b among in
            put_at_both
            (λ t k x f. t < h.term k → Stores (h.led t) (h.ack t k) (h.held t k) n b.slots → Stores (h.led t) x f n b.slots)
            (h.term j) j (max (h.ack (h.term j) j) reach) h.ack (λ i. h.held (h.term j) j i || whole i) h.held
            (λ lt old. absurd (omega arith)) (λ t k apart lt old. old) t b.member (omega arith) (s.core.shown b among t n lt before);
      };
      commits = record {
        counted = λ t lt. counted_ack F h j reach whole t (h.decided t) (s.commits.counted t lt);
        base = s.commits.base;
        commit = s.commits.commit;
        silent = s.commits.silent;
        leading = s.commits.leading;
      };
      cuts = λ cut among index b lost.
          let c = s.cuts cut among index b lost in
          record { began = c.began; led = c.led; beyond = c.beyond; open_front = λ t n lt o. c.open_front t n lt (opens t n o) };
    }

-- the leader counts up from its commit index, below which all was counted before, in this term or by an earlier leader
pub decide_counted :
    (F : ℕ) (h : History) (u n : ℕ) → Allowed F h (Decide u n) → Sound F h →
    (h.decided (h.term u) ≤ n) × Counted F h (h.term u) n
decide_counted F h u n a s =
    let more = a.2 in
    elim (s.commits.leading u a.0) [
      | inl still ↦
          let b = still.0 in
          let d = still.1 in
          (omega arith, record { own = a.1; above = omega arith; each = λ i lt le. a.3 i (omega arith) le })
      | inr moved ↦
          let d = moved.0 in
          let b = moved.1 in (
            omega arith,
            record {
              own = a.1;
              above = omega arith;
              each = λ i lt le. elim (cases_lt (h.commit u) i) [
                | inl beyond ↦ a.3 i beyond le
                | inr within ↦ (s.commits.counted (h.term u) (omega arith)).each i lt (omega arith)
              ];
            },
          )
    ]

pub decide_keeps : (F : ℕ) (h : History) (u n : ℕ) → Allowed F h (Decide u n) → Sound F h → Sound F (after h (Decide u n))
decide_keeps F h u n a s =
    let counted : (h.decided (h.term u) ≤ n) × Counted F h (h.term u) n = decide_counted F h u n a s in
    let grows : (t : ℕ) → h.decided t ≤ put (h.term u) n h.decided t =
    put_all (λ t d. h.decided t ≤ d) (h.term u) n h.decided counted.0 (λ t apart. le_refl _) in
    let leads = s.logs.leading u a.0 in
    record {
      votes = s.votes;
      logs = s.logs;
      acks = s.acks;
      core = s.core;
      commits = record {
        counted = put_all (λ t d. 0 < d → Counted F h t d) (h.term u) n h.decided (λ lt. counted.1) (λ t apart. s.commits.counted t);
        base = λ t lt. let b = s.commits.base t lt in (b.0, b.1, le_trans b.2 (grows b.0), b.3);
        commit = put_all (λ k c. Decided (after h (Decide u n)) (h.term k) c (h.log k)) u n h.commit (
          h.term u,
          le_refl _,
          rw (test_same (h.term u)) (le_refl _),
          front_to n (let w = (a.1).within in let e = (leads.1).long in omega arith) (leads.1).agree,
        )
            (λ k apart. let d = s.commits.commit k in (d.0, d.1, le_trans d.2 (grows d.0), d.3));
        silent = put_all (λ t d. h.began t ≡ false → (h.base t ≡ 0) × (d ≡ 0)) (h.term u) n h.decided
            (λ e. absurd (let yes = leads.0 in true≢false (sym yes ∙ e))) (λ t apart. s.commits.silent t);
        leading = λ k. elim (same_or_other k u) [
          | Equal e q ↦ rw (e, q, test_same (h.term u)) (λ r. inr (refl, (counted.1).above))
          | Apart e apart ↦ rw e (λ r.
              let other_term : h.term k ≢ h.term u = λ x.
              apart (one_winner F h s.votes (h.term u) k u
              (subst (λ (t : ℕ). h.won t k ≡ true) x (s.votes.leading k r)) (s.votes.leading u a.0)) in
              rw (ne_eqb (h.term k) (h.term u) other_term) (s.commits.leading k r))
        ];
      };
      cuts = s.cuts;
    }
