-- A leader adds an entry.
use Rattle.std.proofs.Common.{◌≡◌, ℕ, suc, ◌<◌, ◌≤◌, ◌⊎◌, ◌≢◌, Bool, true, List, length, sym, ◌∙◌, ap, subst, inl, inr, arith, le_trans, le_refl}
use Rattle.std.proofs.lemmas.Bool.{cases_lt, cases_Bool, ne_eqb, true≢false}
use Rattle.protocol.specs.Counting.{put}
use Rattle.protocol.specs.Logs.{Slot, Has, Agree, IsFront, KeepsWhole, Extends, term_at}
use Rattle.protocol.specs.History.{History, Candidate, Preparing, Leading}
use Rattle.protocol.specs.Words.{reaches, Quorum, Open, Quiet, Stores, Decided}
use Rattle.protocol.specs.Moves.{Propose, Adds, Allowed, after}
use Rattle.protocol.specs.Invariants.{Logs, Acks, Core, Commits, Cuts, Sound, IsSound, Below}
use Rattle.protocol.proofs.Counting.{Equal, Apart, same_or_other, put_all, put_at_all, test_same}
use Rattle.protocol.proofs.Logs.{agree_refl, agree_sym, agree_trans, agree_less, has_by, sound_extends, agree_extends, both_extend, has_extends, stores_extends, same_refl}
use Rattle.protocol.proofs.Opening.{may_acked}
use Rattle.protocol.proofs.Votes.{vote_past}
use Rattle.protocol.proofs.Begin.{other_term}
use Rattle.protocol.proofs.Adding.{adds_extends, adds_length, need_same, open_propose, late}

propose_logs :
    (F : ℕ) (h : History) (u : ℕ) (log : List Slot) (need : ℕ) → Sound F h → h.role u ≡ Leading → Adds h u log →
    Logs (after h (Propose u log need))
propose_logs F h u log need s role a =
    let x : Extends h.led (put (h.term u) log h.led) = adds_extends h s.logs u log role a in
    let won : h.won (h.term u) u ≡ true = s.votes.leading u role in
    let longer : length log ≡ suc (length (h.log u)) = a.longer in
    let newest : term_at log (length log) ≡ h.term u = a.newest in
    let old_term : (i : ℕ) → i ≤ length (h.log u) → term_at (h.log u) i ≡ term_at log i = λ i le. (a.front).same i le in
    let sound : IsSound (put (h.term u) log h.led) log =
    record {
      matches = λ i from le. elim (cases_lt (length (h.log u)) i) [
        | inl beyond ↦
            let e : i ≡ length log = omega arith in
            rw (e, newest, test_same (h.term u)) (agree_refl log (length log) (le_refl _))
        | inr within ↦
            subst (λ (b : ℕ). Agree log (put (h.term u) log h.led b) i) (old_term i within)
            (agree_trans (agree_sym (agree_less i within a.front))
            (agree_extends (term_at (h.log u) i) x ((s.logs.log u).0.matches i from within)))
      ];
      rises = λ i k from ik le. elim (cases_lt (length (h.log u)) k) [
        | inl beyond ↦ elim (cases_lt (length (h.log u)) i) [
          | inl both ↦ let e : i ≡ k = omega arith in rw e (le_refl _)
          | inr within ↦
              let e : k ≡ length log = omega arith in
              let low = (s.logs.log u).1 i from within in
              let here = old_term i within in
              rw e (omega arith)
        ]
        | inr within ↦
            let low = (s.logs.log u).0.rises i k from ik within in
            let here = old_term i (omega arith) in
            let there = old_term k within in
            omega arith
      ];
    } in
    let below : Below log (h.term u) = λ i from le. elim (cases_lt (length (h.log u)) i) [
      | inl beyond ↦ let e : i ≡ length log = omega arith in rw e (omega arith)
      | inr within ↦ let low = (s.logs.log u).1 i from within in let here = old_term i within in omega arith
    ] in
    record {
      log = put_all (λ k l. IsSound (put (h.term u) log h.led) l × Below l (h.term k)) u log h.log (sound, below)
          (λ k n. (sound_extends x (s.logs.log k).0, (s.logs.log k).1));
      led = put_all (λ t l. IsSound (put (h.term u) log h.led) l × Below l t) (h.term u) log h.led (sound, below)
          (λ t n. (sound_extends x (s.logs.led t).0, (s.logs.led t).1));
      stood = λ t c e. let r = s.logs.stood t c e in (sound_extends x r.0, r.1);
      silent = λ t e.
          let apart : t ≢ h.term u = λ y. true≢false (sym (s.logs.leading u role).0 ∙ (ap h.began (sym y) ∙ e)) in
          rw (ne_eqb t (h.term u) apart) (s.logs.silent t e);
      began = s.logs.began;
      standing = λ k e.
          let apart : k ≢ u = λ y. let c : h.role u ≡ Candidate = ap h.role (sym y) ∙ e in cc in
          rw (ne_eqb k u apart) (s.logs.standing k e);
      preparing = s.logs.preparing;
      leading = λ k. elim (same_or_other k u) [
        | Equal e q ↦ rw (e, q, test_same (h.term u)) (λ r. ((s.logs.leading u role).0, same_refl log))
        | Apart e apart ↦ rw e (λ r.
            rw (ne_eqb (h.term k) (h.term u) (other_term F h s.votes u k apart won (s.votes.leading k r))) (s.logs.leading k r))
      ];
    }

-- the leader's own log still has what it acknowledged
longer_stores :
    {led old new : List Slot} {ack n : ℕ} {held : ℕ → Bool} → IsFront old new → KeepsWhole old new (length old) →
    ((i : ℕ) → held i ≡ true → (0 < i) × (i ≤ ack)) → Stores led ack held n old → Stores led ack held n new
longer_stores front marks within s = record {
  agree = λ m le lm. let a = s.agree m le lm in agree_trans (agree_sym (agree_less m a.left front)) a;
  whole = λ i le e. marks i (s.agree i le (within i e).1).left (s.whole i le e);
}

propose_core :
    (F : ℕ) (h : History) (u : ℕ) (log : List Slot) (need : ℕ) → Sound F h → h.role u ≡ Leading → Adds h u log →
    Acks (after h (Propose u log need)) → Core F (after h (Propose u log need))
propose_core F h u log need s role a acks =
    let x : Extends h.led (put (h.term u) log h.led) = adds_extends h s.logs u log role a in
    let opens : (t n : ℕ) → Open F (after h (Propose u log need)) t n → Open F h t n ⊎ ((t ≡ h.term u) × (n ≡ length log)) =
    open_propose F h s.logs u log need role a in
    let closed : (t n w v : ℕ) → (t ≡ h.term u) × (n ≡ length log) → t < w → h.won w v ≡ true → Open F (after h (Propose u log need)) t n → ⊥ =
    λ t n w v new. late F h s u log need role a acks t n w v new.0 new.1 in
    let lives : (t n bound : ℕ) → Open F (after h (Propose u log need)) t n ⊎ Quiet h t bound → Open F h t n ⊎ Quiet h t bound =
    λ t n bound live. elim live [
      | inl o ↦ elim (opens t n o) [
        | inl before ↦ inl before
        | inr new ↦ inr (λ w lt le. elim (cases_Bool (h.began w)) [
          | inl led ↦ let winner = s.logs.began w led in absurd (closed t n w winner.0 new lt winner.1 o)
          | inr none ↦ none
        ])
      ]
      | inr q ↦ inr q
    ] in
    record {
      led = λ t w n lt o began. elim (opens t n o) [
        | inl before ↦ has_extends w n t x (s.core.led t w n lt before began)
        | inr new ↦ let winner = s.logs.began w began in absurd (closed t n w winner.0 new lt winner.1 o)
      ];
      preparing = λ t n k e lt o.
          let apart : k ≢ u = λ y. let c : h.role u ≡ Preparing = ap h.role (sym y) ∙ e in cc in
          elim (opens t n o) [
            | inl before ↦ rw (ne_eqb k u apart) (s.core.preparing t n k e lt before)
            | inr new ↦ absurd (closed t n (h.term k) k new lt (s.votes.preparing k e) o)
          ];
      ballots = λ t w n j c lt o v m. elim (opens t n o) [
        | inl before ↦ s.core.ballots t w n j c lt before v m
        | inr new ↦ absurd (
            let past : w ≤ h.term j = vote_past F h s.votes w j c v in
            let reach : n ≤ h.ack t j = may_acked h t n j (omega arith) m in
            let within : h.ack t j ≤ length (h.led t) = s.acks.within t j in
            let there : length (h.led t) ≡ length (h.led (h.term u)) = ap (λ (b : ℕ). length (h.led b)) new.0 in
            let long = adds_length h s.logs u log role a in
            let newest = new.1 in
            omega arith)
      ];
      stored = λ t n k le live.
          put_all (λ k l. Stores (h.led t) (h.ack t k) (h.held t k) n (h.log k) → Stores (put (h.term u) log h.led t) (h.ack t k) (h.held t k) n l) u log h.log
          (λ old. stores_extends (x t) (longer_stores a.front a.marks (s.acks.held t u) old)) (λ k apart old. stores_extends (x t) old)
          k (s.core.stored t n k le (lives t n (h.term k) live));
      shown = λ b among t n lt live. stores_extends (x t) (s.core.shown b among t n lt (lives t n b.term live));
    }

propose_commits :
    (F : ℕ) (h : History) (u : ℕ) (log : List Slot) (need : ℕ) → Sound F h → h.role u ≡ Leading → Adds h u log →
    Commits F (after h (Propose u log need))
propose_commits F h u log need s role a =
    let x : Extends h.led (put (h.term u) log h.led) = adds_extends h s.logs u log role a in
    record {
      counted = λ t lt.
          let c = s.commits.counted t lt in
          let within = (c.own).within in
          record {
            own = has_extends t (h.decided t) t x c.own;
            above = c.above;
            each = λ i more le.
                subst (Quorum F (λ j. h.held t j i) (reaches h t i)) (sym (need_same h s.logs u log need role a t i (omega arith) (omega arith)))
                (c.each i more le);
          };
      base = λ t lt. let o = s.commits.base t lt in (o.0, o.1, o.2, both_extend t o.0 x o.3);
      commit = put_all (λ k l. Decided (after h (Propose u log need)) (h.term k) (h.commit k) l) u log h.log
          (let o = s.commits.commit u in
          (o.0, o.1, o.2, agree_trans (agree_sym (agree_less (h.commit u) (o.3).left a.front)) (agree_extends o.0 x o.3)))
          (λ k apart. let o = s.commits.commit k in (o.0, o.1, o.2, agree_extends o.0 x o.3));
      silent = s.commits.silent;
      leading = s.commits.leading;
    }

propose_cuts :
    (F : ℕ) (h : History) (u : ℕ) (log : List Slot) (need : ℕ) → Sound F h → h.role u ≡ Leading → Adds h u log →
    Acks (after h (Propose u log need)) → Cuts F (after h (Propose u log need))
propose_cuts F h u log need s role a acks cut among index b lost =
    let x : Extends h.led (put (h.term u) log h.led) = adds_extends h s.logs u log role a in
    let c = s.cuts cut among index b lost in
    let more : length (h.led cut.term) ≤ length (put (h.term u) log h.led cut.term) = (x cut.term).right in
    record {
      began = c.began;
      led = λ has. elim (cases_lt (length (h.led cut.term)) index) [
        | inl beyond ↦ elim (same_or_other cut.term (h.term u)) [
          | Equal e q ↦
              let it : Has log index b = rw e at has in
              let within = it.within in
              let long = adds_length h s.logs u log role a in
              let there : length (h.led cut.term) ≡ length (h.led (h.term u)) = ap (λ (b : ℕ). length (h.led b)) q in
              let at_end : index ≡ length log = omega arith in
              let here : term_at log (length log) ≡ b = rw at_end at it.here in
              let newest = a.newest in
              let low = c.beyond beyond in
              omega arith
          | Apart e apart ↦ let it : Has (h.led cut.term) index b = rw e at has in let within = it.within in omega arith
        ]
        | inr le ↦ c.led (has_by index b (agree_sym (x cut.term)) le has)
      ];
      beyond = λ short. c.beyond (omega arith);
      open_front = λ t n lt o le has. elim (open_propose F h s.logs u log need role a t n o) [
        | inl before ↦
            let within = (before.own).within in
            c.open_front t n lt before le (has_by index b (agree_sym (x t)) (omega arith) has)
        | inr new ↦
            let winner = s.logs.began cut.term c.began in
            late F h s u log need role a acks t n cut.term winner.0 new.0 new.1 lt winner.1 o
      ];
    }

pub propose_keeps :
    (F : ℕ) (h : History) (u : ℕ) (log : List Slot) (need : ℕ) → Allowed F h (Propose u log need) → Sound F h →
    Sound F (after h (Propose u log need))
propose_keeps F h u log need a s =
    let x : Extends h.led (put (h.term u) log h.led) = adds_extends h s.logs u log a.0 a.1 in
    let acks : Acks (after h (Propose u log need)) =
    record {
      later = s.acks.later;
      within = λ t j. le_trans (s.acks.within t j) (x t).right;
      held = s.acks.held;
      shown = s.acks.shown;
      need = put_at_all (λ t i y. 0 < y) (h.term u) (length log) need h.need a.2 (λ t i apart. s.acks.need t i);
    } in
    record {
      votes = s.votes;
      logs = propose_logs F h u log need s a.0 a.1;
      acks = acks;
      core = propose_core F h u log need s a.0 a.1 acks;
      commits = propose_commits F h u log need s a.0 a.1;
      cuts = propose_cuts F h u log need s a.0 a.1 acks;
    }
