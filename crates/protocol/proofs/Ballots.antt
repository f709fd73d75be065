-- A vote, and an election that is won: who may hold an entry votes only for a log that has it, so a winner's log has it.
use Rattle.std.proofs.Common.{◌≡◌, ℕ, zero, suc, ◌<◌, ◌≤◌, true, false, List, length, Option, Some, refl, subst, inl, inr, arith, le_refl}
use Rattle.std.proofs.lemmas.Bool.{cases_lt, false_from_ne_true}
use Rattle.protocol.specs.Counting.{put_at, members}
use Rattle.protocol.specs.Logs.{Slot, Has, Agree, term_at, last_term}
use Rattle.protocol.specs.History.{History, Candidate, Preparing, Leading}
use Rattle.protocol.specs.Words.{is_for, may_hold, Open}
use Rattle.protocol.specs.Moves.{Cast, Win, Allowed, after}
use Rattle.protocol.specs.Invariants.{Sound, IsSound}
use Rattle.protocol.proofs.Counting.{put_all, put_at_all, put_elsewhere, overlap, is_for-Some}
use Rattle.protocol.proofs.Logs.{term_at-zero, has_by, agree_sym, same_has}
use Rattle.protocol.proofs.Opening.{may_acked, acked_has, began_by, open_majority}
use Rattle.protocol.proofs.Votes.{cast_votes, win_votes, one_majority}

-- a log with a last term above 0 isn't empty
index_pos : (log : List Slot) (n : ℕ) → 0 < term_at log n → 0 < n
index_pos log zero lt = absurd (let e : term_at log 0 ≡ 0 = term_at-zero log in omega arith)
index_pos log (suc n) lt = omega arith

-- the candidate's log has what the voter may hold
cast_has :
    (F : ℕ) (h : History) (j c : ℕ) → Allowed F h (Cast j c) → Sound F h → (t n : ℕ) → t < h.term j → Open F h t n →
    may_hold h t n j ≡ true → Has (h.stood (h.term j) c) n t
cast_has F h j c a s t n lt o m =
    let log : List Slot = h.stood (h.term j) c in
    let voter : Has (h.log j) n t = acked_has F h s.core t n j (omega arith) o (may_acked h t n j lt m) in
    let reach : term_at (h.log j) n ≤ last_term (h.log j) =
    (s.logs.log j).0.rises n (length (h.log j)) voter.from voter.within (le_refl _) in
    let here : term_at (h.log j) n ≡ t = voter.here in
    let within : n ≤ length (h.log j) = voter.within in
    let from : 0 < n = voter.from in
    let sound : IsSound h.led (h.stood (h.term j) c) = (s.logs.stood (h.term j) c a.1).0 in
    let low : t ≤ last_term (h.stood (h.term j) c) = elim a.2 [ inl later ↦ omega arith | inr even ↦ let e = even.0 in omega arith ] in
    let some : 0 < length (h.stood (h.term j) c) =
    elim a.2 [
      | inl later ↦ index_pos (h.stood (h.term j) c) (length (h.stood (h.term j) c)) (omega arith)
      | inr even ↦ let e = even.1 in omega arith
    ] in
    let ends : Agree (h.stood (h.term j) c) (h.led (last_term (h.stood (h.term j) c))) (length (h.stood (h.term j) c)) =
    sound.matches (length (h.stood (h.term j) c)) some (le_refl _) in
    elim (cases_lt t (last_term (h.stood (h.term j) c))) [
      | inl later ↦
          let b : ℕ = last_term (h.stood (h.term j) c) in
          let right = ends.right in
          let known : Has (h.led (last_term (h.stood (h.term j) c))) n t =
          s.core.led t (last_term (h.stood (h.term j) c)) n later o (began_by h s.logs (last_term (h.stood (h.term j) c)) (omega arith)) in
          let short : n ≤ length (h.stood (h.term j) c) = elim (cases_lt (length (h.stood (h.term j) c)) n) [
            | inl beyond ↦
                let up : term_at (h.led (last_term (h.stood (h.term j) c))) (length (h.stood (h.term j) c)) ≤ term_at (h.led (last_term (h.stood (h.term j) c))) n =
                (s.logs.led (last_term (h.stood (h.term j) c))).0.rises (length (h.stood (h.term j) c)) n some (omega arith) known.within in
                let at_end : term_at (h.stood (h.term j) c) (length (h.stood (h.term j) c)) ≡ term_at (h.led (last_term (h.stood (h.term j) c))) (length (h.stood (h.term j) c)) =
                ends.same (length (h.stood (h.term j) c)) (le_refl _) in
                let at_n : term_at (h.led (last_term (h.stood (h.term j) c))) n ≡ t = known.here in
                absurd (omega arith)
            | inr le ↦ le
          ] in
          has_by n t (agree_sym ends) short known
      | inr no_later ↦
          let e : last_term (h.stood (h.term j) c) ≡ t = omega arith in
          let short : n ≤ length (h.stood (h.term j) c) = elim a.2 [
            | inl later ↦ absurd (omega arith)
            | inr even ↦ let le = even.1 in omega arith
          ] in
          has_by n t (agree_sym (subst (λ (b : ℕ). Agree (h.stood (h.term j) c) (h.led b) (length (h.stood (h.term j) c))) e ends)) short o.own
    ]

-- a vote for oneself was there before the vote that is added
own_before :
    (voted : ℕ → ℕ → Option ℕ) (t j c : ℕ) → voted t c ≡ Some c →
    (u d : ℕ) → put_at t j (Some c) voted u d ≡ Some d → voted u d ≡ Some d
own_before voted t j c own u d =
    put_at_all (λ u d x. x ≡ Some d → voted u d ≡ Some d) t j (Some c) voted
    (λ e. let q : c ≡ j = cc in rw (← q) own) (λ u d n e. e) u d

pub cast_keeps : (F : ℕ) (h : History) (j c : ℕ) → Allowed F h (Cast j c) → Sound F h → Sound F (after h (Cast j c))
cast_keeps F h j c a s = record {
  votes = cast_votes F h j c a s.votes;
  logs = record {
    log = s.logs.log;
    led = s.logs.led;
    stood = λ t d e. s.logs.stood t d (own_before h.voted (h.term j) j c a.1 t d e);
    silent = s.logs.silent;
    began = s.logs.began;
    standing = s.logs.standing;
    preparing = s.logs.preparing;
    leading = s.logs.leading;
  };
  acks = s.acks;
  core = record {
    led = s.core.led;
    preparing = s.core.preparing;
    ballots = λ t u n k d less o.
        put_at_all (λ u k x. t < u → x ≡ Some d → may_hold h t n k ≡ true → Has (h.stood u d) n t) (h.term j) j (Some c) h.voted
        (λ less e m. let q : c ≡ d = cc in rw (← q) (cast_has F h j c a s t n less o m))
        (λ u k apart less e m. s.core.ballots t u n k d less o e m) u k less;
    stored = s.core.stored;
    shown = s.core.shown;
  };
  commits = s.commits;
  cuts = s.cuts;
}

-- no other member won the term before
pub fresh_winner : (F : ℕ) (h : History) (u : ℕ) → Allowed F h (Win u) → Sound F h → h.began (h.term u) ≡ false
fresh_winner F h u a s = false_from_ne_true (h.began (h.term u)) (λ e.
    let winner : (v : ℕ) × (h.won (h.term u) v ≡ true) = s.logs.began (h.term u) e in
    let q : winner.0 ≡ u = one_majority F h (h.term u) winner.0 u (s.votes.won (h.term u) winner.0 winner.1) a.1 in
    let yes : h.won (h.term u) u ≡ true = subst (λ (v : ℕ). h.won (h.term u) v ≡ true) q winner.1 in
    let none : h.won (h.term u) u ≡ false = (s.votes.standing u a.0).1 in
    cc)

-- the winner's log has what is open
win_has :
    (F : ℕ) (h : History) (u : ℕ) → Allowed F h (Win u) → Sound F h → (t n : ℕ) → t < h.term u → Open F h t n → Has (h.log u) n t
win_has F h u a s t n lt o =
    let voter : (j : ℕ) × (j < members F) × (may_hold h t n j ≡ true) × (is_for u (h.voted (h.term u) j) ≡ true) =
    overlap (may_hold h t n) (λ j. is_for u (h.voted (h.term u) j)) (members F) (let m = open_majority F h s.acks t n o in let v = a.1 in omega arith) in
    let it : Has (h.stood (h.term u) u) n t =
    s.core.ballots t (h.term u) n voter.0 u lt o (is_for-Some u (h.voted (h.term u) voter.0) voter.3) voter.2 in
    same_has n t (s.logs.standing u a.0) it

pub win_keeps : (F : ℕ) (h : History) (u : ℕ) → Allowed F h (Win u) → Sound F h → Sound F (after h (Win u))
win_keeps F h u a s = record {
  votes = win_votes F h u a s.votes;
  logs = record {
    log = s.logs.log;
    led = s.logs.led;
    stood = s.logs.stood;
    silent = s.logs.silent;
    began = λ t e. let w = s.logs.began t e in
        (w.0, put_at_all (λ t v b. h.won t v ≡ true → b ≡ true) (h.term u) u true h.won (λ e. refl) (λ t v n e. e) t w.0 w.1);
    standing = λ k e. let r = put_elsewhere u Preparing h.role k Candidate (λ c. cc) e in s.logs.standing k r.1;
    preparing = put_all (λ k r. r ≡ Preparing → h.began (h.term k) ≡ false) u Preparing h.role
        (λ e. fresh_winner F h u a s) (λ k n. s.logs.preparing k);
    leading = λ k e. let r = put_elsewhere u Preparing h.role k Leading (λ c. cc) e in s.logs.leading k r.1;
  };
  acks = s.acks;
  core = record {
    led = s.core.led;
    preparing = λ t n.
        put_all (λ k r. r ≡ Preparing → t < h.term k → Open F h t n → Has (h.log k) n t) u Preparing h.role
        (λ e lt o. win_has F h u a s t n lt o) (λ k apart. s.core.preparing t n k);
    ballots = s.core.ballots;
    stored = s.core.stored;
    shown = s.core.shown;
  };
  commits = record {
    counted = s.commits.counted;
    base = s.commits.base;
    commit = s.commits.commit;
    silent = s.commits.silent;
    leading = λ k e. let r = put_elsewhere u Preparing h.role k Leading (λ c. cc) e in s.commits.leading k r.1;
  };
  cuts = s.cuts;
}
